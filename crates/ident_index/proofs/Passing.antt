-- What a pass over the tokens of a source keeps: the lines and the names before its place, and the
-- hits so far.
use Rattle.std.proofs.Common.{◌≡◌, ℕ, ◌+◌, ◌-◌, ◌<◌, ◌≤◌, zero, suc, Bool, true, false, cond, List}
use Rattle.std.proofs.Common.{[], ◌∷◌, ◌++◌, length, get_or, take, drop, filter, refl, sym, ap, ◌∙◌}
use Rattle.std.proofs.Common.{subst, arith, append-nil, map}
use Rattle.std.specs.Prelude.{◌==◌, if◌then◌else◌}
use Rattle.std.proofs.lemmas.List.{drop_more, map-append}
use Rattle.std.proofs.lemmas.List.Elements.{filter_more}
use denote.Enum.Bare.{sameb}
use Rattle.go_ast.specs.declared.token.Token.{Token}
use Rattle.go_ast.specs.declared.token.TokenKind.{TokenKind}
use Rattle.go_ast.specs.declared.token.TokenKind.TheVariants as tokens
use Rattle.go_ast.specs.contracts.token.TokenKind.{the_type}
use Rattle.go_ast.specs.Tokens.{is_ident}
use Rattle.go_ast.specs.Characters.{newline}
use Rattle.go_ast.specs.Position.{line_of, line_starts, offsets_after_newlines}
use Rattle.go_scanner.specs.Results.{AreInOrder}
use Rattle.go_scanner.proofs.ScanLaws.{position_is}
use Rattle.ident_index.specs.Naming.{Name}
use Rattle.ident_index.specs.Places.{AreLinesTo, AreNamesBefore}

offsets_few : (bytes : List ℕ) (o : ℕ) → length (offsets_after_newlines o bytes) ≤ length bytes
offsets_few [] o = omega arith
offsets_few (b ∷ bytes) o = let later = offsets_few bytes (o + 1) in
    (elim (b == newline) as
    (λ t. length (if t then (o + 1) ∷ offsets_after_newlines (o + 1) bytes
    else offsets_after_newlines (o + 1) bytes) ≤ length (b ∷ bytes))
    [ true ↦ omega (arith, later) | false ↦ omega (arith, later) ])

-- a source has at most one line more than bytes
pub lines_few : (bytes : List ℕ) → length (line_starts bytes) ≤ length bytes + 1
lines_few bytes = omega (arith, offsets_few bytes 0)

pub lines_on : (starts : List ℕ) (from to count : ℕ) → from ≤ to → AreLinesTo starts from count
    → AreLinesTo starts to count
lines_on starts from to count le so_many =
    record { within = so_many.within; before = λ i lt. omega (arith, so_many.before i lt) }

pub names_on : (names : List Name) (from to count : ℕ) → from ≤ to → AreNamesBefore names from count
    → AreNamesBefore names to count
names_on names from to count le so_many =
    record { within = so_many.within; before = λ i d lt. omega (arith, so_many.before i d lt) }

-- how many lines begin at or before an offset is the line that it stands in
pub line_counted : (bytes : List ℕ) (offset count : ℕ) → offset ≤ length bytes
    → AreLinesTo (line_starts bytes) offset count
    → (count < length (line_starts bytes) → offset < get_or (line_starts bytes) count 0) → count
    ≡ line_of bytes offset
line_counted bytes offset zero within so_many no_more = absurd
    (omega (arith, no_more (omega arith)))
line_counted bytes offset (suc n) within so_many no_more =
    let before = so_many.before n (omega arith) in
    let start = get_or (line_starts bytes) n 0 in
    let same : n + 1 ≡ suc n = omega arith in
    (position_is bytes offset (suc n) ((offset + 1) - start) within (record {
      index = n;
      in_line = record {
        within = omega (arith, so_many.within);
        in_line = before;
        before_next = subst (λ k. k < length (line_starts bytes)
            → offset < get_or (line_starts bytes) k 0) (sym same) no_more;
      };
      line_is = sym same;
      column_is = omega (arith, before);
    })).0

-- what follows the token at a place
pub record IsNext (tokens : List Token) (i from to : ℕ) (token : Token) : Type 0 where
  pub begins : from ≤ token.span.start
  pub ends : token.span.start ≤ token.span.end
  pub left : AreInOrder token.span.end (drop (i + 1) tokens) to

pub next_in_order : (tokens : List Token) (i from to : ℕ) (d : Token) → i < length tokens
    → AreInOrder from (drop i tokens) to
    → IsNext tokens i from to (get_or tokens i d)
next_in_order tokens i from to d below order =
    let parts = subst (λ l. AreInOrder from l to) (drop_more tokens i d below) order in
    record { begins = parts.0; ends = parts.1; left = parts.2 }

pub order_within : (tokens : List Token) (from to : ℕ) → AreInOrder from tokens to → from ≤ to
order_within [] from to order = order
order_within (token ∷ tokens) from to order = omega
    (arith, order.0, order.1, order_within tokens token.span.end to order.2)

module _ {X Y : Type 0} (f : X → Y) (p : X → Bool) (xs : List X) (i : ℕ) (d : X) (ys : List Y)
    (below : i < length xs)
    (so_far : ys ≡ map f (filter p (take i xs))) where
  more : (b : Bool) → p (get_or xs i d) ≡ b → map f (filter p (take (i + 1) xs))
      ≡ ys ++ map f (cond b (get_or xs i d ∷ []) [])
  more b is =
      ap (map f) (filter_more p xs i d below ∙ ap (λ c. filter p (take i xs) ++ cond c
      (get_or xs i d ∷ []) []) is)
      ∙ map-append f (filter p (take i xs)) (cond b (get_or xs i d ∷ []) [])
      ∙ ap (λ l. l ++ map f (cond b (get_or xs i d ∷ []) [])) (sym so_far)

  pub passing : (y : Y) → p (get_or xs i d) ≡ true → y ≡ f (get_or xs i d) → ys ++ y ∷ []
      ≡ map f (filter p (take (i + 1) xs))
  passing y passes is = ap (λ z. ys ++ z ∷ []) is ∙ sym (more true passes)

  pub passed : p (get_or xs i d) ≡ false → ys ≡ map f (filter p (take (i + 1) xs))
  passed fails = sym (more false fails ∙ append-nil ys)

-- the program's test for identifiers
pub ident_test : (kind : TokenKind) → sameb the_type kind tokens.Ident ≡ is_ident kind
ident_test tokens.Ident = refl
ident_test tokens.Keyword = refl
ident_test tokens.Int = refl
ident_test tokens.Float = refl
ident_test tokens.Imaginary = refl
ident_test tokens.Rune = refl
ident_test tokens.Text = refl
ident_test tokens.Operator = refl
ident_test tokens.Semi = refl
ident_test tokens.AutoSemi = refl
