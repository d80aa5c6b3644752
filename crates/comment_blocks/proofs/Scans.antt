-- The lines, the tokens and the comments of a scan stand in their order.
use Rattle.std.proofs.Common.{◌==◌, ℕ, zero, suc, ◌+◌, ◌<◌, ◌≤◌, Bool, true, false, List, [], ◌∷◌}
use Rattle.std.proofs.Common.{◌++◌, length, get_or, sym, subst, arith, cond, length-append, codes}
use Rattle.std.specs.Prelude.{⊤, ◌&&◌}
use Rattle.std.specs.List.Sorted.{IsNonDecreasingBy}
use Rattle.go_ast.specs.declared.token.Token.{Token}
use Rattle.go_ast.specs.declared.token.TokenKind.TheVariants.{AutoSemi}
use Rattle.go_ast.specs.declared.token.Comment.{Comment}
use Rattle.go_ast.specs.declared.token.Scanned.{Scanned}
use Rattle.go_ast.specs.Characters.{newline}
use Rattle.go_ast.specs.Position.{line_starts, offsets_after_newlines}
use Rattle.go_ast.specs.Lexical.{Item, white_space, byte_order_mark, line_comment, general_comment}
use Rattle.go_ast.specs.Lexical.{spelled, print_item}
use Rattle.go_ast.specs.Reading.{tokens_at, tokens_of, comments_at, comments_of, takes_semicolon}
use Rattle.go_ast.specs.Reading.{line_ends, token_of}
use Rattle.comment_blocks.specs.Groups.{IsScan}
use Rattle.comment_blocks.specs.GroupSteps.{IsInOrder, NeverFall}

-- each value is at least the one before it, and the first at least the low end
abbrev pub Climbs : {X : Type 0} → (X → ℕ) → ℕ → List X → Type 0
Climbs f low [] = ⊤
Climbs f low (x ∷ xs) = (low ≤ f x) × Climbs f (f x) xs

from_lower : {X : Type 0} (f : X → ℕ) (low lower : ℕ) (xs : List X) → lower ≤ low → Climbs f low xs
    → Climbs f lower xs
from_lower f low lower [] le h = tt
from_lower f low lower (x ∷ xs) le h = (omega (arith, h.0), h.1)

pub low_end : {X : Type 0} (f : X → ℕ) (low : ℕ) (xs : List X) → Climbs f low xs → (k : ℕ) (d : X)
    → k < length xs → low ≤ f (get_or xs k d)
low_end f low [] h k d lt = absurd (omega arith)
low_end f low (x ∷ xs) h zero d lt = h.0
low_end f low (x ∷ xs) h (suc k) d lt = omega (arith, h.0, low_end f (f x) xs h.1 k d (omega arith))

never_falls : {X : Type 0} (f : X → ℕ) (low : ℕ) (xs : List X) → Climbs f low xs
    → IsNonDecreasingBy f xs
never_falls f low [] h i j d le lt = absurd (omega arith)
never_falls f low (x ∷ xs) h zero zero d le lt = omega arith
never_falls f low (x ∷ xs) h zero (suc j) d le lt = low_end f (f x) xs h.1 j d (omega arith)
never_falls f low (x ∷ xs) h (suc i) zero d le lt = absurd (omega arith)
never_falls f low (x ∷ xs) h (suc i) (suc j) d le lt =
    never_falls f (f x) xs h.1 i j d (omega arith) (omega arith)

lines_climb : (offset : ℕ) (bytes : List ℕ)
    → Climbs (λ (o : ℕ). o) offset (offsets_after_newlines offset bytes)
lines_climb offset [] = tt
lines_climb offset (b ∷ bytes) =
    let rest = lines_climb (offset + 1) bytes in
    elim (b == newline) as (λ t. Climbs (λ (o : ℕ). o) offset
    (cond t ((offset + 1) ∷ offsets_after_newlines (offset + 1) bytes)
    (offsets_after_newlines (offset + 1) bytes))) [
      | true ↦ (omega arith, rest)
      | false ↦
          from_lower (λ (o : ℕ). o) (offset + 1) offset _ (omega arith) rest
    ]

abbrev pub start_of : Token → ℕ
start_of token = token.span.start

abbrev end_of : Token → ℕ
end_of token = token.span.end

semicolon_starts : (t : Bool) (start end : ℕ) (later : List Token) → start ≤ end
    → Climbs start_of end later
    → Climbs start_of start (cond t (token_of AutoSemi end end ∷ []) [] ++ later)
semicolon_starts true start end later le h = (le, h)
semicolon_starts false start end later le h = from_lower start_of end start later le h

semicolon_ends : (t : Bool) (end : ℕ) (later : List Token) → Climbs end_of end later
    → Climbs end_of end (cond t (token_of AutoSemi end end ∷ []) [] ++ later)
semicolon_ends true end later h = (omega arith, h)
semicolon_ends false end later h = h

item_starts : (item : Item) (items : List Item) (start end : ℕ) (later : List Token) → start ≤ end
    → Climbs start_of end later
    → Climbs start_of start (tokens_at start end item items ++ later)
item_starts (white_space b) items start end later le h = from_lower start_of end start later le h
item_starts byte_order_mark items start end later le h = from_lower start_of end start later le h
item_starts (line_comment content) items start end later le h =
    from_lower start_of end start later le h
item_starts (general_comment content) items start end later le h =
    from_lower start_of end start later le h
item_starts (spelled spelling) items start end later le h = (
  omega arith,
  semicolon_starts (takes_semicolon spelling && line_ends items) start end later le
      h,
)

item_ends : (item : Item) (items : List Item) (start end : ℕ) (later : List Token) → start ≤ end
    → Climbs end_of end later
    → Climbs end_of start (tokens_at start end item items ++ later)
item_ends (white_space b) items start end later le h = from_lower end_of end start later le h
item_ends byte_order_mark items start end later le h = from_lower end_of end start later le h
item_ends (line_comment content) items start end later le h = from_lower end_of end start later le h
item_ends (general_comment content) items start end later le h =
    from_lower end_of end start later le h
item_ends (spelled spelling) items start end later le h =
    (le, semicolon_ends (takes_semicolon spelling && line_ends items) end later h)

pub token_starts_climb : (items : List Item) (offset : ℕ)
    → Climbs start_of offset (tokens_of offset items)
token_starts_climb [] offset = tt
token_starts_climb (item ∷ items) offset =
    let end = offset + length (print_item item) in
    item_starts item items offset end (tokens_of end items) (omega arith)
    (token_starts_climb items end)

token_ends_climb : (items : List Item) (offset : ℕ) → Climbs end_of offset (tokens_of offset items)
token_ends_climb [] offset = tt
token_ends_climb (item ∷ items) offset =
    let end = offset + length (print_item item) in
    item_ends item items offset end (tokens_of end items) (omega arith) (token_ends_climb items end)

-- the ends of comments rise strictly, from a low end on
abbrev Rises : ℕ → List Comment → Type 0
Rises low [] = ⊤
Rises low (c ∷ cs) = (low < c.span.end) × Rises c.span.end cs

rises_from_lower : (low lower : ℕ) (cs : List Comment) → lower ≤ low → Rises low cs → Rises lower cs
rises_from_lower low lower [] le h = tt
rises_from_lower low lower (c ∷ cs) le h = (omega (arith, h.0), h.1)

rises_climbs : (low : ℕ) (cs : List Comment) → Rises low cs
    → Climbs (λ (c : Comment). c.span.end) low cs
rises_climbs low [] h = tt
rises_climbs low (c ∷ cs) h = (omega (arith, h.0), rises_climbs c.span.end cs h.1)

place_below : (low : ℕ) (cs : List Comment) → Rises low cs → (k : ℕ) (d : Comment) → k < length cs
    → low + k < (get_or cs k d).span.end
place_below low [] h k d lt = absurd (omega arith)
place_below low (c ∷ cs) h zero d lt = omega (arith, h.0)
place_below low (c ∷ cs) h (suc k) d lt =
    omega (arith, h.0, place_below c.span.end cs h.1 k d (omega arith))

item_rises : (item : Item) (start : ℕ) (later : List Comment)
    → Rises (start + length (print_item item)) later
    → Rises start (comments_at start (start + length (print_item item)) item ++ later)
item_rises (white_space b) start later h = rises_from_lower _ start later (omega arith) h
item_rises byte_order_mark start later h = rises_from_lower _ start later (omega arith) h
item_rises (line_comment content) start later h =
    (omega (arith, length-append (codes "//") content), h)
item_rises (general_comment content) start later h =
    (omega (arith, length-append (codes "/*") (content ++ codes "*/")), h)
item_rises (spelled spelling) start later h = rises_from_lower _ start later (omega arith) h

comments_rise : (items : List Item) (offset : ℕ) → Rises offset (comments_of offset items)
comments_rise [] offset = tt
comments_rise (item ∷ items) offset =
    item_rises item offset (comments_of (offset + length (print_item item)) items)
    (comments_rise items (offset + length (print_item item)))

pub in_order : (scanned : Scanned) → IsScan scanned → IsInOrder scanned
in_order scanned scan =
    let rises : Rises 0 scanned.comments =
    subst (Rises 0) (sym scan.read.all_comments) (comments_rise scan.read.items 0) in
    record {
      lines = subst NeverFall (sym scan.lines)
          (never_falls (λ (o : ℕ). o) 0 (line_starts scan.source)
          (omega arith, lines_climb 0 scan.source));
      token_starts = never_falls start_of 0 scanned.tokens
          (subst (Climbs start_of 0) (sym scan.read.all_tokens)
          (token_starts_climb scan.read.items 0));
      token_ends = never_falls end_of 0 scanned.tokens
          (subst (Climbs end_of 0) (sym scan.read.all_tokens) (token_ends_climb scan.read.items 0));
      comment_ends = never_falls (λ (c : Comment). c.span.end) 0 scanned.comments
          (rises_climbs 0 scanned.comments rises);
      places = λ k d lt. omega (arith, place_below 0 scanned.comments rises k d lt);
    }
