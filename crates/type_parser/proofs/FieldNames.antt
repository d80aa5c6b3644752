-- The last of some words, and the names of fields.
use Rattle.std.proofs.Common.{◌≡◌, ◌∙◌, ap, sym, refl, suc, ◌-◌, ◌≤◌, true}
use Rattle.std.proofs.Common.{false, List, [], ◌∷◌, ◌++◌, append_assoc, length, get_or, slice_get}
use Rattle.std.proofs.Common.{unwrap_or, Option, Some, None, arith}
use Rattle.go_ast.specs.declared.tree.TypeExpr.{TypeExpr}
use Rattle.go_ast.specs.declared.token.Span.{Span}
use Rattle.go_ast.specs.declared.token.TokenRange.{TokenRange}
use Rattle.go_ast.specs.declared.word.Word.{Word}
use Rattle.go_ast.specs.declared.word.Mark.TheVariants as m
use Rattle.go_ast.specs.Cutting.{last_of, range_of_all}
use Rattle.go_ast.specs.Marks.{same_mark}
use Rattle.go_ast.specs.Types.{split_tag}
use Rattle.type_parser.specs.declared.matching.Matched.{Matched}
use Rattle.type_parser.specs.Matching.{plain}
use Rattle.type_parser.specs.Reading.{◌<$>◌, declared, with_name, one_name}
use Rattle.type_parser.specs.Entries.{after_names}
use Rattle.type_parser.specs.Members.{ends_with_bar}
use Rattle.type_parser.proofs.WordMatching.{one-less}

any-default : (u : Word) (us : List Word) (v w : Word)
    → unwrap_or (slice_get (u ∷ us) (length us)) v ≡ unwrap_or (slice_get (u ∷ us) (length us)) w
any-default u [] v w = refl
any-default u (t ∷ us) v w = any-default t us v w

last-step : (w v : Word) (vs : List Word) → last_of w (v ∷ vs) ≡ last_of v vs
last-step w v [] = refl
last-step w v (u ∷ us) = rw (one-less (suc (length us)), one-less (length us))
    (any-default u us w v)

-- the last of the words that are matched
pub last-word : (item : Matched) (rest : List Matched) (d : Matched)
    → (get_or (item ∷ rest) (length rest) d).word ≡ last_of item.word (plain rest)
last-word item [] d = refl
last-word item (r ∷ rest) d = last-word r rest d ∙ sym (last-step item.word r.word (plain rest))

last-appended : (w : Word) (front : List Word) (last : Word) → last_of w (front ++ last ∷ []) ≡ last
last-appended w [] last = refl
last-appended w (v ∷ front) last = last-step w v (front ++ last ∷ []) ∙ last-appended v front last

bar-at : (front : List Word) (last : Word)
    → ends_with_bar (front ++ last ∷ []) ≡ same_mark last.mark m.Bar
bar-at [] last = refl
bar-at (w ∷ front) last = ap (λ v. same_mark v.mark m.Bar) (last-appended w front last)

pub bar_is : (ws front : List Word) (last : Word) → ws ≡ front ++ last ∷ []
    → same_mark last.mark m.Bar ≡ ends_with_bar ws
bar_is ws front last e = rw e (sym (bar-at front last))

tag-at : (front : List Word) (last : Word) → same_mark last.mark m.Text ≡ true
    → split_tag (front ++ last ∷ []) ≡ (front, Some last.span)
tag-at [] last h = rw h refl
tag-at (w ∷ []) last h = rw h refl
tag-at (w ∷ v ∷ front) last h = rw (tag-at (v ∷ front) last h) refl

no-tag-at : (front : List Word) (last : Word) → same_mark last.mark m.Text ≡ false
    → split_tag (front ++ last ∷ []) ≡ (front ++ last ∷ [], None)
no-tag-at [] last h = rw h refl
no-tag-at (w ∷ []) last h = rw h refl
no-tag-at (w ∷ v ∷ front) last h = rw (no-tag-at (v ∷ front) last h) refl

-- the tag of words whose last one is known
pub tag_is : (ws front : List Word) (last : Word) → ws ≡ front ++ last ∷ []
    → same_mark last.mark m.Text ≡ true
    → ◌≡◌ {A = List Word × Option Span} (front, Some last.span) (split_tag ws)
tag_is ws front last e h = rw e (sym (tag-at front last h))

pub no_tag_is : (ws front : List Word) (last : Word) → ws ≡ front ++ last ∷ []
    → same_mark last.mark m.Text ≡ false
    → ◌≡◌ {A = List Word × Option Span} (ws, None) (split_tag ws)
no_tag_is ws front last e h = rw e (sym (no-tag-at front last h))

module _ (f : List Word → Option TypeExpr) where
  -- the names before, and what the rest gives, is what all gives
  abbrev GoesOn : List Word → List Span → List Word → Type 0
  GoesOn ws names rest = declared f ws ≡ after_names names <$> declared f rest

  shifted : (names : List Span) (name : Span) (o : Option (List Span × TypeExpr))
      → (after_names names <$> (with_name name <$> o)) ≡ (after_names (names ++ name ∷ []) <$> o)
  shifted names name None = refl
  shifted names name (Some (others, x)) = rw (append_assoc names (name ∷ []) others) refl

  pub name-more : (ws : List Word) (names : List Span) (rest after others : List Word)
      (name next : Word) → GoesOn ws names rest
      → rest ≡ name ∷ after → after ≡ next ∷ others → same_mark name.mark m.Ident ≡ true
      → same_mark next.mark m.Comma ≡ true
      → GoesOn ws (names ++ name.span ∷ []) others
  name-more ws names rest after others name next h r a is comma =
      h ∙ (rw (r, a, is, comma) (shifted names name.span (declared f others)))

  pub name-typed : (ws : List Word) (names : List Span) (rest after others : List Word)
      (name next : Word) (o : Option TypeExpr) → GoesOn ws names rest
      → rest ≡ name ∷ after → after ≡ next ∷ others → same_mark name.mark m.Ident ≡ true
      → same_mark next.mark m.Comma ≡ false
      → o ≡ f after → declared f ws ≡ ((λ x. (names ++ name.span ∷ [], x)) <$> o)
  name-typed ws names rest after others name next o h r a is off e = h
      ∙ (rw (r, a, is, off) (go (f (next ∷ others)) o (e ∙ ap f a)))
    where
      go : (read out : Option TypeExpr) → out ≡ read
          → (after_names names <$> (one_name name.span <$> read))
          ≡ ((λ x. (names ++ name.span ∷ [], x)) <$> out)
      go None out e = rw e refl
      go (Some x) out e = rw e refl

  pub name-other : (ws : List Word) (names : List Span) (rest after others : List Word)
      (name next : Word) → GoesOn ws names rest
      → rest ≡ name ∷ after → after ≡ next ∷ others → same_mark name.mark m.Ident ≡ false
      → declared f ws ≡ None
  name-other ws names rest after others name next h r a off = h ∙ (rw (r, a, off) refl)

  pub name-alone : (ws : List Word) (names : List Span) (rest after : List Word) (name : Word)
      → GoesOn ws names rest
      → rest ≡ name ∷ after → after ≡ [] → declared f ws ≡ None
  name-alone ws names rest after name h r a = h ∙ (rw (r, a) refl)

  pub no-name : (ws : List Word) (names : List Span) (rest : List Word) → GoesOn ws names rest
      → rest ≡ [] → declared f ws ≡ None
  no-name ws names rest h r = h ∙ (rw r refl)

  -- before the first name
  pub no-names-yet : (o : Option (List Span × TypeExpr)) → o ≡ (after_names [] <$> o)
  no-names-yet None = refl
  no-names-yet (Some (names, x)) = refl

-- the tokens from the first word to the last
pub range-is : (items : List Matched) (d : Matched) → 1 ≤ length items
    → ◌≡◌ {A = TokenRange} (record {
      first = (get_or items 0 d).word.tokens.first;
      after = (get_or items (length items - 1) d).word.tokens.after;
    })
    (range_of_all (plain items))
range-is [] d some = absurd (omega (arith, some))
range-is (w ∷ ws) d some = rw (one-less (length ws), last-word w ws d) refl
