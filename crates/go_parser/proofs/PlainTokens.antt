-- Tokens that are neither brackets nor semicolons.
use Rattle.std.proofs.Common.{◌≡◌, ◌≢◌, sym, refl, true, false, ℕ, Bool, List, [], ◌∷◌}
use Rattle.std.specs.Str.{bytes_eq}
use Rattle.go_ast.specs.declared.token.TokenKind.{TokenKind}
use Rattle.go_ast.specs.declared.token.TokenKind.TheVariants as kinds
use Rattle.go_ast.specs.declared.word.Mark.{Mark}
use Rattle.go_ast.specs.declared.word.Mark.TheVariants as m
use Rattle.go_ast.specs.Marks.{closes, keyword_marks, mark_among, mark_of, opens, same_mark}
use Rattle.go_parser.specs.Cutter.{CutsAs}

-- neither bracket nor semicolon
abbrev IsPlain : Mark → Type 0
IsPlain mark = (opens mark ≡ false) × (closes mark ≡ false) × (same_mark mark m.Semi ≡ false)

abbrev ArePlain : List (List ℕ × Mark) → Type 0
ArePlain [] = IsPlain m.Other
ArePlain (s ∷ spellings) = IsPlain s.1 × ArePlain spellings

among-plain : (spellings : List (List ℕ × Mark)) (text : List ℕ) → ArePlain spellings
    → IsPlain (mark_among spellings text)
among-plain [] text h = h
among-plain (s ∷ spellings) text h = go (bytes_eq text s.0) refl (among-plain spellings text h.1)
  where
    go : (b : Bool) → bytes_eq text s.0 ≡ b → IsPlain (mark_among spellings text)
        → IsPlain (mark_among (s ∷ spellings) text)
    go true is ih = rw is h.0
    go false is ih = rw is ih

keywords-plain : (text : List ℕ) → IsPlain (mark_among keyword_marks text)
unfolding keyword_marks same_mark
keywords-plain text = among-plain keyword_marks text (
  (refl, refl, refl),
  (
    (refl, refl, refl),
    (
      (refl, refl, refl),
      (
        (refl, refl, refl),
        (
          (refl, refl, refl),
          (
            (refl, refl, refl),
            (
              (refl, refl, refl),
              (
                (refl, refl, refl),
                (
                  (refl, refl, refl),
                  ((refl, refl, refl), (refl, refl, refl)),
                ),
              ),
            ),
          ),
        ),
      ),
    ),
  ),
)

plain-cuts : (mark : Mark) → IsPlain mark → CutsAs m.Other mark
unfolding same_mark
plain-cuts mark p = record {
  same_opens = sym p.0;
  same_closes = sym p.1;
  same_semi = sym p.2;
  opening = λ e. absurd (cc (p.0, e));
  closing = λ e. absurd (cc (p.1, e));
}

pub plain-kind : (kind : TokenKind) (text : List ℕ) → kind ≢ kinds.Operator → kind ≢ kinds.Semi
    → kind ≢ kinds.AutoSemi → CutsAs m.Other (mark_of kind text)
unfolding mark_of same_mark
plain-kind kinds.Ident text a b c = plain-cuts m.Ident (refl, refl, refl)
plain-kind kinds.Keyword text a b c =
    plain-cuts (mark_among keyword_marks text) (keywords-plain text)
plain-kind kinds.Int text a b c = plain-cuts m.Other (refl, refl, refl)
plain-kind kinds.Float text a b c = plain-cuts m.Other (refl, refl, refl)
plain-kind kinds.Imaginary text a b c = plain-cuts m.Other (refl, refl, refl)
plain-kind kinds.Rune text a b c = plain-cuts m.Other (refl, refl, refl)
plain-kind kinds.Text text a b c = plain-cuts m.Text (refl, refl, refl)
plain-kind kinds.Operator text a b c = absurd (a refl)
plain-kind kinds.Semi text a b c = absurd (b refl)
plain-kind kinds.AutoSemi text a b c = absurd (c refl)
