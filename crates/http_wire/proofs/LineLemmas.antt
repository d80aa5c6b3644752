-- Lemmas on the lines of a rest, and on rests that no bytes make a head.
use Rattle.std.proofs.Common.{◌≡◌, ℕ, ◌<◌, ◌==◌, ◌||◌, Bool, true, false, cond, not, ◌&&◌, List, [], ◌∷◌, ◌++◌, length, drop, get_or, zero, suc, refl, sym, ap, ap₂, ◌∙◌, subst, arith, append_assoc}
use Rattle.std.proofs.lemmas.Bool.{false≢true, eqb-true}
use Rattle.std.proofs.lemmas.List.{append-nil}
use Rattle.std.proofs.lemmas.List.Folds.{list_any_none, list_any-append}
use Rattle.std.specs.Prelude.{IsTrue}
use Rattle.std.specs.List.{list_any}
use Rattle.httparse.specs.Ascii.{space}
use Rattle.httparse.specs.Grammar.{LineEnd, crlf, lf, print_blank, is_token_byte, is_uri_byte, AllPass, IsToken, EndsInTarget, HasNoRequest, NeverHasRequest}
use Rattle.http_wire.specs.Requests.{is_other_byte, is_line_feed, from_other_byte, has_line, IsHopeless}

-- ---- the first byte that is neither CR nor LF

pub from_other_at : (rest : List ℕ) (i : ℕ) → i < length rest → is_other_byte (get_or rest i 0)
    ≡ true
    → ((k : ℕ) → k < i → is_other_byte (get_or rest k 0) ≡ false) → from_other_byte rest
    ≡ drop i rest
from_other_at [] i inside other before = absurd (omega arith)
from_other_at (b ∷ rest) zero inside other before =
    ap (λ t. cond t (b ∷ rest) (from_other_byte rest)) other
from_other_at (b ∷ rest) (suc i) inside other before =
    ap (λ t. cond t (b ∷ rest) (from_other_byte rest)) (before 0 (omega arith))
    ∙ from_other_at rest i (omega arith) other (λ k below. before (suc k) (omega arith))

pub no_other_byte : (rest : List ℕ)
    → ((k : ℕ) → k < length rest → is_other_byte (get_or rest k 0) ≡ false)
    → from_other_byte rest ≡ []
no_other_byte [] none = refl
no_other_byte (b ∷ rest) none =
    ap (λ t. cond t (b ∷ rest) (from_other_byte rest)) (none 0 (omega arith))
    ∙ no_other_byte rest (λ k below. none (suc k) (omega arith))

-- ---- what follows doesn't take a line away

pub past_leading : (b : ℕ) (rest : List ℕ) → is_other_byte b ≡ false → has_line (b ∷ rest)
    ≡ has_line rest
past_leading b rest other = rw other refl

pub from_first : (b : ℕ) (rest : List ℕ) → is_other_byte b ≡ true → has_line (b ∷ rest)
    ≡ list_any is_line_feed (b ∷ rest)
from_first b rest other = rw other refl

pub line-append : (rest more : List ℕ) → has_line rest ≡ true → has_line (rest ++ more) ≡ true
line-append [] more line = absurd (false≢true line)
line-append (b ∷ rest) more line = by_first (is_other_byte b) refl (line-append rest more)
  where
    by_first : (other : Bool) → is_other_byte b ≡ other
        → (has_line rest ≡ true → has_line (rest ++ more) ≡ true)
        → has_line (b ∷ rest ++ more) ≡ true
    by_first true is later =
        from_first b (rest ++ more) is ∙ list_any-append is_line_feed (b ∷ rest) more
        ∙ ap (λ t. t || list_any is_line_feed more) (sym (from_first b rest is) ∙ line)
    by_first false is later = past_leading b (rest ++ more) is
        ∙ later (sym (past_leading b rest is) ∙ line)

pub IsHopeless-append : (rest more : List ℕ) → IsHopeless rest → IsHopeless (rest ++ more)
IsHopeless-append rest more hopeless = record {
  line = line-append rest more hopeless.line;
  never = λ after. subst HasNoRequest (sym (append_assoc rest more after))
      (hopeless.never (more ++ after));
}

-- no head of the grammar stands there now
pub none_if_never : (rest : List ℕ) → NeverHasRequest rest → HasNoRequest rest
none_if_never rest never = subst HasNoRequest (append-nil rest) (never [])

-- ---- no line ends inside a target

pub after_blank : (blank : List LineEnd) (rest : List ℕ) → has_line (print_blank blank ++ rest)
    ≡ has_line rest
after_blank [] rest = refl
after_blank (crlf ∷ blank) rest = after_blank blank rest
after_blank (lf ∷ blank) rest = after_blank blank rest

token_is_no_line_feed : (b : ℕ) → IsTrue (is_token_byte b) → is_line_feed b ≡ false
unfolding is_token_byte
token_is_no_line_feed b token = by_test (b == 10) refl
  where
    by_test : (same : Bool) → (b == 10) ≡ same → is_line_feed b ≡ false
    by_test true is = absurd
        (false≢true (subst (λ x. IsTrue (is_token_byte x)) (eqb-true b 10 is) token))
    by_test false is = is

token_is_no_return : (b : ℕ) → IsTrue (is_token_byte b) → (b == 13) ≡ false
unfolding is_token_byte
token_is_no_return b token = by_test (b == 13) refl
  where
    by_test : (same : Bool) → (b == 13) ≡ same → (b == 13) ≡ false
    by_test true is = absurd
        (false≢true (subst (λ x. IsTrue (is_token_byte x)) (eqb-true b 13 is) token))
    by_test false is = is

target_is_no_line_feed : (b : ℕ) → IsTrue (is_uri_byte b) → is_line_feed b ≡ false
target_is_no_line_feed b uri = by_test (b == 10) refl
  where
    by_test : (same : Bool) → (b == 10) ≡ same → is_line_feed b ≡ false
    by_test true is = absurd
        (false≢true (subst (λ x. IsTrue (is_uri_byte x)) (eqb-true b 10 is) uri))
    by_test false is = is

no_line_feed : (test : ℕ → Bool) (bytes : List ℕ)
    → ((b : ℕ) → IsTrue (test b) → is_line_feed b ≡ false)
    → AllPass test bytes → list_any is_line_feed bytes ≡ false
no_line_feed test bytes never all = list_any_none is_line_feed bytes
    (λ i b inside. never (get_or bytes i b) (all i b inside))

pub token_is_other_byte : (b : ℕ) → IsTrue (is_token_byte b) → is_other_byte b ≡ true
token_is_other_byte b token =
    ap₂ (λ x y. not x && not y) (token_is_no_return b token) (token_is_no_line_feed b token)

no_line_after_blank : (blank : List LineEnd) (m : ℕ) (ms target : List ℕ) → IsToken (m ∷ ms)
    → AllPass is_uri_byte target → has_line (print_blank blank ++ ((m ∷ ms) ++ (space ∷ target)))
    ≡ false
no_line_after_blank blank m ms target method uri =
    after_blank blank ((m ∷ ms) ++ (space ∷ target))
    ∙ from_first m (ms ++ (space ∷ target)) (token_is_other_byte m (method.1 0 m (omega arith)))
    ∙ list_any-append is_line_feed (m ∷ ms) (space ∷ target)
    ∙ ap₂ (λ x y. x || y) (no_line_feed is_token_byte (m ∷ ms) token_is_no_line_feed method.1)
    (no_line_feed is_uri_byte target target_is_no_line_feed uri)

pub no_line_in_target : (rest : List ℕ) → EndsInTarget rest → has_line rest ≡ false
no_line_in_target rest (blank, [], target, method, uri, is) = absurd (omega (arith, method.0))
no_line_in_target rest (blank, m ∷ ms, target, method, uri, is) =
    subst (λ w. has_line w ≡ false)
    (sym (is ∙ append_assoc (print_blank blank) (m ∷ ms) (space ∷ target)))
    (no_line_after_blank blank m ms target method uri)
