-- Lemmas on rests that can still become a head, and on clean ends: no head stands there, and they
-- are not refused.
use Rattle.std.proofs.Common.{◌≡◌, ℕ, ◌+◌, inl, inr, ⊎_elim, Bool, true, false, ◌||◌, List, [], ◌∷◌, ◌++◌, length, refl, sym, ap, ◌∙◌, subst, arith, append_assoc, length-append}
use Rattle.std.proofs.lemmas.Bool.{false≢true}
use Rattle.std.proofs.lemmas.List.{append-nil}
use Rattle.std.proofs.lemmas.List.Folds.{list_any-append}
use Rattle.std.specs.List.{list_any}
use Rattle.httparse.specs.Ascii.{space}
use Rattle.httparse.specs.Grammar.{LineEnd, crlf, lf, print_blank, print_end, print_version, print_section, IsToken, RequestHead, print_request, ReadsRequest, HasNoRequest, MayBecomeRequest}
use Rattle.httparse.proofs.GrammarLemmas.{request_unique, ReadsRequest-append}
use Rattle.http_wire.specs.Requests.{HasNoHead, BreaksRule, IsRefused, breaks_rule, hopeless, too_long, cut_off, is_line_feed, is_other_byte, has_other_byte, has_line, CanBecomeHead, IsUndecided, AwaitsHead, IsCleanEnd}
use Rattle.http_wire.proofs.LineLemmas.{line-append, after_blank, from_first, past_leading, token_is_other_byte, no_line_in_target}

-- ---- a line ends in each head

or_true : (x y : Bool) → y ≡ true → (x || y) ≡ true
or_true true y is = refl
or_true false y is = is

line_feed_after : (xs ys : List ℕ) → list_any is_line_feed ys ≡ true
    → list_any is_line_feed (xs ++ ys) ≡ true
line_feed_after xs ys has =
    list_any-append is_line_feed xs ys ∙ or_true (list_any is_line_feed xs)
    (list_any is_line_feed ys) has

line_feed_in_end : (end : LineEnd) (rest : List ℕ) → list_any is_line_feed (print_end end ++ rest)
    ≡ true
line_feed_in_end crlf rest = refl
line_feed_in_end lf rest = refl

line_after_token : (blank : List LineEnd) (method rest : List ℕ) → IsToken method
    → list_any is_line_feed rest ≡ true → has_line (print_blank blank ++ (method ++ rest)) ≡ true
line_after_token blank [] rest token has = absurd (omega (arith, token.0))
line_after_token blank (m ∷ ms) rest token has =
    after_blank blank ((m ∷ ms) ++ rest)
    ∙ from_first m (ms ++ rest) (token_is_other_byte m (token.1 0 m (omega arith)))
    ∙ line_feed_after (m ∷ ms) rest has

regrouped : (blank method target version end section : List ℕ)
    → blank ++ method ++ target ++ version ++ end ++ section
    ≡ blank ++ (method ++ (target ++ (version ++ (end ++ section))))
regrouped blank method target version end section = simp append_assoc

line_in_request : (head : RequestHead) → IsToken head.method → has_line (print_request head) ≡ true
unfolding print_request
line_in_request head token =
    let target = space ∷ head.target in
    let version = space ∷ print_version head.minor in
    let end = print_end head.line_end in
    let section = print_section head.fields head.last in
    subst (λ w. has_line w ≡ true)
    (sym (regrouped (print_blank head.blank) head.method target version end section))
    (line_after_token head.blank head.method (target ++ (version ++ (end ++ section))) token
    (line_feed_after target (version ++ (end ++ section))
    (line_feed_after version (end ++ section) (line_feed_in_end head.line_end section))))

line_with_request : (rest : List ℕ) (head : RequestHead) (after : List ℕ)
    → ReadsRequest rest head after
    → has_line rest ≡ true
line_with_request rest head after reads =
    subst (λ w. has_line w ≡ true) (sym reads.1)
    (line-append (print_request head) after (line_in_request head reads.0.method))

-- ---- no head stands there

none_without_line : (rest : List ℕ) → has_line rest ≡ false → HasNoRequest rest
none_without_line rest no_line head after reads =
    false≢true (sym no_line ∙ line_with_request rest head after reads)

none_before_head : (rest : List ℕ) → CanBecomeHead rest → HasNoRequest rest
none_before_head rest (b, more, longer, whole) head after reads =
    let same = request_unique (rest ++ b ∷ more) head longer (after ++ b ∷ more) []
    (ReadsRequest-append rest head after (b ∷ more) reads) whole in
    let size : length after + length (b ∷ more) ≡ 0 =
    sym (length-append after (b ∷ more)) ∙ ap length same.1 in
    omega arith

pub none_if_undecided : (rest : List ℕ) → IsUndecided rest → HasNoRequest rest
none_if_undecided rest undecided = ⊎_elim (none_without_line rest) (none_before_head rest) undecided

pub no_line_in_blank : (rest : List ℕ) → has_other_byte rest ≡ false → has_line rest ≡ false
no_line_in_blank [] blank = refl
no_line_in_blank (b ∷ rest) blank = by_first (is_other_byte b) refl blank (no_line_in_blank rest)
  where
    by_first : (other : Bool) → is_other_byte b ≡ other → (other || has_other_byte rest) ≡ false
        → (has_other_byte rest ≡ false → has_line rest ≡ false) → has_line (b ∷ rest) ≡ false
    by_first true is none later = absurd (false≢true (sym none))
    by_first false is none later = past_leading b rest is ∙ later none

none_if_clean : (rest : List ℕ) → IsCleanEnd rest → HasNoRequest rest
none_if_clean rest clean = none_without_line rest (no_line_in_blank rest clean.blank)

no_head_if_none : (rest : List ℕ) → HasNoRequest rest → HasNoHead rest
no_head_if_none rest none = λ head after reads rules. none head after reads

pub HasNoHead-from_awaits : (rest : List ℕ) → AwaitsHead rest → HasNoHead rest
HasNoHead-from_awaits rest awaits = no_head_if_none rest (none_if_undecided rest awaits.undecided)

pub HasNoHead-from_clean : (rest : List ℕ) → IsCleanEnd rest → HasNoHead rest
HasNoHead-from_clean rest clean = no_head_if_none rest (none_if_clean rest clean)

-- ---- they are not refused

not_broken : (rest : List ℕ) → HasNoRequest rest → BreaksRule rest → ⊥
not_broken rest none broken = none broken.0 broken.1 broken.2

pub sound_if_awaits : (rest : List ℕ) → AwaitsHead rest → IsRefused rest false → ⊥
sound_if_awaits rest awaits (breaks_rule broken) =
    not_broken rest (none_if_undecided rest awaits.undecided) broken
sound_if_awaits rest awaits (hopeless found) =
    ⊎_elim (λ no_line. false≢true (sym no_line ∙ found.line))
    (λ can. found.never (can.0 ∷ can.1) can.2 [] can.3) awaits.undecided
sound_if_awaits rest awaits (too_long long) = let short = awaits.short in omega arith
sound_if_awaits rest awaits (cut_off over other) = false≢true over

pub sound_if_clean : (rest : List ℕ) → IsCleanEnd rest → IsRefused rest true → ⊥
sound_if_clean rest clean (breaks_rule broken) = not_broken rest (none_if_clean rest clean) broken
sound_if_clean rest clean (hopeless found) =
    false≢true (sym (no_line_in_blank rest clean.blank) ∙ found.line)
sound_if_clean rest clean (too_long long) = let short = clean.short in omega arith
sound_if_clean rest clean (cut_off over other) = false≢true (sym clean.blank ∙ other)

-- ---- what the parser's answer says

undecided_if_longer : (rest more : List ℕ) (head : RequestHead) → HasNoRequest rest
    → ReadsRequest (rest ++ more) head [] → IsUndecided rest
undecided_if_longer rest [] head none reads =
    absurd (none head [] (subst (λ w. ReadsRequest w head []) (append-nil rest) reads))
undecided_if_longer rest (b ∷ more) head none reads = inr (b, more, head, reads)

pub undecided_if_partial : (rest : List ℕ) → HasNoRequest rest → MayBecomeRequest rest
    → IsUndecided rest
undecided_if_partial rest none may =
    ⊎_elim (λ longer. undecided_if_longer rest longer.0 longer.1 none longer.2)
    (λ inside. inl (no_line_in_target rest inside)) may
