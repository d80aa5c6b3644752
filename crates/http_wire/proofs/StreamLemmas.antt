-- The laws of the requests in a stream: heads are prefix free, a stream has at most one list of
-- requests, and what is refused stays refused.
use Rattle.std.proofs.Common.{◌≡◌, ℕ, ◌≤◌, Bool, false, List, [], ◌∷◌, ◌++◌, length, take, drop, refl, sym, ap, ◌∙◌, subst, arith, append_assoc, length-append}
use Rattle.std.proofs.lemmas.List.{take-append-le, take_at, take-append-drop}
use Rattle.std.proofs.lemmas.Bool.{false≢true}
use Rattle.httparse.specs.Grammar.{print_request}
use Rattle.httparse.proofs.GrammarLemmas.{request_unique, request_prefix_free, ReadsRequest-append}
use Rattle.http_wire.specs.declared.request.Request.{Request}
use Rattle.http_wire.specs.Head.{KeepsRules, request_of}
use Rattle.http_wire.proofs.AheadLemmas.{HasNoHead-from_awaits, HasNoHead-from_clean, sound_if_awaits, sound_if_clean}
use Rattle.http_wire.proofs.LineLemmas.{IsHopeless-append, none_if_never}
use Rattle.http_wire.specs.Requests.{BeginsWith, HasNoHead, BreaksRule, IsHopeless, IsRefused, breaks_rule, hopeless, too_long, cut_off, StreamEnd, Bad, Requests, next, refused, ends, waits, HasGiven, none_yet, one_more, IsHead}

-- a front that is short enough stands in the first part alone
pub front_within : (xs more front after : List ℕ) → xs ++ more ≡ front ++ after
    → length front ≤ length xs
    → xs ≡ front ++ drop (length front) xs
front_within xs more front after same short =
    let n = length front in
    let first : take n xs ≡ front =
    sym (take-append-le n xs more short) ∙ ap (take n) same ∙ take_at front after n refl in
    sym (take-append-drop n xs) ∙ ap (λ w. w ++ drop n xs) first

-- ---- one head

pub BeginsWith-append : (rest : List ℕ) (request : Request) (after more : List ℕ)
    → BeginsWith rest request after → BeginsWith (rest ++ more) request (after ++ more)
BeginsWith-append rest request after more x = record {
  head = x.head;
  reads = ReadsRequest-append rest x.head after more x.reads;
  rules = x.rules;
  is = x.is;
}

pub BeginsWith_unique : (rest : List ℕ) (p q : Request) (a b : List ℕ)
    → BeginsWith rest p a → BeginsWith rest q b → (p ≡ q) × (a ≡ b)
BeginsWith_unique rest p q a b x y =
    let same = request_unique rest x.head y.head a b x.reads y.reads in
    (x.is ∙ ap request_of same.0 ∙ sym y.is, same.1)

pub HasNoHead-not_begins : (rest : List ℕ) (request : Request) (after : List ℕ)
    → HasNoHead rest → BeginsWith rest request after → ⊥
HasNoHead-not_begins rest request after none x = none x.head after x.reads x.rules

pub IsHead_prefix_free : (text more : List ℕ) → IsHead text → IsHead (text ++ more) → more ≡ []
IsHead_prefix_free text more x y = (request_prefix_free text more x.0 y.0 [] [] x.1 y.1).1

-- ---- what is refused stays refused

pub HasNoHead-from_broken : (rest : List ℕ) → BreaksRule rest → HasNoHead rest
HasNoHead-from_broken rest broken =
    λ head after reads rules.
    broken.3 (subst KeepsRules
    (sym (request_unique rest broken.0 head broken.1 after broken.2 reads).0) rules)

pub HasNoHead-from_hopeless : (rest : List ℕ) → IsHopeless rest → HasNoHead rest
HasNoHead-from_hopeless rest never =
    λ head after reads rules. none_if_never rest never.never head after reads

pub BreaksRule-append : (rest more : List ℕ) → BreaksRule rest → BreaksRule (rest ++ more)
BreaksRule-append rest more broken =
    (broken.0, broken.1 ++ more, ReadsRequest-append rest broken.0 broken.1 more broken.2, broken.3)

pub HasNoHead-append_long : (rest more : List ℕ) → 8192 ≤ length rest → HasNoHead rest
    → HasNoHead (rest ++ more)
HasNoHead-append_long rest more long none =
    λ head after reads rules.
    let size = rules.size in
    let short : length (print_request head) ≤ length rest = omega arith in
    none head (drop (length (print_request head)) rest)
    (reads.0, front_within rest more (print_request head) after reads.1 short) rules

pub IsRefused-append : (rest more : List ℕ) (ended : Bool) → IsRefused rest false
    → IsRefused (rest ++ more) ended
IsRefused-append rest more ended (breaks_rule broken) =
    breaks_rule (BreaksRule-append rest more broken)
IsRefused-append rest more ended (hopeless never) = hopeless (IsHopeless-append rest more never)
IsRefused-append rest more ended (too_long long) = too_long (simp length-append (omega arith))
IsRefused-append rest more ended (cut_off over other) = absurd (false≢true over)

pub HasNoHead-append_refused : (rest more : List ℕ) → HasNoHead rest → IsRefused rest false
    → HasNoHead (rest ++ more)
HasNoHead-append_refused rest more none (breaks_rule broken) =
    HasNoHead-from_broken (rest ++ more) (BreaksRule-append rest more broken)
HasNoHead-append_refused rest more none (hopeless never) =
    HasNoHead-from_hopeless (rest ++ more) (IsHopeless-append rest more never)
HasNoHead-append_refused rest more none (too_long long) = HasNoHead-append_long rest more long none
HasNoHead-append_refused rest more none (cut_off over other) = absurd (false≢true over)

-- ---- the stream

pub Requests_unique : (stream : List ℕ) (ended : Bool) (these those : List Request)
    (end other : StreamEnd)
    → Requests stream ended these end → Requests stream ended those other → (these ≡ those)
    × (end ≡ other)
Requests_unique stream ended these those end other (next _ _ p a ps _ x r) (next _ _ q b qs _ y s) =
    let same = BeginsWith_unique stream p q a b x y in
    let rest = Requests_unique b ended ps qs end other
    (subst (λ w. Requests w ended ps end) same.1 r) s in
    (cc (same.0, rest.0), rest.1)
Requests_unique stream ended these those end other (next _ _ p a ps _ x r) (refused _ _ none why) =
    absurd (HasNoHead-not_begins stream p a none x)
Requests_unique stream ended these those end other (next _ _ p a ps _ x r) (ends _ clean) =
    absurd (HasNoHead-not_begins stream p a (HasNoHead-from_clean stream clean) x)
Requests_unique stream ended these those end other (next _ _ p a ps _ x r) (waits _ awaits) =
    absurd (HasNoHead-not_begins stream p a (HasNoHead-from_awaits stream awaits) x)
Requests_unique stream ended these those end other (refused _ _ none why) (next _ _ q b qs _ y s) =
    absurd (HasNoHead-not_begins stream q b none y)
Requests_unique stream ended these those end other (refused _ _ none why)
    (refused _ _ none' why') = (refl, refl)
Requests_unique stream ended these those end other (refused _ _ none why) (ends _ clean) =
    absurd (sound_if_clean stream clean why)
Requests_unique stream ended these those end other (refused _ _ none why) (waits _ awaits) =
    absurd (sound_if_awaits stream awaits why)
Requests_unique stream ended these those end other (ends _ clean) (next _ _ q b qs _ y s) =
    absurd (HasNoHead-not_begins stream q b (HasNoHead-from_clean stream clean) y)
Requests_unique stream ended these those end other (ends _ clean) (refused _ _ none why) =
    absurd (sound_if_clean stream clean why)
Requests_unique stream ended these those end other (ends _ clean) (ends _ clean') = (refl, refl)
Requests_unique stream ended these those end other (waits _ awaits) (next _ _ q b qs _ y s) =
    absurd (HasNoHead-not_begins stream q b (HasNoHead-from_awaits stream awaits) y)
Requests_unique stream ended these those end other (waits _ awaits) (refused _ _ none why) =
    absurd (sound_if_awaits stream awaits why)
Requests_unique stream ended these those end other (waits _ awaits) (waits _ awaits') = (refl, refl)

pub no_head_at_end : (rest : List ℕ) (ended : Bool) (end : StreamEnd) → Requests rest ended [] end
    → HasNoHead rest
no_head_at_end rest _ _ (refused _ _ none why) = none
no_head_at_end rest _ _ (ends _ clean) = HasNoHead-from_clean rest clean
no_head_at_end rest _ _ (waits _ awaits) = HasNoHead-from_awaits rest awaits

-- ---- what was given

pub HasGiven-append : (fed more rest : List ℕ) (given : List Request)
    → HasGiven fed given rest → HasGiven (fed ++ more) given (rest ++ more)
HasGiven-append fed more _ _ none_yet = none_yet
HasGiven-append fed more _ _ (one_more requests rest request after before x) =
    one_more requests (rest ++ more) request (after ++ more)
    (HasGiven-append fed more rest requests before)
    (BeginsWith-append rest request after more x)

pub Requests-after_given : (fed rest : List ℕ) (ended : Bool) (given requests : List Request)
    (end : StreamEnd)
    → HasGiven fed given rest → Requests rest ended requests end
    → Requests fed ended (given ++ requests) end
Requests-after_given fed _ ended _ requests end none_yet all = all
Requests-after_given fed _ ended _ requests end (one_more given rest request after before x) all =
    subst (λ w. Requests fed ended w end) (sym (append_assoc given (request ∷ []) requests))
    (Requests-after_given fed rest ended given (request ∷ requests) end before
    (next rest ended request after requests end x all))

pub Requests-append_bad : (stream more : List ℕ) (ended : Bool) (requests : List Request)
    → Requests stream false requests Bad → Requests (stream ++ more) ended requests Bad
Requests-append_bad stream more ended _ (next _ _ request after requests _ x all) =
    next (stream ++ more) ended request (after ++ more) requests Bad
    (BeginsWith-append stream request after more x)
    (Requests-append_bad after more ended requests all)
Requests-append_bad stream more ended _ (refused _ _ none why) =
    refused (stream ++ more) ended (HasNoHead-append_refused stream more none why)
    (IsRefused-append stream more ended why)
