-- No stream is without its requests.
use Rattle.std.proofs.Common.{◌≡◌, ℕ, zero, suc, ◌+◌, ◌<◌, inl, inr, ⊎_elim, Bool, true, false, List, [], ◌∷◌, ◌++◌, length, drop, refl, sym, ap, ◌∙◌, arith, length-append}
use Rattle.std.proofs.lemmas.Bool.{cases_lt}
use Rattle.std.proofs.lemmas.List.{append-nil}
use Rattle.httparse.specs.Grammar.{RequestHead, print_request, ReadsRequest, NeverHasRequest}
use Rattle.http_wire.specs.declared.request.Request.{Request}
use Rattle.http_wire.specs.Head.{request_of}
use Rattle.http_wire.specs.Requests.{BeginsWith, StandsHead, HasNoHead, IsRefused, breaks_rule, hopeless, too_long, cut_off, has_other_byte, has_line, CanBecomeHead, StreamEnd, Clean, Bad, Unfinished, Requests, next, refused, ends, waits}
use Rattle.http_wire.proofs.StreamLemmas.{front_within}

head_is_long : (head : RequestHead) → 0 < length (print_request head)
unfolding print_request
head_is_long head = simp length-append (omega arith)

after_is_shorter : (rest : List ℕ) (request : Request) (after : List ℕ)
    → BeginsWith rest request after
    → length after < length rest
after_is_shorter rest request after x =
    let text = print_request x.head in
    let whole : length rest ≡ length text + length after = ap length x.reads.1
    ∙ length-append text after in
    omega (arith, head_is_long x.head)

-- ---- a rest that begins with no head

-- a head that is longer than the rest
beyond : (rest more : List ℕ) (head : RequestHead) (after : List ℕ)
    → ReadsRequest (rest ++ more) head after
    → length rest < length (print_request head) → CanBecomeHead rest
beyond rest more head after reads long =
    let text = print_request head in
    let tail : text ≡ rest ++ drop (length rest) text =
    front_within text after rest more (sym reads.1) (omega arith) in
    by_tail (drop (length rest) text) tail
  where
    by_tail : (tail : List ℕ) → print_request head ≡ rest ++ tail → CanBecomeHead rest
    by_tail [] is =
        let size : length (print_request head) ≡ length rest + 0 = ap length is
        ∙ length-append rest [] in
        absurd (omega arith)
    by_tail (b ∷ tail) is = (
      b,
      tail,
      head,
      (reads.0, sym is ∙ sym (append-nil (print_request head))),
    )

never_otherwise : (rest : List ℕ) → HasNoHead rest → (IsRefused rest false → ⊥)
    → (CanBecomeHead rest → ⊥)
    → NeverHasRequest rest
never_otherwise rest no_head sound cannot more head after reads =
    let text = print_request head in
    ⊎_elim (λ long. cannot (beyond rest more head after reads long))
    (λ short.
    let reads_here : ReadsRequest rest head (drop (length text) rest) =
    (reads.0, front_within rest more text after reads.1 short) in
    sound (breaks_rule
    (head, drop (length text) rest, reads_here, no_head head (drop (length text) rest) reads_here)))
    (cases_lt (length rest) (length text))

at_clean_end : (rest : List ℕ) → HasNoHead rest
    → ((requests : List Request) (end : StreamEnd) → Requests rest true requests end → ⊥) → ⊥
at_clean_end rest no_head none =
    let sound : IsRefused rest true → ⊥ = λ why. none [] Bad (refused rest true no_head why) in
    ⊎_elim (λ short. by_test short sound (has_other_byte rest) refl) (λ long. sound (too_long long))
    (cases_lt (length rest) 8192)
  where
    by_test : length rest < 8192 → (IsRefused rest true → ⊥) → (other : Bool) → has_other_byte rest
        ≡ other → ⊥
    by_test short sound true is = sound (cut_off refl is)
    by_test short sound false is = none [] Clean (ends rest (record { short = short; blank = is }))

at_open_end : (rest : List ℕ) → HasNoHead rest
    → ((requests : List Request) (end : StreamEnd) → Requests rest false requests end → ⊥) → ⊥
at_open_end rest no_head none =
    let sound : IsRefused rest false → ⊥ = λ why. none [] Bad (refused rest false no_head why) in
    ⊎_elim (λ short. by_line short sound (has_line rest) refl) (λ long. sound (too_long long))
    (cases_lt (length rest) 8192)
  where
    by_line : length rest < 8192 → (IsRefused rest false → ⊥) → (line : Bool) → has_line rest ≡ line
        → ⊥
    by_line short sound false is =
        none [] Unfinished (waits rest (record { short = short; undecided = inl is }))
    by_line short sound true is =
        let cannot : CanBecomeHead rest → ⊥ =
        λ can. none [] Unfinished (waits rest (record { short = short; undecided = inr can })) in
        sound (hopeless (record { line = is; never = never_otherwise rest no_head sound cannot }))

none_without_head : (rest : List ℕ) (ended : Bool) → HasNoHead rest
    → ((requests : List Request) (end : StreamEnd) → Requests rest ended requests end → ⊥) → ⊥
none_without_head rest true no_head none = at_clean_end rest no_head none
none_without_head rest false no_head none = at_open_end rest no_head none

-- ---- each stream

has_requests_within : (most : ℕ) (rest : List ℕ) (ended : Bool) → length rest < most
    → ((requests : List Request) (end : StreamEnd) → Requests rest ended requests end → ⊥) → ⊥
has_requests_within zero rest ended short none = omega arith
has_requests_within (suc most) rest ended short none =
    let stands_not : StandsHead rest → ⊥ =
    λ stands.
    has_requests_within most stands.1 ended
    (omega (arith, after_is_shorter rest stands.0 stands.1 stands.2))
    (λ requests end all. none (stands.0 ∷ requests) end
    (next rest ended stands.0 stands.1 requests end stands.2 all)) in
    none_without_head rest ended
    (λ head after reads rules. stands_not (
      request_of head,
      after,
      record {
        head = head;
        reads = reads;
        rules = rules;
        is = refl;
      },
    ))
    none

pub has_requests : (rest : List ℕ) (ended : Bool)
    → ((requests : List Request) (end : StreamEnd) → Requests rest ended requests end → ⊥) → ⊥
has_requests rest ended = has_requests_within (length rest + 1) rest ended (omega arith)
