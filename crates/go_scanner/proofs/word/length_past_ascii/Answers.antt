use Rattle.std.proofs.Common.{◌≡◌, ◌<◌, ◌++◌, List, ℕ, get_or, drop, length, encode_utf8, sym, ◌∙◌}
use Rattle.std.proofs.Common.{ap, subst, arith}
use Rattle.std.proofs.lemmas.Bool.Decides.{nat_tests}
use Rattle.std.proofs.lemmas.Str.{IsCharBoundary-from_drop}
use Rattle.go_chars.specs.Identifiers.{is_letter_or_digit}
use Rattle.go_scanner.proofs.Words.{ascii_front, past_ascii, stops_ascii, past_wide, stops_wide}
use Rattle.go_scanner.proofs.Words.{ends}
use Rattle.go_scanner.proofs.word.length_past_ascii.Goals as goal

pub loop-end-init : goal.loop-end-init
loop-end-init c = ascii_front c.args.text.now c.utf8.text c.args.found (omega (arith, c.requires))

pub loop-end-preserved-then-is_ascii : goal.loop-end-preserved-then-is_ascii
loop-end-preserved-then-is_ascii c =
    let within : c.loop-end.end < length c.args.text.now =
    omega (arith, c.as_bytes-bytes.ensures.len) in
    let P : List ℕ → Type 0 = λ l. get_or l c.loop-end.end 0 < 128 in
    let low =
    subst P c.as_bytes-bytes.ensures.value (grind (arith, nat_tests, c.if-is_ascii.ensures)) in
    past_ascii c.args.text.now c.loop-end.end c.loop-end.invariant within low
    (ap (λ l. is_letter_or_digit (get_or l c.loop-end.end 0)) (sym c.as_bytes-bytes.ensures.value)
    ∙ sym c.is_letter_or_digit.ensures ∙ c.if-not-is_letter_or_digit.false)

pub range_from-requires : goal.range_from-requires
range_from-requires c =
    λ some. IsCharBoundary-from_drop c.args.text.now c.loop-end.end c.loop-end.invariant.within
    c.loop-end.invariant.utf8

pub loop-end-preserved : goal.loop-end-preserved
loop-end-preserved c =
    let split : drop c.loop-end.end c.args.text.now ≡ encode_utf8 c.in-Some.c
    ++ c.next.new.self.rest.now =
    sym (c.chars.ensures.rest ∙ c.range_from.ensures.value) ∙ c.in-Some.ensures.steps.0 in
    past_wide c.args.text.now c.loop-end.end c.loop-end.invariant c.in-Some.c
    c.next.new.self.rest.now split c.len_utf8-end.result c.len_utf8-end.ensures.len
    (sym c.is_letter_or_digit-else-is_ascii.ensures ∙ c.if-not-is_letter_or_digit-2.false)

pub returns-after-loop-end : goal.returns-after-loop-end
returns-after-loop-end c =
    ends c.args.text.now c.loop-end.end c.loop-end.invariant
    (omega (arith, c.as_bytes-bytes.ensures.len))

pub returns-then-not-is_letter_or_digit : goal.returns-then-not-is_letter_or_digit
returns-then-not-is_letter_or_digit c =
    let within : c.loop-end.end < length c.args.text.now =
    omega (arith, c.as_bytes-bytes.ensures.len) in
    let P : List ℕ → Type 0 = λ l. get_or l c.loop-end.end 0 < 128 in
    let low =
    subst P c.as_bytes-bytes.ensures.value (grind (arith, nat_tests, c.if-is_ascii.ensures)) in
    stops_ascii c.args.text.now c.loop-end.end c.loop-end.invariant within low
    (ap (λ l. is_letter_or_digit (get_or l c.loop-end.end 0)) (sym c.as_bytes-bytes.ensures.value)
    ∙ sym c.is_letter_or_digit.ensures ∙ c.if-not-is_letter_or_digit.true)

pub returns-then-not-is_letter_or_digit-2 : goal.returns-then-not-is_letter_or_digit-2
returns-then-not-is_letter_or_digit-2 c =
    let split : drop c.loop-end.end c.args.text.now ≡ encode_utf8 c.in-Some.c
    ++ c.next.new.self.rest.now =
    sym (c.chars.ensures.rest ∙ c.range_from.ensures.value) ∙ c.in-Some.ensures.steps.0 in
    stops_wide c.args.text.now c.loop-end.end c.loop-end.invariant c.in-Some.c
    c.next.new.self.rest.now split
    (sym c.is_letter_or_digit-else-is_ascii.ensures ∙ c.if-not-is_letter_or_digit-2.true)
