use Rattle.std.proofs.Common.{sym, ◌∙◌, subst}
use Rattle.std.specs.Prelude.{IsUtf8}
use Rattle.routes.proofs.TextLemmas.{decoded_text, not_decoded}
use Rattle.routes.proofs.paths.decode.Goals as goal

pub returns-in_ok-into_owned-in-Ok : goal.returns-in_ok-into_owned-in-Ok
returns-in_ok-into_owned-in-Ok c =
    let bytes = c.percent_decode.ensures.bytes in
    decoded_text c.args.value.now c.from_string.result
    (c.from_string.ensures ∙ c.in_ok-into_owned-in-Ok.ensures.ok ∙ c.in-Ok.ensures.value ∙ bytes)
    (subst IsUtf8 bytes c.in-Ok.ensures.ok_only_if_utf8)

pub returns-in-Err-Utf8 : goal.returns-in-Err-Utf8
returns-in-Err-Utf8 c =
    let bytes = c.percent_decode.ensures.bytes in
    let unless = rw c.in-Err-Utf8.is at c.decode_utf8.ensures.utf8 in
    not_decoded c.args.value.now
    (λ utf8. let is = sym c.in-Err-Utf8.field-0-is ∙ unless (subst IsUtf8 (sym bytes) utf8) in cc
    (is))
