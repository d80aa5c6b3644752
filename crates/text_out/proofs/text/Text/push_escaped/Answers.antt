use Rattle.std.proofs.Common.{sym}
use Rattle.std.proofs.lemmas.Str.{IsUtf8-append}
use Rattle.text_out.proofs.EscapeLemmas.{IsUtf8-escaped, without_error}
use Rattle.text_out.proofs.text.Text.push_escaped.Goals as goal

pub invariant_of-self-else-is_err : goal.invariant_of-self-else-is_err
invariant_of-self-else-is_err c =
    rw (without_error _ _ (sym c.if-is_err.ensures.value) c.append_escaped.ensures.ok)
    (IsUtf8-append _ _ c.self.invariant (IsUtf8-escaped _ c.as_bytes.ensures.utf8))
