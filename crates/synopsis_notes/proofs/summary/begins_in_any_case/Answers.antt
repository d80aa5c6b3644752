use Rattle.std.proofs.Common.{◌∙◌, ap, refl}
use Rattle.synopsis_notes.specs.Synopses.{begins_in_any_case}
use Rattle.synopsis_notes.proofs.Words.{front_tested}
use Rattle.synopsis_notes.proofs.summary.begins_in_any_case.Goals as goal

pub returns-then-word-text : goal.returns-then-word-text
returns-then-word-text c =
    let same = c.as_bytes-word.ensures.value in
    front_tested c.eq_ignore_ascii_case.result c.as_bytes-word.result.now c.args.text.now _
    refl c.eq_ignore_ascii_case.ensures.test
    ∙ ap (λ w. begins_in_any_case w c.args.text.now) same
