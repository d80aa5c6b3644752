use Rattle.std.proofs.Common.{◌≡◌, ◌==◌, false, get_or, length, sym, ◌∙◌, ap}
use Rattle.std.proofs.lemmas.Bool.{eqb-true, ne_eqb}
use Rattle.go_literals.proofs.Quoted.{rune-plain, empty_plain}
use Rattle.go_literals.proofs.extent.rune_length.Goals as goal
use Rattle.go_literals.proofs.extent.rune_length.Goals.{then-is_empty-via-then-is_empty}
use Rattle.go_literals.proofs.extent.rune_length.Goals.{then-is_empty-via-else-is_empty+then-bytes-ne92}

pub returns-then-is_empty : goal.returns-then-is_empty
returns-then-is_empty c =
    let other : (get_or c.args.text.now 0 0 == 92) ≡ false =
    ap (λ l. get_or l 0 0 == 92) (sym c.as_bytes-bytes.ensures.value)
    ∙ (elim c.then-is_empty.branch [
      | then-is_empty-via-then-is_empty w ↦
          empty_plain c.as_bytes-bytes.result.now
          (eqb-true (length c.as_bytes-bytes.result.now) 0 (sym w.if-is_empty.ensures))
      | then-is_empty-via-else-is_empty+then-bytes-ne92 w ↦
          ne_eqb (get_or c.as_bytes-bytes.result.now 0 0) 92 w.if-bytes-ne92.true
    ]) in
    c.character_length.ensures ∙ sym (rune-plain c.args.text.now other)
