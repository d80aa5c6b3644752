use Rattle.std.proofs.Common.{arith, ap, ◌∙◌, ◌++◌}
use Rattle.text_out.proofs.EscapeLemmas.{escaping_kept, escaping_wrote}
use Rattle.text_out.proofs.escape.append_escaped.Goals as goal
use Rattle.text_out.proofs.escape.append_escaped.Goals.{in-Some+in_ok-extend_from_slice+in_ok-extend_from_slice-2, in_default}

pub loop-i-preserved : goal.loop-i-preserved
loop-i-preserved c =
    elim c.match-reference_of.branch [
      | in-Some+in_ok-extend_from_slice+in_ok-extend_from_slice-2 w ↦
          escaping_wrote _ _ _ _ w.in-Some.reference.now _ _ _ c.loop-i.invariant (omega arith) w.in-Some.ensures
          (ap (λ v. v.items) w.bytes-is ∙ w.in_ok-extend_from_slice-2.ensures.items ∙ ap (λ v. v ++ w.in-Some.reference.now) w.in_ok-extend_from_slice.ensures.items)
          w.start-is
      | in_default w ↦
          escaping_kept _ _ _ _ _ _ _ c.loop-i.invariant (omega arith) w.in_default.ensures (ap (λ v. v.items) w.bytes-is) w.start-is
    ]
