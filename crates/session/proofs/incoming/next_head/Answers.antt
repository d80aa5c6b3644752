-- Each turn of the loop feeds one piece more.
use Rattle.std.proofs.Common.{rules}
use Rattle.session.proofs.IncomingLemmas.{HasHeard-more, rest_after_more, undecided_after_more}
use Rattle.session.proofs.incoming.next_head.Goals as goal

pub loop-link-preserved : goal.loop-link-preserved
loop-link-preserved g c =
    let fed = c.read_piece.ensures.fed in
    record {
      heard = HasHeard-more _ _ _ _ _ _ _ fed.0 c.loop-link.invariant.heard
          (rest_after_more _ _ _ c.in_ok-next.ensures.answer c.in-More.is) fed.1 fed.2 fed.3
          (undecided_after_more _ _ _ _ c.in-More.is c.in_ok-next.ensures.stream);
      end = λ _. c.read_piece.ensures.end;
      read_faults = search rules;
      held = search rules;
      write_faults = search rules;
      same_references = search rules;
    }
