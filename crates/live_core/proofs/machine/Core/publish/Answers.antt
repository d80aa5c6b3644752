-- By whether the draft is whole.
use Rattle.std.proofs.Common.{rules, sym, ◌∙◌}
use Rattle.std.proofs.lemmas.Bool.{false≢true}
use Rattle.live_core.proofs.Following.{publish-unfinished, publish-done}
use Rattle.live_core.proofs.machine.Core.publish.Goals as goal

pub returns-in-Some : goal.returns-in-Some
returns-in-Some c = rw (← c.self.view_is) (publish-unfinished _ c.in-Some.draft c.in-Some.is
    (λ none. absurd (false≢true (sym c.if-not-is_whole.true ∙ c.is_whole.ensures.1 none))))

pub returns : goal.returns
returns c = rw (← c.self.view_is, c.sources-self-inside.ensures)
    (publish-done _ c.in-Some-2.draft c.in-Some-2.is (search rules))
