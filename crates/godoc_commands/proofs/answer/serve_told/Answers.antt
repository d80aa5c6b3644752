-- The reader sees nothing beyond what it was told for the last time.
use Rattle.std.proofs.Common.{◌≡◌, Bool, true, false, ◌||◌, ◌∙◌, refl, subst}
use Rattle.publication.specs.View.{StartsWith}
use Rattle.godoc_commands.proofs.Sessions.{Serves-session}
use Rattle.godoc_commands.proofs.answer.serve_told.Goals as goal

or_closed : (before told : Bool) → told ≡ true → (before || told) ≡ true
or_closed before told is = elim before as (λ b. (b || told) ≡ true) [ true ↦ refl | false ↦ is ]

pub returns-clause-session : goal.returns-clause-session
returns-clause-session g c edition is =
    let serves = c.serve_link.ensures.serves in
    let closed = serves.only_sees.closed ∙ c.learn.ensures.closed
    ∙ or_closed _ _ c.requires.closed in
    let told = serves.only_sees.told ∙ c.learn.ensures.last c.requires.closed ∙ is in
    Serves-session edition _ _ _ _ _ serves.session
    (subst (λ list. StartsWith list c.serve_link.new.reader.seen) told
    (serves.only_sees.view.within closed))
