use Rattle.std.proofs.Common.{◌≡◌, sym, subst}
use Rattle.std.proofs.lemmas.Result.{IfOk-weaker}
use Rattle.corpus_piece.specs.Outcomes.{IsOutcomeOf}
use Rattle.corpus_piece.specs.Pieces.{JudgedFile, judged_file}
use Rattle.corpus_piece.proofs.OutcomeSteps.{is_outcome}
use Rattle.corpus_piece.proofs.make.make_piece.Goals as goal

pub new-requires : goal.new-requires
new-requires c =
    is_outcome c.args.path.now c.args.entry.now c.args.config.now c.args.number
    c.in_ok-outcome.outcome c.in_ok-outcome.ensures

pub returns-clause-outcome : goal.returns-clause-outcome
returns-clause-outcome c =
    let P = λ (p : JudgedFile). IsOutcomeOf c.args.path.now c.args.entry.now c.args.config.now
    c.args.number p.outcome in
    let made = judged_file c.args.path.now c.args.entry.now c.args.config.now c.args.number
    c.in_ok-outcome.outcome in
    IfOk-weaker c.new.result (λ (p : JudgedFile). p ≡ made) P
    (λ p same. subst P (sym same) (is_outcome c.args.path.now c.args.entry.now c.args.config.now
    c.args.number c.in_ok-outcome.outcome c.in_ok-outcome.ensures)) c.new.ensures
