use Rattle.std.proofs.Common.{◌++◌, ◌∙◌, ap}
use Rattle.std.specs.List.{flat_map}
use Rattle.std.proofs.lemmas.Result.{on_ok_weaker}
use Rattle.godoc_commands.specs.Pages.{fault_line, faults_start, list_end}
use Rattle.corpus.proofs.CorpusLaws.{faults_in_range}
use Rattle.godoc_commands.proofs.FaultPages.{faults_say}
use Rattle.godoc_commands.proofs.Joins.{joined_three}
use Rattle.godoc_commands.proofs.pages.push_faults.Goals as goal

pub push_fault_lines-requires-clause-within : goal.push_fault_lines-requires-clause-within
push_fault_lines-requires-clause-within c =
    rw c.faults.ensures (faults_in_range _ _ c.own_tables.ensures.tables)

pub push_fault_lines-requires-clause-says : goal.push_fault_lines-requires-clause-says
push_fault_lines-requires-clause-says c =
    rw c.faults.ensures (faults_say _ _ c.own_tables.ensures.tables)

pub returns : goal.returns
unfolding faults_start list_end
returns c =
    let lines = flat_map (fault_line c.args.corpus.now.sources.entries) in
    on_ok_weaker c.push-2.result
    (λ h. joined_three c.args.text.now _ _ _ c.push.new.self c.push_fault_lines.new.text
    c.push-2.new.self
    c.in_ok-push.ensures.ok
    (c.in_ok-push_fault_lines.ensures
    ∙ ap (λ faults. c.push.new.self ++ lines faults) c.faults.ensures) h)
    c.push-2.ensures.ok
