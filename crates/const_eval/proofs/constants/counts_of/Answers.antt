use Rattle.std.proofs.Common.{arith}
use Rattle.std.specs.Prelude.{string_bytes}
use Rattle.std.proofs.lemmas.Grind.{text_counts}
use Rattle.const_eval.proofs.Finding.{few_named}
use Rattle.const_eval.proofs.constants.counts_of.Goals as goal

pub overflow_add-counts : goal.overflow_add-counts
overflow_add-counts c =
    let few = few_named (string_bytes c.in_ok-name.name) c.args.specs.now c.loop-fact.fact-index in
    let said = c.loop-fact.invariant (string_bytes c.in_ok-name.name) in
    grind (arith, text_counts, few, said)

pub loop-fact-preserved : goal.loop-fact-preserved
loop-fact-preserved c = grind (arith, text_counts)
