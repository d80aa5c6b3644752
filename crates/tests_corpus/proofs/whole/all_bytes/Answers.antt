use Rattle.std.proofs.Common.{◌≡◌, ◌<◌, ◌^◌, ◌∙◌, ℕ, ap, subst}
use Rattle.std.proofs.lemmas.List.{take_all}
use Rattle.corpus.specs.Snapshots.{bytes_of}
use Rattle.tests_corpus.proofs.whole.all_bytes.Goals as goal

pub returns : goal.returns
returns c =
    let all = take_all c.loop-entry.entry-index c.args.entries.now c.loop-entry-test.false in
    subst (λ (n : ℕ). n < 2 ^ 64) (c.loop-entry.invariant.sum ∙ ap bytes_of all)
    c.loop-entry.invariant.fits
