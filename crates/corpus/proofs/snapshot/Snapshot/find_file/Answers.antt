use Rattle.std.proofs.Common.{◌≡◌, ◌∙◌, ap, sym, subst, rules}
use Rattle.std.specs.Cmp.Lexicographic.{slice_cmp}
use Rattle.std.specs.Ordering.{nat_cmp}
use Rattle.std.proofs.lemmas.Fn.{always_returns_same}
use Rattle.tree_io.specs.Path.{IsRising, paths_of}
use Rattle.tree_io.specs.Sources.{Sources}
use Rattle.corpus.specs.Snapshots.{SourceSet}
use Rattle.corpus.proofs.Halving.{found, absent}
use Rattle.corpus.proofs.snapshot.Snapshot.find_file.Goals as goal

pub returns-in-Ok : goal.returns-in-Ok
returns-in-Ok c =
    let same : c.as_slice.result.now ≡ c.args.self.now.entries = c.as_slice.ensures
    ∙ ap (λ (s : SourceSet). s.entries) c.self.view_is in
    let rising = subst (λ (es : Sources). IsRising (paths_of es)) (sym c.as_slice.ensures)
    c.self.invariant.valid.rising in
    rw (← same) (found (λ e. e.0) c.as_slice.result.now rising c.args.path.now c.in-Ok.place
    c.in-Ok.ensures.bound
    (c.in-Ok.ensures.position (λ e. slice_cmp nat_cmp e.0 c.args.path.now)
    (always_returns_same _ _ _ (λ a r g called. search rules))))

pub returns-in-Err : goal.returns-in-Err
returns-in-Err c =
    let same : c.as_slice.result.now ≡ c.args.self.now.entries = c.as_slice.ensures
    ∙ ap (λ (s : SourceSet). s.entries) c.self.view_is in
    let rising = subst (λ (es : Sources). IsRising (paths_of es)) (sym c.as_slice.ensures)
    c.self.invariant.valid.rising in
    rw (← same) (absent (λ e. e.0) c.as_slice.result.now rising c.args.path.now c.in-Err.field-0
    c.in-Err.ensures.bound
    (c.in-Err.ensures.position (λ e. slice_cmp nat_cmp e.0 c.args.path.now)
    (always_returns_same _ _ _ (λ a r g called. search rules))))
