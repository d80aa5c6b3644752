use Rattle.std.proofs.Common.{◌≡◌, ◌∙◌, List, length, ap, map, sym, subst, arith, rules}
use Rattle.std.specs.Cmp.Lexicographic.{slice_cmp}
use Rattle.std.specs.Ordering.{nat_cmp}
use Rattle.std.proofs.lemmas.Fn.{always_returns_same}
use Rattle.package_group.specs.declared.facts.Package.{Package}
use Rattle.tree_io.specs.Path.{IsRising}
use Rattle.corpus.specs.Corpora.{Edition}
use Rattle.corpus.proofs.Halving.{found, absent}
use Rattle.corpus.proofs.Inputs.{length-files}
use Rattle.corpus.proofs.PackageCounts.{few_packages, paths_rise}
use Rattle.corpus.proofs.corpus.Corpus.find_package.Goals as goal

pub overflow_cast-result : goal.overflow_cast-result
overflow_cast-result c =
    let is = c.self.invariant.tables in
    omega (
      arith,
      few_packages c.self.inside.snapshot.config.prefix c.self.inside.tables.files
          c.self.inside.tables.packages is.packages,
      length-files c.self.inside.snapshot c.self.inside.tables.files is.files,
      c.self.invariant.sources.limits.files,
      ap length c.as_slice.ensures,
      c.in-Ok.ensures.bound,
    )

pub returns-in-Ok : goal.returns-in-Ok
returns-in-Ok c =
    let same : c.as_slice.result.now ≡ c.args.self.now.tables.packages = c.as_slice.ensures
    ∙ ap (λ (e : Edition). e.tables.packages) c.self.view_is in
    let rising = subst (λ (ps : List Package). IsRising (map (λ (p : Package). p.path) ps))
    (sym c.as_slice.ensures)
    (paths_rise c.self.inside.snapshot.config.prefix c.self.inside.tables.files
    c.self.inside.tables.packages c.self.invariant.tables.packages) in
    rw (← same) (found (λ (p : Package). p.path) c.as_slice.result.now rising c.args.path.now
    c.in-Ok.place c.in-Ok.ensures.bound
    (c.in-Ok.ensures.position (λ p. slice_cmp nat_cmp p.path c.args.path.now)
    (always_returns_same _ _ _ (λ a r g called. search rules))))

pub returns-in-Err : goal.returns-in-Err
returns-in-Err c =
    let same : c.as_slice.result.now ≡ c.args.self.now.tables.packages = c.as_slice.ensures
    ∙ ap (λ (e : Edition). e.tables.packages) c.self.view_is in
    let rising = subst (λ (ps : List Package). IsRising (map (λ (p : Package). p.path) ps))
    (sym c.as_slice.ensures)
    (paths_rise c.self.inside.snapshot.config.prefix c.self.inside.tables.files
    c.self.inside.tables.packages c.self.invariant.tables.packages) in
    rw (← same) (absent (λ (p : Package). p.path) c.as_slice.result.now rising c.args.path.now
    c.in-Err.field-0 c.in-Err.ensures.bound
    (c.in-Err.ensures.position (λ p. slice_cmp nat_cmp p.path c.args.path.now)
    (always_returns_same _ _ _ (λ a r g called. search rules))))
