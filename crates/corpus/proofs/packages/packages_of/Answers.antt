use Rattle.std.proofs.Common.{◌++◌, ap, sym, subst, ◌∙◌, All, List}
use Rattle.std.specs.Vec.Iter.{into_iter_items}
use Rattle.package_group.specs.declared.facts.Package.{Package}
use Rattle.corpus.specs.Steps.{HasPlacesOf}
use Rattle.corpus.proofs.Lists.{All_between}
use Rattle.corpus.proofs.packages.packages_of.Goals as goal

pub renumbered-requires : goal.renumbered-requires
renumbered-requires c =
    let P = HasPlacesOf c.args.files.now in
    let before = c.loop-package.yielded in
    let p = c.in-Some.package in
    All_between P before p (into_iter_items c.next.new.self)
    (subst (All P) (sym c.loop-package.invariant.all
    ∙ ap (λ (l : List Package). before ++ l) c.in-Some.ensures.steps.0) c.requires)
