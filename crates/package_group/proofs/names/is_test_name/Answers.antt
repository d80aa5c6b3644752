use Rattle.std.proofs.Common.{List, ℕ, ◌++◌, ap, sym, ◌∙◌, codes}
use Rattle.std.specs.Str.{bytes_eq}
use Rattle.package_group.proofs.Suffixes.{strips, bytes_eq-append}
use Rattle.package_group.proofs.names.is_test_name.Goals as goal

pub returns-in-Some : goal.returns-in-Some
returns-in-Some c =
    let whole = strips c.args.own.now (codes "_test") c.in-Some.rest.now c.in-Some.ensures.cases in
    c.eq.ensures ∙ sym (bytes_eq-append c.in-Some.rest.now c.args.name.now (codes "_test"))
    ∙ ap (λ (l : List ℕ). bytes_eq l (c.args.name.now ++ codes "_test")) (sym whole)
