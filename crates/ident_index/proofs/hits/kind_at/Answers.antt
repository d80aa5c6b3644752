use Rattle.std.proofs.Common.{◌<◌, length, arith, get_or}
use Rattle.std.proofs.lemmas.Bool.Decides.{nat_tests}
use Rattle.std.proofs.lemmas.List.{get_or_default}
use Rattle.ident_index.specs.Naming.{Name}
use Rattle.ident_index.specs.declared.hit.HitKind.TheVariants.{PackageName}
use Rattle.ident_index.proofs.KindLemmas.{first_there, none_there}
use Rattle.ident_index.proofs.hits.kind_at.Goals as goal
use Rattle.ident_index.proofs.hits.kind_at.Goals.{else-before-names-via-then-before-names+else-names-before}
use Rattle.ident_index.proofs.hits.kind_at.Goals.{else-before-names-via-else-before-names}

pub returns-else-before-names : goal.returns-else-before-names
returns-else-before-names c =
    let beyond : (d : Name) → c.args.before < length c.args.names.now
    → c.args.offset < (get_or c.args.names.now c.args.before d).0 =
    λ d h. elim c.else-before-names.branch [
      | else-before-names-via-then-before-names+else-names-before w ↦
          grind (
            arith,
            nat_tests,
            c.requires.no_more d h,
            get_or_default c.args.names.now
                c.args.before d,
          )
      | else-before-names-via-else-before-names w ↦ absurd (omega (arith, w.if-before-names.false))
    ] in
    none_there c.args.names.now c.args.offset c.args.before c.requires.so_many c.requires.rising
    beyond

pub returns-then-names-before : goal.returns-then-names-before
returns-then-names-before c =
    let d : Name = (0, PackageName) in
    first_there c.args.names.now c.args.offset c.args.before c.requires.so_many d
    (grind (arith, nat_tests, c.if-before-names.true))
    (grind (arith, nat_tests, c.if-names-before.true))
