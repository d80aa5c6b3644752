use Rattle.std.proofs.Common.{◌≡◌, ◌==◌, false, sym, ap, arith}
use Rattle.std.proofs.lemmas.Bool.Decides.{nat_tests}
use Rattle.go_ast.specs.Characters.{single_quote}
use Rattle.go_literals.specs.Options.{◌|>◌}
use Rattle.go_literals.specs.Reading.{read_element}
use Rattle.go_literals.proofs.RuneBytes.{unquoted}
use Rattle.go_literals.proofs.rune.quoted_value.Goals as goal

pub returns-else-last-eq39 : goal.returns-else-last-eq39
returns-else-last-eq39 c =
    let other : (c.in_ok-last.last.now == single_quote) ≡ false =
    grind (arith, nat_tests, c.if-last-eq39.false) in
    sym (ap (λ o. o |> read_element)
    (unquoted c.args.bytes.now c.in_ok-last.inner.now c.in_ok-last.last.now
    c.in_ok-last.ensures.cases.0 other))
