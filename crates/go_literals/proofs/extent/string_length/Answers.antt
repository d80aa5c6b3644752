use Rattle.std.proofs.Common.{◌≡◌, ◌+◌, drop, sym, ◌∙◌, ap, arith}
use Rattle.std.proofs.lemmas.List.{take_rest}
use Rattle.go_ast.specs.Characters.{double_quote}
use Rattle.go_literals.specs.Extents.{escape_length}
use Rattle.go_literals.proofs.StringScan.{start, unended, place_below, closed, ended, unescaped}
use Rattle.go_literals.proofs.StringScan.{escaped, last_mark}
use Rattle.go_literals.proofs.extent.string_length.Goals as goal

pub loop-plain-init : goal.loop-plain-init
loop-plain-init c = start c.args.bytes.now

pub returns-then-mark-eq34-clause-value : goal.returns-then-mark-eq34-clause-value
returns-then-mark-eq34-clause-value c =
    closed c.args.bytes.now c.loop-plain.at c.loop-plain.invariant c.in-Some.plain c.in-Some.ensures
    c.if-mark-eq34.true

pub returns-then-mark-eq34-clause-within : goal.returns-then-mark-eq34-clause-within
returns-then-mark-eq34-clause-within c =
    omega (
      arith,
      place_below c.args.bytes.now c.loop-plain.at c.loop-plain.invariant c.in-Some.plain
          c.in-Some.ensures,
    )

pub returns-then-length-eq0-clause-value : goal.returns-then-length-eq0-clause-value
returns-then-length-eq0-clause-value c =
    let none : escape_length double_quote
    (drop (c.loop-plain.at + c.in-Some.plain + 1) c.args.bytes.now) ≡ 0 =
    ap (escape_length double_quote)
    (sym (take_rest c.args.bytes.now (c.loop-plain.at + c.in-Some.plain + 1)))
    ∙ sym c.escape_length-length.ensures.value ∙ c.if-length-eq0.true in
    unescaped c.args.bytes.now c.loop-plain.at c.loop-plain.invariant c.in-Some.plain
    c.in-Some.ensures c.if-mark-ne92.false none

pub loop-plain-preserved : goal.loop-plain-preserved
loop-plain-preserved c =
    let long : escape_length double_quote
    (drop (c.loop-plain.at + c.in-Some.plain + 1) c.args.bytes.now)
    ≡ c.escape_length-length.result =
    ap (escape_length double_quote)
    (sym (take_rest c.args.bytes.now (c.loop-plain.at + c.in-Some.plain + 1)))
    ∙ sym c.escape_length-length.ensures.value in
    escaped c.args.bytes.now c.loop-plain.at c.loop-plain.invariant c.in-Some.plain
    c.in-Some.ensures c.if-mark-ne92.false c.escape_length-length.result long
    (omega (arith, c.if-length-eq0.false))

pub returns-then-mark-ne92-clause-value : goal.returns-then-mark-ne92-clause-value
returns-then-mark-ne92-clause-value c =
    ended c.args.bytes.now c.loop-plain.at c.loop-plain.invariant c.in-Some.plain c.in-Some.ensures
    (last_mark c.args.bytes.now c.loop-plain.at c.loop-plain.invariant c.in-Some.plain
    c.in-Some.ensures c.if-mark-eq34.false c.if-mark-ne92.true)

pub returns-clause-value : goal.returns-clause-value
returns-clause-value c =
    sym (unended c.args.bytes.now c.loop-plain.at c.loop-plain.invariant c.in_default.ensures)
