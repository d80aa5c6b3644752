use Rattle.std.proofs.Common.{arith, ◌≤◌, length}
use Rattle.std.proofs.lemmas.List.Sums.{prefix_len-le-length}
use Rattle.std.proofs.lemmas.Bool.Decides.{nat_tests}
use Rattle.go_scanner.specs.NumberBytes.{point_place}
use Rattle.go_scanner.proofs.number.spells_mantissa.Goals as goal

pub overflow_add-fraction : goal.overflow_add-fraction
overflow_add-fraction c =
    let high : point_place c.args.bytes.now ≤ length c.args.bytes.now =
    prefix_len-le-length _ c.args.bytes.now in
    grind (arith, nat_tests)

pub slice_bounds-fraction-count : goal.slice_bounds-fraction-count
slice_bounds-fraction-count c =
    let high : point_place c.args.bytes.now ≤ length c.args.bytes.now =
    prefix_len-le-length _ c.args.bytes.now in
    grind (arith, nat_tests)

pub slice_bounds-fraction-start : goal.slice_bounds-fraction-start
slice_bounds-fraction-start c =
    let high : point_place c.args.bytes.now ≤ length c.args.bytes.now =
    prefix_len-le-length _ c.args.bytes.now in
    grind (arith, nat_tests)
