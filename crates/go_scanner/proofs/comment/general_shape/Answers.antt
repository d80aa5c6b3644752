use Rattle.std.proofs.Common.{◌≡◌, Some, sym, arith, length-take}
use Rattle.go_scanner.specs.TextBytes.{comment_end}
use Rattle.go_scanner.proofs.Closings.{comment_end_within}
use Rattle.go_scanner.proofs.comment.general_shape.Goals as goal

pub slice_bounds-has_newline-end : goal.slice_bounds-has_newline-end
slice_bounds-has_newline-end c =
    let found : comment_end c.args.rest.now ≡ Some c.in_ok-length.length =
    sym c.in_ok-length.ensures in
    omega (
      arith,
      comment_end_within c.args.rest.now c.in_ok-length.length found,
      length-take c.in_ok-length.length c.args.rest.now,
    )
