use Rattle.std.proofs.Common.{◌+◌, ◌-◌, get_or, arith, Ok, Err}
use Rattle.std.proofs.lemmas.List.Sorted.{searched}
use Rattle.go_scanner.proofs.Positions.{not_falling, some_before}
use Rattle.go_scanner.proofs.position.line_index.Goals as goal

pub overflow_sub-result : goal.overflow_sub-result
overflow_sub-result c =
    let found =
    searched c.args.starts.now c.args.offset (Err c.in-Err.after) c.in-Err.ensures.position
    (not_falling _ c.requires.rising) in
    some_before c.in-Err.after (get_or c.args.starts.now 0 0) c.args.offset c.requires.first
    (λ e. found.2 0 (omega arith) c.requires.some)

pub returns-in-Ok : goal.returns-in-Ok
returns-in-Ok c =
    let rising = c.requires.rising in
    let found =
    searched c.args.starts.now c.args.offset (Ok c.in-Ok.index) c.in-Ok.ensures.position
    (not_falling _ rising) in
    record {
      within = found.0;
      in_line = omega (arith, found.1);
      before_next =
          λ lt. omega (arith, found.1, rising c.in-Ok.index (c.in-Ok.index + 1) (omega arith) lt);
    }

pub returns-in-Err : goal.returns-in-Err
returns-in-Err c =
    let found =
    searched c.args.starts.now c.args.offset (Err c.in-Err.after) c.in-Err.ensures.position
    (not_falling _ c.requires.rising) in
    let some =
    some_before c.in-Err.after (get_or c.args.starts.now 0 0) c.args.offset c.requires.first
    (λ e. found.2 0 (omega arith) c.requires.some) in
    record {
      within = omega (arith, found.0);
      in_line = omega (arith, found.1 (c.in-Err.after - 1) (omega arith));
      before_next = λ lt. omega (arith, found.2 (c.in-Err.after - 1 + 1) (omega arith) lt);
    }
