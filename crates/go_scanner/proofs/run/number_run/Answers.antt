use Rattle.std.proofs.Common.{◌≡◌, ◌+◌, length, take, drop, get_or, ◌∙◌, ap, arith}
use Rattle.std.proofs.lemmas.List.{take_rest}
use Rattle.std.proofs.lemmas.Grind.{common_steps}
use Rattle.go_ast.specs.Lexical.{run_after, is_hexadecimal}
use Rattle.go_scanner.proofs.Runs.{length_run_after, number_run_take}
use Rattle.go_scanner.proofs.run.number_run.Goals as goal

after : (c : goal.After-length_after-length)
    → c.length_after-length.result
    ≡ length
    (run_after (is_hexadecimal c.args.rest.now) (get_or c.args.rest.now 0 0)
    (drop 1 c.args.rest.now))
after c =
    let rest = take_rest c.args.rest.now 1 in
    let same =
    ap (λ bytes. length
    (run_after (is_hexadecimal c.args.rest.now) (get_or c.args.rest.now 0 0) bytes)) rest in
    cc

pub overflow_add-length : goal.overflow_add-length
overflow_add-length c =
    let within =
    length_run_after (is_hexadecimal c.args.rest.now) (get_or c.args.rest.now 0 0)
    (drop 1 c.args.rest.now) in
    let same = after c in
    grind (arith, common_steps)

pub slice_bounds-result-end : goal.slice_bounds-result-end
slice_bounds-result-end c =
    let within =
    length_run_after (is_hexadecimal c.args.rest.now) (get_or c.args.rest.now 0 0)
    (drop 1 c.args.rest.now) in
    let same = after c in
    grind (arith, common_steps)

pub returns : goal.returns
returns c = ap (λ n. take (1 + n) c.args.rest.now) (after c) ∙ number_run_take _ c.requires
