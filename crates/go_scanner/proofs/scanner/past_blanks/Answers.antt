use Rattle.std.proofs.Common.{◌≡◌, ◌∙◌, ◌+◌, ap, arith, drop, length-drop}
use Rattle.std.specs.List.{prefix_len}
use Rattle.std.proofs.lemmas.List.{take_rest}
use Rattle.std.proofs.lemmas.List.Sums.{prefix_len-le-length}
use Rattle.go_scanner.specs.Classes.{is_blank}
use Rattle.go_scanner.proofs.scanner.past_blanks.Goals as goal

pub overflow_add-result : goal.overflow_add-result
overflow_add-result c =
    let left = drop c.args.at c.args.source.now in
    let found : c.blank_length.result ≡ prefix_len is_blank left =
    c.blank_length.ensures ∙ ap (prefix_len is_blank) (take_rest c.args.source.now c.args.at) in
    omega (
      arith,
      prefix_len-le-length is_blank left,
      length-drop c.args.at c.args.source.now,
      c.requires.size,
      c.requires.place,
    )

pub returns : goal.returns
returns c =
    ap (λ n. c.args.at + n)
    (c.blank_length.ensures ∙ ap (prefix_len is_blank) (take_rest c.args.source.now c.args.at))
