use Rattle.std.proofs.Common.{Some, sym, ◌∙◌, ap}
use Rattle.std.proofs.lemmas.List.{take_rest}
use Rattle.go_scanner.specs.declared.shape.Shape.TheVariants.{Comment}
use Rattle.go_scanner.specs.Shapes.{general_shape}
use Rattle.go_scanner.proofs.Dispatch.{at_slash_line, at_slash_general, at_slash_other}
use Rattle.go_scanner.proofs.front.slash_shape.Goals as goal

pub returns-then-second-eq47 : goal.returns-then-second-eq47
returns-then-second-eq47 c =
    ap (λ n. Some (Comment n)) c.comment_length.ensures
    ∙ sym (at_slash_line c.args.bytes.now c.requires
    (sym c.byte_at-second.ensures ∙ c.if-second-eq47.true))

pub returns-then-second-eq42 : goal.returns-then-second-eq42
returns-then-second-eq42 c =
    c.general_shape.ensures ∙ ap general_shape (take_rest c.args.bytes.now 2)
    ∙ sym (at_slash_general c.args.bytes.now c.requires
    (sym c.byte_at-second.ensures ∙ c.if-second-eq42.true))

pub returns-else-second-eq42 : goal.returns-else-second-eq42
returns-else-second-eq42 c =
    c.operator_shape.ensures
    ∙ sym (at_slash_other c.args.bytes.now c.requires
    (λ e. c.if-second-eq47.false (c.byte_at-second.ensures ∙ e))
    (λ e. c.if-second-eq42.false (c.byte_at-second.ensures ∙ e)))
