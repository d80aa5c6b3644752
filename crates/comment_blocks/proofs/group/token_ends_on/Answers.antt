use Rattle.std.proofs.Common.{◌==◌, sym, ◌∙◌, ap, subst}
use Rattle.go_ast.specs.declared.token.Token.{Token}
use Rattle.comment_blocks.specs.Groups.{line_at}
use Rattle.comment_blocks.specs.GroupSteps.{NeverFall}
use Rattle.comment_blocks.proofs.Halves.{at_place, ends_found}
use Rattle.comment_blocks.proofs.group.token_ends_on.Goals as goal

pub returns-in-None : goal.returns-in-None
returns-in-None c =
    ap (at_place (λ (t : Token). line_at c.args.scanned.now.lines t.span.end == c.args.line))
    c.in-None.ensures
    ∙ sym (ends_found c.args.scanned.now c.args.line c.tokens_before-place.result c.requires
    c.tokens_before-place.ensures)

pub returns-in-Some : goal.returns-in-Some
returns-in-Some c =
    let never : NeverFall c.as_slice-lines.result.now =
    subst NeverFall (sym c.as_slice-lines.ensures) c.requires.lines in
    ap (λ n. n == c.args.line)
    (c.line_at.ensures.line never
    ∙ ap (λ ls. line_at ls c.in-Some.token.now.span.end) c.as_slice-lines.ensures)
    ∙ ap (at_place (λ (t : Token). line_at c.args.scanned.now.lines t.span.end == c.args.line))
    c.in-Some.ensures
    ∙ sym (ends_found c.args.scanned.now c.args.line c.tokens_before-place.result c.requires
    c.tokens_before-place.ensures)
