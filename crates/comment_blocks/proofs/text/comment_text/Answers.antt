use Rattle.std.proofs.Common.{◌≡◌, drop, [], sym, ◌∙◌, ap}
use Rattle.std.specs.List.{flat_map}
use Rattle.std.proofs.lemmas.List.{drop_all}
use Rattle.comment_blocks.specs.Texts.{lines_of_comment}
use Rattle.comment_blocks.specs.TextSteps.{Begun, after_lines}
use Rattle.comment_blocks.proofs.Contents.{contents}
use Rattle.comment_blocks.proofs.TextLines.{text_grows}
use Rattle.comment_blocks.proofs.text.comment_text.Goals as goal

pub push_comment-requires : goal.push_comment-requires
push_comment-requires c =
    contents c.args.source.now c.args.comments.now c.requires c.loop-comment.comment-index _
    c.loop-comment-test.true

pub returns : goal.returns
returns c =
    let none : drop c.loop-comment.comment-index c.args.comments.now ≡ [] =
    drop_all c.loop-comment.comment-index c.args.comments.now c.loop-comment-test.false in
    c.from_string.ensures
    ∙ ap (λ (begun : Begun). begun.text)
    (c.lines-2.view_is
    ∙ ap (λ comments. after_lines c.loop-comment.lines
    (flat_map (lines_of_comment c.args.source.now) comments)) (sym none)
    ∙ c.loop-comment.invariant)
    ∙ text_grows (flat_map (lines_of_comment c.args.source.now) c.args.comments.now)
