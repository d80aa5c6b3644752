use Rattle.std.proofs.Common.{All, length, sym, ◌∙◌, subst}
use Rattle.build_lines.specs.Judging.{BeginsBuild, IsInside}
use Rattle.build_lines.proofs.CommentPlaces.{build_lines_begin, build_lines_inside, read_inside}
use Rattle.build_lines.proofs.judge.admits.Goals as goal

pub build_lines-requires : goal.build_lines-requires
build_lines-requires c =
    read_inside c.args.source.now c.args.scanned.now.tokens c.args.scanned.now.comments
    c.requires.read

pub judge-requires-clause-inside : goal.judge-requires-clause-inside
judge-requires-clause-inside c =
    let source = c.args.source.now in
    let scanned = c.args.scanned.now in
    subst (All (IsInside (length source))) (sym (c.as_slice.ensures.value ∙ c.in_ok-lines.ensures))
    (build_lines_inside (length source) source scanned.tokens scanned.comments
    (read_inside source scanned.tokens scanned.comments c.requires.read))

pub judge-requires-clause-begin : goal.judge-requires-clause-begin
judge-requires-clause-begin c =
    let source = c.args.source.now in
    let scanned = c.args.scanned.now in
    subst (All (BeginsBuild source)) (sym (c.as_slice.ensures.value ∙ c.in_ok-lines.ensures))
    (build_lines_begin source scanned.tokens scanned.comments)
