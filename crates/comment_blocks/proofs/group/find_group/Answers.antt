use Rattle.std.proofs.Common.{sym}
use Rattle.comment_blocks.proofs.DocGroups.{begun, none_left, is_doc, passed}
use Rattle.comment_blocks.proofs.group.find_group.Goals as goal

pub loop-after-init : goal.loop-after-init
loop-after-init c =
    begun c.args.scanned.now c.args.line c.comments_before.result c.group_start-after.result
    c.comments_before.ensures.within c.comments_before.ensures.before c.group_start-after.ensures

pub returns-then-not-ends_before-clause-none : goal.returns-then-not-ends_before-clause-none
returns-then-not-ends_before-clause-none c =
    none_left c.args.scanned.now c.args.line c.loop-after.after c.requires c.loop-after.invariant
    c.loop-after-test.true
    (sym c.if-not-ends_before.ensures.value)

pub returns-then-not-begins_beside_token-clause-found :
    goal.returns-then-not-begins_beside_token-clause-found
returns-then-not-begins_beside_token-clause-found c =
    is_doc c.args.scanned.now c.args.line c.loop-after.after c.group_start-first.result
    c.loop-after.invariant c.loop-after-test.true
    c.group_start-first.ensures (sym c.if-not-ends_before.ensures.value)
    (sym c.if-not-begins_beside_token.ensures)

pub loop-after-preserved : goal.loop-after-preserved
loop-after-preserved c =
    passed c.args.scanned.now c.args.line c.loop-after.after c.group_start-first.result
    c.loop-after.invariant c.loop-after-test.true
    c.group_start-first.ensures (sym c.if-not-begins_beside_token.ensures)
