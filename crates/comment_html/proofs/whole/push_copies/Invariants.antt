use Rattle.std.proofs.Common.{◌≡◌, ◌++◌, take}
use Rattle.comment_html.proofs.whole.push_copies.Given as goal

-- the definitions so far are added
abbrev pub invariant-loop-definition : goal.invariant-loop-definition
invariant-loop-definition l = l.all ≡ l.initial.all ++ take l.definition-index l.definitions
