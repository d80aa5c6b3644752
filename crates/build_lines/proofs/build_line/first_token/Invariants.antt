use Rattle.std.proofs.Common.{◌≡◌, drop}
use Rattle.build_lines.specs.BuildLines.{first_token}
use Rattle.build_lines.proofs.build_line.first_token.Given as goal

-- the tokens so far are semicolons
abbrev pub invariant-loop-token : goal.invariant-loop-token
invariant-loop-token l = first_token (drop l.token-index l.tokens) ≡ first_token l.tokens
