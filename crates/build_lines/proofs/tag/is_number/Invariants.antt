use Rattle.std.proofs.Common.{◌≡◌, ◌≤◌, drop}
use Rattle.build_lines.specs.Tags.{is_number}
use Rattle.build_lines.proofs.Versions.{rest_test}
use Rattle.build_lines.proofs.tag.is_number.Given as goal

-- the digits that are left decide, after those that were read
abbrev pub invariant-loop-digit : goal.invariant-loop-digit
invariant-loop-digit l = record {
  small : l.value ≤ l.most;
  same : rest_test l.most l.value (drop l.digit-index l.digits) ≡ is_number l.most l.digits;
}
