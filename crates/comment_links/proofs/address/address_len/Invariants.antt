use Rattle.std.proofs.Common.{◌≡◌, ◌==◌, ◌+◌, ◌≤◌, length}
use Rattle.std.specs.Prelude.{if◌then◌else◌}
use Rattle.comment_links.specs.InlinesOf.{address_len}
use Rattle.comment_links.proofs.address.address_len.Given as goal

-- the bytes up to the last that isn't final so far, or in the rest
abbrev pub invariant-loop-rest : goal.invariant-loop-rest
invariant-loop-rest l = record {
  left : l.seen + length l.rest ≡ length l.text;
  within : l.len ≤ l.seen;
  reached : (if address_len l.rest == 0 then l.len else l.seen + address_len l.rest)
      ≡ address_len l.text;
}

abbrev pub decreases-loop-rest : goal.decreases-loop-rest
decreases-loop-rest l = length l.rest
