use Rattle.std.proofs.Common.{◌≡◌, ◌++◌, length, map, string_bytes}
use denote.Text.{Utf8}
use denote.Shadow.{shadow}
use Rattle.comment_links.specs.Marks.{as_space}
use Rattle.comment_links.proofs.definitions.with_spaces.Given as goal

-- what is done and what is left are the whole
abbrev pub invariant-loop-end : goal.invariant-loop-end
invariant-loop-end l = shadow (Utf8 l.rest)
    × (string_bytes l.spaced ++ map as_space l.rest ≡ map as_space l.text)

abbrev pub decreases-loop-end : goal.decreases-loop-end
decreases-loop-end l = length l.rest
