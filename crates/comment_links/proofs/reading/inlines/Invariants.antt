use Rattle.std.proofs.Common.{◌≡◌, ◌-◌, ◌≤◌, length}
use Rattle.std.specs.Str.{IsCharBoundary}
use Rattle.comment_links.specs.InlinesOf.{inlines_of}
use Rattle.comment_links.specs.InlineSteps.{IsClosing, inlines_from, whole}
use Rattle.comment_links.proofs.reading.inlines.Given as goal

-- the parts so far and the inlines from the place on are all
abbrev pub invariant-loop-parts : goal.invariant-loop-parts
invariant-loop-parts g l = record {
  within : l.from ≤ length l.text;
  start : IsCharBoundary l.text l.from;
  closing : IsClosing l.text l.from l.closing;
  all : whole l.parts (inlines_from l.definitions (g.N.Names.address_of l.names) l.text l.from)
      ≡ inlines_of l.definitions (g.N.Names.address_of l.names) l.text;
}

abbrev pub decreases-loop-parts : goal.decreases-loop-parts
decreases-loop-parts g l = length l.text - l.from
