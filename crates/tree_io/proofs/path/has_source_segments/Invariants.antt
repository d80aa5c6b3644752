use Rattle.std.proofs.Common.{◌↔◌, length}
use denote.Text.{Utf8}
use denote.Shadow.{shadow}
use Rattle.tree_io.specs.Path.{segments_of}
use Rattle.tree_io.proofs.Segments.{AreSource}
use Rattle.tree_io.proofs.path.has_source_segments.Given as goal

abbrev pub invariant-loop-folder : goal.invariant-loop-folder
invariant-loop-folder l = shadow (Utf8 l.rest)
    × (AreSource (segments_of l.path) ↔ AreSource (segments_of l.rest))

abbrev pub decreases-loop-folder : goal.decreases-loop-folder
decreases-loop-folder l = length l.rest
