use Rattle.std.proofs.Common.{sym, subst}
use Rattle.std.specs.Str.{IsCharBoundary}
use Rattle.comment_blocks.proofs.BlockLaws.{before_stop}
use Rattle.comment_links.specs.InlinesOf.{is_inside}
use Rattle.comment_links.proofs.Closings.{inside_stops}
use Rattle.comment_links.proofs.bracket.doc_link.Goals as goal

pub cut-requires : goal.cut-requires
cut-requires g c =
    subst (IsCharBoundary c.args.tail.now) (sym c.requires)
    (before_stop is_inside inside_stops c.args.tail.now)
