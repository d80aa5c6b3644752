-- What an accepted file is.
use Rattle.std.proofs.Common.{◌≡◌, sym, subst, ℕ, List, refl}
use Rattle.go_ast.specs.declared.config.Config.{Config}
use Rattle.tree_io.specs.declared.tree.Entry.{Entry}
use Rattle.corpus_piece.specs.declared.outcome.Outcome.TheVariants.{Accepted}
use Rattle.corpus_piece.specs.declared.outcome.Parsed.{Parsed}
use Rattle.corpus_piece.specs.Accepted.{IsAccepted}
use Rattle.corpus_piece.specs.Outcomes.{IsOutcomeOf, parsed_of, unread, large, oversized}
use Rattle.corpus_piece.specs.Outcomes.{unreadable, bad_build_line, ignored, misspelled, accepted}

-- an accepted file has bytes, a reading, and the file that it spells
pub accepted_read : (path : List ℕ) (entry : Entry) (config : Config) (number : ℕ)
    (parsed : Parsed) → IsOutcomeOf path entry config number (Accepted parsed)
    → IsAccepted entry number parsed
accepted_read path entry config number parsed (unread e p) = cc
accepted_read path entry config number parsed (large e p) = cc
accepted_read path entry config number parsed (oversized bytes e n p) = cc
accepted_read path entry config number parsed (unreadable bytes fault e n s p) = cc
accepted_read path entry config number parsed (bad_build_line bytes tokens comments line r p) = cc
accepted_read path entry config number parsed (ignored bytes tokens comments why r p) = cc
accepted_read path entry config number parsed (misspelled bytes tokens comments fault r s p) = cc
accepted_read path entry config number parsed (accepted bytes tokens comments file r s p) =
    let same : parsed ≡ parsed_of bytes tokens comments file number = cc in
    subst (λ q. IsAccepted entry number q) (sym same) (record {
      bytes = bytes;
      entry_is = r.entry_is;
      small = r.small;
      reads = r.reads;
      lines_are = refl;
      spells = s;
      hits_are = refl;
    })
