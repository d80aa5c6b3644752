use Rattle.std.proofs.Common.{◌≡◌, ℕ, List, ap, sym, ◌∙◌}
use Rattle.std.specs.List.{flat_map}
use Rattle.corpus.proofs.OneCorpus.{same_files}
use Rattle.corpus.specs.Corpora.{AcceptedFile, kept}
use Rattle.corpus_piece.specs.Pieces.{JudgedFile}
use Rattle.godoc_commands.specs.Find.{hit_lines}
use Rattle.godoc_commands.proofs.laws.find_has_one_text.Goals as goal

pub returns : goal.returns
returns c name sources text other one two =
    let lines : AcceptedFile → List ℕ = λ a. hit_lines name a.path a.bytes a.parsed.scanned.tokens
    in
    let files = same_files c.one_outcome.ensures.one one.0 two.0 (one.1 ∙ sym two.1) one.2
    two.2 in
    one.3 ∙ ap (λ (fs : List JudgedFile). flat_map lines (kept fs)) files ∙ sym two.3
