use Rattle.std.proofs.Common.{◌∙◌, All, List, sym, subst}
use Rattle.std.proofs.lemmas.List.Elements.{All-map}
use Rattle.tree_io.specs.Path.{Belongs}
use Rattle.package_group.specs.declared.facts.FileFact.{FileFact}
use Rattle.corpus.specs.declared.accepted.Accepted.{Accepted}
use Rattle.corpus.specs.Corpora.{fact_of}
use Rattle.corpus.specs.Steps.{seen}
use Rattle.corpus.proofs.assembly.group_files.Goals as goal

pub group-requires-clause-belong : goal.group-requires-clause-belong
group-requires-clause-belong c =
    subst (λ (l : List FileFact). All (λ file. Belongs file.path) l)
    (sym (c.as_slice.ensures.value ∙ c.in_ok-facts.ensures))
    (All-map (λ (file : FileFact). Belongs file.path) (λ (file : Accepted). fact_of (seen file))
    c.args.files.now c.requires.belong)
