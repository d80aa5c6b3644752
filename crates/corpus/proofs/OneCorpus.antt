-- A set of sources has at most one corpus.
use Rattle.std.proofs.Common.{◌≡◌, ℕ, List, [], ◌∷◌, All, map, refl, sym, ap, subst, ◌∙◌}
use Rattle.std.proofs.lemmas.List.Elements.{All-head, All-tail}
use Rattle.go_ast.specs.declared.config.Config.{Config}
use Rattle.tree_io.specs.declared.tree.Entry.{Entry}
use Rattle.ident_index.specs.Postings.{IsTableOf, NamedHit, Posting}
use Rattle.package_group.specs.declared.facts.FileFact.{FileFact}
use Rattle.package_group.specs.declared.facts.Grouped.{Grouped}
use Rattle.package_group.specs.declared.facts.Package.{Package}
use Rattle.package_group.specs.Groups.{IsGrouping}
use Rattle.corpus_piece.specs.declared.outcome.Outcome.{Outcome}
use Rattle.corpus_piece.specs.Outcomes.{IsOutcomeOf}
use Rattle.corpus_piece.specs.Pieces.{IsJudged, JudgedFile}
use Rattle.corpus.specs.declared.tables.Tables.{Tables}
use Rattle.corpus.specs.Corpora.{AcceptedFile, ArePackagesOf, Input, IsCorpusOf, accepted, facts}
use Rattle.corpus.specs.Corpora.{faults_of, hits_in, input_of, renumbered}
use Rattle.corpus.specs.Snapshots.{SourceSet}

module _ (one_outcome : (path : List ℕ) (entry : Entry) (config : Config) (number : ℕ)
    (x y : Outcome) → IsOutcomeOf path entry config number x
    → IsOutcomeOf path entry config number y → x ≡ y) where
  same_file : (f g : JudgedFile) → input_of f ≡ input_of g → IsJudged f → IsJudged g → f ≡ g
  same_file f g same one other =
      let outcome : f.outcome ≡ g.outcome = one_outcome f.path f.entry f.config f.number f.outcome
      g.outcome one
      (subst (λ (t : Input). IsOutcomeOf t.0 t.1 t.2 t.3 g.outcome) (sym same) other) in
      λ i. record {
        path = (same i).0;
        entry = (same i).1;
        config = (same i).2;
        number = (same i).3;
        outcome = outcome i;
      }

  pub same_files : (fs gs : List JudgedFile) → map input_of fs ≡ map input_of gs → All IsJudged fs
      → All IsJudged gs → fs ≡ gs
  same_files [] [] same one other = refl
  same_files [] (g ∷ gs) same one other = cc
  same_files (f ∷ fs) [] same one other = cc
  same_files (f ∷ fs) (g ∷ gs) same one other =
      let first : input_of f ≡ input_of g = cc same in
      let later : map input_of fs ≡ map input_of gs = cc same in
      let head = same_file f g first (All-head IsJudged f fs one) (All-head IsJudged g gs other) in
      let tail = same_files fs gs later (All-tail IsJudged f fs one) (All-tail IsJudged g gs other)
      in
      λ i. head i ∷ tail i

  module _ (one_grouping : (prefix : List ℕ) (files : List FileFact) (grouped other : Grouped)
      → IsGrouping prefix files grouped → IsGrouping prefix files other → grouped ≡ other)
      (one_table : (named : List NamedHit) (postings other : List Posting)
      → IsTableOf named postings → IsTableOf named other → postings ≡ other) where
    same_packages : (prefix : List ℕ) (files : List JudgedFile) (ps qs : List Package)
        → ArePackagesOf prefix files ps → ArePackagesOf prefix files qs → ps ≡ qs
    same_packages prefix files ps qs one other =
        one.same
        ∙ ap (λ (g : Grouped). map (renumbered (map (λ (a : AcceptedFile). a.number)
        (accepted files))) g.packages) (one_grouping prefix (facts files) one.grouped other.grouped
        one.grouping other.grouping)
        ∙ sym other.same

    pub same_corpus : (s : SourceSet) (t u : Tables) → IsCorpusOf s t → IsCorpusOf s u → t ≡ u
    same_corpus s t u one other =
        let files = same_files t.files u.files (one.files ∙ sym other.files) one.judged other.judged
        in
        let packages = same_packages s.config.prefix u.files t.packages u.packages
        (subst (λ fs. ArePackagesOf s.config.prefix fs t.packages) files one.packages)
        other.packages in
        let faults = one.faults ∙ ap faults_of files ∙ sym other.faults in
        let postings = one_table (hits_in u.files) t.postings u.postings
        (subst (λ fs. IsTableOf (hits_in fs) t.postings) files one.postings) other.postings in
        λ i. record {
          files = files i;
          packages = packages i;
          faults = faults i;
          postings = postings
              i;
        }
