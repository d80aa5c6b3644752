-- What holds of the accepted files of a snapshot, from which its tables are made.
use Rattle.std.proofs.Common.{◌≡◌, ℕ, ◌<◌, ◌≤◌, ◌^◌, Bool, true, false, not, List, [], All, map}
use Rattle.std.proofs.Common.{get_or, length, refl, sym, ap, subst, ◌∙◌, arith}
use Rattle.std.specs.Prelude.{filter, nat_eq, slice_index}
use Rattle.std.specs.List.{list_any}
use Rattle.std.specs.List.Sorted.{IsStrictlySortedBy}
use Rattle.std.specs.Ordering.{nat_cmp}
use Rattle.std.proofs.lemmas.List.{get_or-map, length-map}
use Rattle.std.proofs.lemmas.List.Elements.{All-weaker}
use Rattle.tree_io.specs.declared.tree.Entry.{Entry}
use Rattle.tree_io.specs.Path.{Belongs, paths_of}
use Rattle.ident_index.specs.Postings.{HasNames, IsTableOf, Posting, named_of_all}
use Rattle.ident_index.proofs.IndexLaws.{hits_begin}
use Rattle.package_group.specs.declared.facts.FileFact.{FileFact}
use Rattle.package_group.specs.declared.facts.Grouped.{Grouped}
use Rattle.package_group.specs.declared.facts.Package.{Package}
use Rattle.package_group.specs.Groups.{IsGrouping, is_own}
use Rattle.corpus_piece.specs.declared.outcome.Parsed.{Parsed}
use Rattle.corpus_piece.specs.declared.outcome.Outcome.TheVariants.{Accepted}
use Rattle.corpus_piece.specs.Pieces.{IsJudged, JudgedFile}
use Rattle.corpus.specs.declared.accepted.Accepted.{Accepted as File}
use Rattle.corpus.specs.declared.faults.FileFault.{FileFault}
use Rattle.corpus.specs.Corpora.{AcceptedFile, AreFilesOf, Input, IsCorpusOf, accepted, accepted_as}
use Rattle.corpus.specs.Corpora.{fact_of, facts, faults_of, is_kept, kept, renumbered}
use Rattle.corpus.specs.Snapshots.{IsSnapshot, SourceSet}
use Rattle.corpus.specs.Steps.{AreBeside, ArePlacesOf, HasName, HasPlacesOf, number_of, seen}
use Rattle.corpus.specs.Steps.{source_of}
use Rattle.corpus.proofs.Beside.{still_rising}
use Rattle.corpus.proofs.Inputs.{length-files, input_at}
use Rattle.corpus.proofs.Lists.{All-unmapped, filter_same, length-filter_map, map-map}
use Rattle.corpus.proofs.Numbers.{All-accepted, all_told, numbers_rise}
use Rattle.corpus.proofs.Places.{HasPlaces, numbers_at, others_within, packages_within}
use Rattle.corpus.proofs.ReadFiles.{IsRead, all_read, has_name}

not_not : (b : Bool) → not (not b) ≡ b
not_not true = refl
not_not false = refl

module _ (s : SourceSet) (pieces : List JudgedFile) (are : AreFilesOf s pieces) where
  length-accepted : length (accepted pieces) ≤ length s.entries
  length-accepted = omega (
    arith,
    length-filter_map (λ (f : JudgedFile). accepted_as f f.outcome)
        pieces,
    length-files s pieces are,
  )

  paths_belong : All Belongs (paths_of s.entries) → All (λ (f : JudgedFile). Belongs f.path) pieces
  paths_belong belong i d below =
      let e : List ℕ × Entry = (d.path, d.entry) in
      let within : i < length s.entries = omega (arith, length-files s pieces are) in
      let path : get_or (paths_of s.entries) i [] ≡ (get_or pieces i d).path =
      get_or-map (λ (e : List ℕ × Entry). e.0) s.entries i e [] within
      ∙ sym (ap (λ (t : Input). t.0) (input_at s pieces are i d e below)) in
      subst Belongs path (belong i [] (rw (length-map s.entries (λ (e : List ℕ × Entry). e.0))
      within))

  accepted_belong : IsSnapshot s → All (λ a. Belongs a.path) (accepted pieces)
  accepted_belong is =
      All-accepted (λ a. Belongs a.path) pieces
      (All-weaker (λ (f : JudgedFile). Belongs f.path)
      (λ f. (parsed : Parsed) → f.outcome ≡ Accepted parsed → Belongs f.path)
      (λ f here parsed outcome. here) pieces (paths_belong is.valid.belong))

  are_beside : (prefix : List ℕ) (grouped : Grouped) → IsGrouping prefix (facts pieces) grouped
      → AreBeside pieces (map (slice_index (map (λ a. a.number) (accepted pieces))) grouped.others)
  unfolding is_kept
  are_beside prefix grouped is =
      let number = λ (a : AcceptedFile). a.number in
      let test = λ (f : FileFact). not (is_own (facts pieces) f) in
      let same = ap (map (slice_index (map number (accepted pieces)))) is.others
      ∙ numbers_at fact_of number test (accepted pieces) in
      record {
        same = same;
        rising = subst (IsStrictlySortedBy nat_cmp) (sym same)
            (still_rising number (λ a. test (fact_of a)) (accepted pieces)
            (numbers_rise s pieces are));
      }

  -- the files that aren't among them belong to packages
  kept_same : (numbers : List ℕ) → AreBeside pieces numbers
      → filter (λ a. not (list_any (nat_eq a.number) numbers)) (accepted pieces) ≡ kept pieces
  kept_same numbers beside =
      filter_same (λ a. not (list_any (nat_eq a.number) numbers)) (is_kept pieces) (accepted pieces)
      (All-weaker (λ (a : AcceptedFile). list_any (nat_eq a.number) numbers
      ≡ not (is_kept pieces a)) (λ a. not (list_any (nat_eq a.number) numbers) ≡ is_kept pieces
      a)
      (λ a told. ap not told ∙ not_not (is_kept pieces a)) (accepted pieces)
      (all_told s pieces are numbers beside))

-- the accepted files as they are borrowed
module _ (s : SourceSet) (pieces : List JudgedFile) (are : AreFilesOf s pieces) (files : List File)
    (same : map seen files ≡ accepted pieces) where
  pub few : IsSnapshot s → length files < 2 ^ 32
  few is = omega (
    arith,
    length-map files seen,
    ap length same,
    length-accepted s pieces are,
    is.limits.files,
  )

  pub belong : IsSnapshot s → All (λ file. Belongs file.path.now) files
  belong is =
      All-unmapped (λ (a : AcceptedFile). Belongs a.path) seen files
      (subst (All (λ (a : AcceptedFile). Belongs a.path)) (sym same)
      (accepted_belong s pieces are is))

module _ (pieces : List JudgedFile) (files : List File) (same : map seen files ≡ accepted pieces)
  where
    borrowed_facts : map (λ file. fact_of (seen file)) files ≡ facts pieces
    borrowed_facts = sym (map-map seen fact_of files) ∙ ap (map fact_of) same

    borrowed_numbers : map number_of files ≡ map (λ a. a.number) (accepted pieces)
    borrowed_numbers = sym (map-map seen (λ (a : AcceptedFile). a.number) files)
        ∙ ap (map (λ (a : AcceptedFile). a.number)) same

    length-borrowed : length files ≡ length (facts pieces)
    length-borrowed = sym (length-map files (λ file. fact_of (seen file))) ∙ ap length borrowed_facts

    pub have_names : All IsJudged pieces → All (λ file. HasName (seen file)) files
    have_names judged =
        All-unmapped HasName seen files (subst (All HasName) (sym same)
        (All-weaker IsRead HasName has_name (accepted pieces) (all_read pieces judged)))

    pub have_hits : All IsJudged pieces → All (λ file. HasNames file.bytes.now file.parsed.now.hits)
        files
    have_hits judged =
        let P : AcceptedFile → Type 0 = λ a. HasNames a.bytes a.parsed.hits in
        All-unmapped P seen files (subst (All P) (sym same) (All-weaker IsRead P
        (λ a is. subst (HasNames a.bytes) (sym is.hits_are)
        (hits_begin a.bytes a.parsed.file a.number a.parsed.scanned.tokens
        a.parsed.scanned.comments is.reads)) (accepted pieces) (all_read pieces judged)))

    pub have_places : (prefix : List ℕ) (grouped : Grouped)
        → IsGrouping prefix (map (λ file. fact_of (seen file)) files) grouped
        → All (HasPlacesOf files) grouped.packages
    have_places prefix grouped is =
        All-weaker (HasPlaces (facts pieces)) (HasPlacesOf files)
        (λ p has. record {
          files_are = subst (λ n. All (λ place. place < n) p.files) (sym length-borrowed)
              has.files_are;
          tests_are = subst (λ n. All (λ place. place < n) p.tests) (sym length-borrowed)
              has.tests_are;
        }) grouped.packages (packages_within prefix (facts pieces) grouped
        (subst (λ fs. IsGrouping prefix fs grouped) borrowed_facts is))

    pub others_places : (prefix : List ℕ) (grouped : Grouped)
        → IsGrouping prefix (map (λ file. fact_of (seen file)) files) grouped
        → ArePlacesOf files grouped.others
    others_places prefix grouped is = subst (λ n. All (λ place. place < n) grouped.others)
        (sym length-borrowed)
        (others_within prefix (facts pieces) grouped
        (subst (λ fs. IsGrouping prefix fs grouped) borrowed_facts is))

-- the numbers of the files next to packages
pub borrowed_beside : (s : SourceSet) (pieces : List JudgedFile) (files : List File)
    (prefix : List ℕ) (grouped : Grouped) → AreFilesOf s pieces → map seen files ≡ accepted pieces
    → IsGrouping prefix (map (λ file. fact_of (seen file)) files) grouped
    → AreBeside pieces (map (slice_index (map number_of files)) grouped.others)
borrowed_beside s pieces files prefix grouped are same is =
    subst (λ ns. AreBeside pieces (map (slice_index ns) grouped.others))
    (sym (borrowed_numbers pieces files same))
    (are_beside s pieces are prefix grouped (subst (λ fs. IsGrouping prefix fs grouped)
    (borrowed_facts pieces files same) is))

-- the tables that were made are those of the corpus
pub is_corpus : (s : SourceSet) (pieces : List JudgedFile) (files : List File) (grouped : Grouped)
    (numbers : List ℕ)
    (packages : List Package) (faults : List FileFault) (postings : List Posting)
    → AreFilesOf s pieces → All IsJudged pieces → map seen files ≡ accepted pieces
    → IsGrouping s.config.prefix (map (λ file. fact_of (seen file)) files) grouped
    → AreBeside pieces numbers → packages ≡ map (renumbered (map number_of files)) grouped.packages
    → faults ≡ faults_of pieces → IsTableOf (named_of_all (map source_of
    (filter (λ a. not (list_any (nat_eq a.number) numbers)) (map seen files)))) postings
    → IsCorpusOf s (record {
      files = pieces;
      packages = packages;
      faults = faults;
      postings =
          postings;
    })
is_corpus s pieces files grouped numbers packages faults postings are judged same grouping beside
    packages_are faults_are table = record {
      files = are;
      judged = judged;
      packages = record {
        grouped = grouped;
        grouping = subst
            (λ fs. IsGrouping s.config.prefix fs grouped) (borrowed_facts pieces files same) grouping;
        same = packages_are ∙ ap (λ ns. map (renumbered ns) grouped.packages)
            (borrowed_numbers pieces files same);
      };
      faults = faults_are;
      postings = subst (λ (l : List AcceptedFile). IsTableOf (named_of_all (map source_of l)) postings)
          (ap (filter (λ a. not (list_any (nat_eq a.number) numbers))) same
          ∙ kept_same s pieces are numbers beside) table;
    }
