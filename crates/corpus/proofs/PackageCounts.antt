-- No more packages than files, and their paths rise.
use Rattle.std.proofs.Common.{◌≡◌, ℕ, ◌≤◌, Bool, true, List, map, length, refl, sym, ap, subst, ◌∙◌}
use Rattle.std.proofs.Common.{arith}
use Rattle.std.specs.Cmp.Lexicographic.{nat_list_cmp_total, slice_cmp}
use Rattle.std.specs.Cmp.{eq_by_cmp_equiv}
use Rattle.std.specs.List.{list_any}
use Rattle.std.specs.Ordering.{eq_by_cmp, nat_cmp}
use Rattle.std.specs.Str.{bytes_eq}
use Rattle.std.proofs.lemmas.List.{length-map}
use Rattle.std.proofs.lemmas.List.Folds.{Any-from_list_any, list_any_at}
use Rattle.std.proofs.lemmas.Map.Keys.{IsDistinct-from_sorted}
use Rattle.std.proofs.lemmas.Map.Made.{length-le_from_is_member}
use Rattle.std.proofs.lemmas.Slice.Eq.{bytes_eq-Decides}
use Rattle.tree_io.specs.Path.{IsRising}
use Rattle.package_group.specs.declared.facts.FileFact.{FileFact}
use Rattle.package_group.specs.declared.facts.Grouped.{Grouped}
use Rattle.package_group.specs.declared.facts.Package.{Package}
use Rattle.package_group.specs.Groups.{IsGrouping, folder_of, import_path, package_in}
use Rattle.corpus_piece.specs.Pieces.{JudgedFile}
use Rattle.corpus.specs.Corpora.{AcceptedFile, ArePackagesOf, accepted, accepted_as, fact_of, facts}
use Rattle.corpus.specs.Corpora.{renumbered}
use Rattle.corpus.proofs.Lists.{length-filter_map, list_any-map, map-map}

abbrev is_text : List ℕ → List ℕ → Bool
is_text q path = eq_by_cmp (slice_cmp nat_cmp) q path

bytes_eq-self : (xs : List ℕ) → bytes_eq xs xs ≡ true
bytes_eq-self xs = (bytes_eq-Decides xs xs).1 refl

module _ (prefix : List ℕ) (files : List FileFact) (grouped : Grouped)
    (is : IsGrouping prefix files grouped) where
  abbrev path_of : FileFact → List ℕ
  path_of file = import_path prefix (folder_of file.path)

  -- the path of a package is that of a file
  is_path : (q : List ℕ) → list_any (λ (p : Package). is_text q p.path) grouped.packages ≡ true
      → list_any (λ file. is_text q (path_of file)) files ≡ true
  is_path q found =
      let some = Any-from_list_any (λ (p : Package). is_text q p.path) grouped.packages found in
      let p = some.1 in
      let here : p ≡ package_in prefix files p.dir =
      subst (λ (r : Package). r ≡ package_in prefix files r.dir) some.3
      (is.packages some.0 p some.2) in
      let path : p.path ≡ import_path prefix p.dir = ap (λ (r : Package). r.path) here in
      let dir : list_any (λ (r : Package). bytes_eq p.dir r.dir) grouped.packages ≡ true =
      list_any_at (λ (r : Package). bytes_eq p.dir r.dir) grouped.packages some.0 p some.2
      (ap (λ (r : Package). bytes_eq p.dir r.dir) some.3 ∙ bytes_eq-self p.dir) in
      let file = Any-from_list_any (λ (f : FileFact). bytes_eq p.dir (folder_of f.path)) files
      (sym (is.folders p.dir) ∙ dir) in
      let folder : p.dir ≡ folder_of file.1.path =
      (bytes_eq-Decides p.dir (folder_of file.1.path)).0 file.4 in
      list_any_at (λ f. is_text q (path_of f)) files file.0 file.1 file.2
      (ap (λ (f : FileFact). is_text q (path_of f)) file.3
      ∙ ap (is_text q) (ap (import_path prefix) (sym folder) ∙ sym path) ∙ some.4)

  few_grouped : length grouped.packages ≤ length files
  few_grouped =
      let paths = map (λ (p : Package). p.path) grouped.packages in
      let among : (q : List ℕ) → list_any (is_text q) paths ≡ true
      → list_any (is_text q) (map path_of files) ≡ true =
      λ q found. list_any-map path_of (is_text q) files
      ∙ is_path q (sym (list_any-map (λ (p : Package). p.path) (is_text q) grouped.packages)
      ∙ found) in
      let le = length-le_from_is_member (eq_by_cmp_equiv nat_list_cmp_total) paths
      (map path_of files) (IsDistinct-from_sorted (slice_cmp nat_cmp) paths is.rising) among in
      omega (
        arith,
        le,
        length-map grouped.packages (λ (p : Package). p.path),
        length-map files
            path_of,
      )

module _ (prefix : List ℕ) (files : List JudgedFile) (packages : List Package)
    (are : ArePackagesOf prefix files packages) where
  pub few_packages : length packages ≤ length files
  few_packages =
      let numbers = map (λ (a : AcceptedFile). a.number) (accepted files) in
      omega (
        arith,
        few_grouped prefix (facts files) are.grouped are.grouping,
        ap length are.same,
        length-map are.grouped.packages (renumbered numbers),
        length-map (accepted files) fact_of,
        length-filter_map (λ (f : JudgedFile). accepted_as f f.outcome) files,
      )

  pub paths_rise : IsRising (map (λ p. p.path) packages)
  paths_rise =
      let numbers = map (λ (a : AcceptedFile). a.number) (accepted files) in
      subst IsRising (sym (ap (map (λ (p : Package). p.path)) are.same
      ∙ map-map (renumbered numbers) (λ (p : Package). p.path) are.grouped.packages))
      are.grouping.rising
