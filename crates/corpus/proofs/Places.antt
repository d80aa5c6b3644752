-- The places of files that are grouped.
use Rattle.std.proofs.Common.{◌≡◌, ℕ, suc, ◌+◌, ◌<◌, Bool, true, false, cond, not, List, [], ◌∷◌}
use Rattle.std.proofs.Common.{All, map, get_or, length, refl, sym, ap, subst, ◌∙◌, arith, add-zero}
use Rattle.std.proofs.Common.{zero-add}
use Rattle.std.specs.Prelude.{◌&&◌, filter, slice_index}
use Rattle.std.specs.List.{enumerate_from}
use Rattle.std.specs.Str.{bytes_eq}
use Rattle.std.proofs.lemmas.List.Elements.{All-cons, All-filter, All-map, All-nil, All-weaker}
use Rattle.package_group.specs.declared.facts.FileFact.{FileFact}
use Rattle.package_group.specs.declared.facts.Grouped.{Grouped}
use Rattle.package_group.specs.declared.facts.Package.{Package}
use Rattle.package_group.specs.Groups.{IsGrouping, Member, files_of, folder_of, has_name, is_own}
use Rattle.package_group.specs.Groups.{members_in, name_of, package_in, places}

-- the places of elements are below their number
within_from : {X : Type 0} (n : ℕ) (xs : List X)
    → All (λ (e : ℕ × X). e.0 < n + length xs) (enumerate_from n xs)
within_from n [] = All-nil _
within_from {X} n (x ∷ xs) =
    All-cons (λ (e : ℕ × X). e.0 < n + length (x ∷ xs)) (n, x) (enumerate_from (n + 1) xs)
    (omega arith)
    (All-weaker (λ (e : ℕ × X). e.0 < n + 1 + length xs) (λ (e : ℕ × X). e.0 < n + length (x ∷ xs))
    (λ e below. omega (arith, below)) (enumerate_from (n + 1) xs) (within_from (n + 1) xs))

abbrev IsWithinFiles : List FileFact → Member → Type 0
IsWithinFiles files member = member.0 < length files

all_within : (files : List FileFact) → All (IsWithinFiles files) (enumerate_from 0 files)
all_within files =
    All-weaker (λ (m : Member). m.0 < 0 + length files) (IsWithinFiles files)
    (λ m below. omega (arith, below)) (enumerate_from 0 files) (within_from 0 files)

-- and so are those of the ones that pass a test
pub places_within : (files : List FileFact) (test : Member → Bool) (members : List Member)
    → All (IsWithinFiles files) members → All (λ n. n < length files) (places (filter test members))
places_within files test members all =
    All-map (λ n. n < length files) (λ (m : Member). m.0) (filter test members)
    (All-filter test (IsWithinFiles files) members all)

-- the places of the files of a package
pub record HasPlaces (files : List FileFact) (p : Package) : Type 0 where
  pub files_are : All (λ n. n < length files) p.files
  pub tests_are : All (λ n. n < length files) p.tests

in_package : (prefix : List ℕ) (files : List FileFact) (folder : List ℕ)
    → HasPlaces files (package_in prefix files folder)
in_package prefix files folder =
    let members = members_in files folder in
    let name = name_of (files_of members) in
    let all = All-filter (λ (m : Member). bytes_eq folder (folder_of m.1.path))
    (IsWithinFiles files) (enumerate_from 0 files) (all_within files) in
    record {
      files_are = places_within files (λ m. has_name name m.1 && not m.1.test) members all;
      tests_are = places_within files (λ m. has_name name m.1 && m.1.test) members all;
    }

pub packages_within : (prefix : List ℕ) (files : List FileFact) (grouped : Grouped)
    → IsGrouping prefix files grouped → All (HasPlaces files) grouped.packages
packages_within prefix files grouped is =
    All-weaker (λ p. p ≡ package_in prefix files p.dir) (HasPlaces files)
    (λ p same. subst (HasPlaces files) (sym same) (in_package prefix files p.dir))
    grouped.packages is.packages

pub others_within : (prefix : List ℕ) (files : List FileFact) (grouped : Grouped)
    → IsGrouping prefix files grouped → All (λ n. n < length files) grouped.others
others_within prefix files grouped is =
    subst (All (λ n. n < length files)) (sym is.others)
    (places_within files (λ m. not (is_own files m.1)) (enumerate_from 0 files)
    (all_within files))

-- what stands at the places of elements that pass a test
module _ {X : Type 0} (fact : X → FileFact) (key : X → ℕ) (test : FileFact → Bool) (look : ℕ → ℕ)
  where
    looked_up : (n : ℕ) (xs : List X) → ((j : ℕ) → j < length xs → look (n + j) ≡ get_or (map key xs)
        j 0)
        → map look (places (filter (λ m. test m.1) (enumerate_from n (map fact xs))))
        ≡ map key (filter (λ x. test (fact x)) xs)
    looked_up n [] at = refl
    looked_up n (x ∷ xs) at =
        let first : look n ≡ key x = ap look (sym (add-zero n)) ∙ at 0 (omega arith) in
        let step : (j : ℕ) → j < length xs → look (n + 1 + j) ≡ get_or (map key xs) j 0 =
        λ j below. ap look (omega arith) ∙ at (suc j) (omega arith) in
        let later = looked_up (n + 1) xs step in
        elim (test (fact x)) as (λ b. map look (places (cond b ((n, fact x) ∷ filter (λ m. test m.1)
        (enumerate_from (n + 1) (map fact xs)))
        (filter (λ m. test m.1) (enumerate_from (n + 1) (map fact xs)))))
        ≡ map key (cond b (x ∷ filter (λ x. test (fact x)) xs) (filter (λ x. test (fact x)) xs))) [
          | true ↦ (λ i. first i ∷ later i)
          | false ↦ later
        ]

-- the numbers of elements that pass a test, by their places
pub numbers_at : {X : Type 0} (fact : X → FileFact) (key : X → ℕ) (test : FileFact → Bool)
    (xs : List X)
    → map (slice_index (map key xs)) (places (filter (λ m. test m.1)
    (enumerate_from 0 (map fact xs)))) ≡ map key (filter (λ x. test (fact x)) xs)
numbers_at fact key test xs = looked_up fact key test (slice_index (map key xs)) 0 xs
    (λ j below. ap (slice_index (map key xs)) (zero-add j))
