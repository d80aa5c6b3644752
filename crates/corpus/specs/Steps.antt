-- Cited by private clauses and proofs. Accepted files as the code borrows them, and the numbers of
-- those next to packages.
use Rattle.std.specs.Prelude.{◌≡◌, ℕ, ◌<◌, ◌≤◌, List, All, filter, length, map, not, IsUtf8}
use Rattle.package_group.specs.declared.facts.Package.{Package}
use Rattle.corpus.specs.declared.accepted.Accepted.{Accepted}
use Rattle.corpus.specs.declared.assembly.Made.{Made}
use Rattle.corpus.specs.declared.tables.Tables.{Tables}
use Rattle.std.specs.List.Sorted.{IsStrictlySortedBy}
use Rattle.std.specs.Ordering.{nat_cmp}
use Rattle.ident_index.specs.declared.hit.Hit.{Hit}
use Rattle.corpus_piece.specs.Pieces.{JudgedFile}
use Rattle.corpus.specs.Corpora.{AcceptedFile, accepted, is_kept, package_name}

-- an accepted file that is borrowed
abbrev pub seen : Accepted → AcceptedFile
seen a = record {
  number = a.number;
  path = a.path.now;
  bytes = a.bytes.now;
  parsed = a.parsed.now;
}

-- the name in its package clause lies in its bytes, and is UTF-8
pub record HasName (a : AcceptedFile) : Type 0 where
  pub ordered : a.parsed.file.package.start ≤ a.parsed.file.package.end
  pub inside : a.parsed.file.package.end ≤ length a.bytes
  pub utf8 : IsUtf8 (package_name a)

abbrev pub number_of : Accepted → ℕ
number_of a = a.number

-- places among files
abbrev pub ArePlacesOf : List Accepted → List ℕ → Type 0
ArePlacesOf files places = All (λ place. place < length files) places

-- the files of a package are named by places among files
pub record HasPlacesOf (files : List Accepted) (p : Package) : Type 0 where
  pub files_are : ArePlacesOf files p.files
  pub tests_are : ArePlacesOf files p.tests

-- numbers that rise strictly
abbrev pub AreRising : List ℕ → Type 0
AreRising numbers = IsStrictlySortedBy nat_cmp numbers

-- the numbers of the accepted files that stand next to packages of other names
pub record AreBeside (files : List JudgedFile) (numbers : List ℕ) : Type 0 where
  pub same : numbers ≡ map (λ a. a.number) (filter (λ a. not (is_kept files a)) (accepted files))
  pub rising : AreRising numbers

-- the bytes of an accepted file next to its hits
abbrev pub source_of : AcceptedFile → List ℕ × List Hit
source_of a = (a.bytes, a.parsed.hits)

-- files with their outcomes, and the tables that are made over them
abbrev pub tables_of : List JudgedFile → Made → Tables
tables_of files made = record {
  files = files;
  packages = made.packages;
  faults = made.faults;
  postings = made.postings;
}
