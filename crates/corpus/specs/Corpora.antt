-- Cited by public clauses. The corpus of a set of sources, which are the packages that its accepted
-- files make up, its faults, and the table of its identifiers. The project's own, over the
-- definitions of outcomes, of packages (The Go Programming Language Specification, "Packages") and
-- of hits.
use Rattle.std.specs.Prelude.{◌≡◌, ℕ, Bool, List, [], Option, Some, None, All, AllPairs, map}
use Rattle.std.specs.Prelude.{filter}
use Rattle.std.specs.Prelude.{codes, nat_eq, slice_index, if◌then◌else◌}
use Rattle.std.specs.List.{ends_with, enumerate_from, filter_map, flat_map}
use Rattle.go_ast.specs.declared.config.Config.{Config}
use Rattle.go_ast.specs.declared.fault.Fault.TheVariants.{OtherPackage}
use Rattle.go_ast.specs.Marks.{text_of}
use Rattle.tree_io.specs.declared.tree.Entry.{Entry}
use Rattle.tree_io.specs.declared.tree.Entry.TheVariants.{Bytes}
use Rattle.ident_index.specs.Hits.{IsHitBelow, ReadFile, hits_with_text}
use Rattle.ident_index.specs.Postings.{IsTableOf, NamedHit, hits_at, named_of_all}
use Rattle.package_group.specs.declared.facts.FileFact.{FileFact}
use Rattle.package_group.specs.declared.facts.Grouped.{Grouped}
use Rattle.package_group.specs.declared.facts.Package.{Package}
use Rattle.package_group.specs.Groups.{IsGrouping, is_own}
use Rattle.corpus_piece.specs.declared.outcome.Outcome.{Outcome}
use Rattle.corpus_piece.specs.declared.outcome.Outcome.TheVariants.{Ignored, Faulty, Accepted}
use Rattle.corpus_piece.specs.declared.outcome.Parsed.{Parsed}
use Rattle.corpus_piece.specs.Pieces.{IsJudged, JudgedFile}
use Rattle.corpus.specs.declared.faults.FileFault.{FileFault}
use Rattle.corpus.specs.declared.tables.Tables.{Tables}
use Rattle.corpus.specs.Snapshots.{IsSnapshot, SourceSet}

-- what a piece is made of: a path, an entry, a configuration and a number
abbrev pub Input : Type 0
Input = List ℕ × Entry × Config × ℕ

abbrev pub input_of : JudgedFile → Input
input_of f = (f.path, f.entry, f.config, f.number)

-- what the pieces of a set of sources are made of: each file, with its place as its number
abbrev pub inputs_of : SourceSet → List Input
inputs_of s = map (λ e. (e.1.0, e.1.1, s.config, e.0)) (enumerate_from 0 s.entries)

-- the files are those of the sources
abbrev pub AreFilesOf : SourceSet → List JudgedFile → Type 0
AreFilesOf s files = map input_of files ≡ inputs_of s

-- the bytes that a scan has of a file
abbrev pub bytes_in : Entry → List ℕ
bytes_in (Bytes bytes) = bytes
bytes_in _ = []

-- an accepted file: its number, its path, its bytes, and what was read in them
pub record AcceptedFile : Type 0 where
  pub number : ℕ
  pub path : List ℕ
  pub bytes : List ℕ
  pub parsed : Parsed

abbrev pub accepted_file : JudgedFile → Parsed → AcceptedFile
accepted_file f parsed =
    record { number = f.number; path = f.path; bytes = bytes_in f.entry; parsed = parsed }

abbrev pub accepted_as : JudgedFile → Outcome → Option AcceptedFile
accepted_as f (Accepted parsed) = Some (accepted_file f parsed)
accepted_as f _ = None

-- the accepted files, in their order
abbrev pub accepted : List JudgedFile → List AcceptedFile
accepted files = filter_map (λ f. accepted_as f f.outcome) files

-- the name in the package clause of an accepted file
abbrev pub package_name : AcceptedFile → List ℕ
package_name a = text_of a.bytes a.parsed.file.package

-- what grouping has to know of an accepted file
abbrev pub fact_of : AcceptedFile → FileFact
fact_of a = record {
  path = a.path;
  name = package_name a;
  test = ends_with nat_eq a.path (codes "_test.go");
}

abbrev pub facts : List JudgedFile → List FileFact
facts files = map fact_of (accepted files)

-- whether an accepted file belongs to the package of its folder
unfoldable pub is_kept : List JudgedFile → AcceptedFile → Bool
is_kept files a = is_own (facts files) (fact_of a)

-- the accepted files that belong to the packages of their folders
abbrev pub kept : List JudgedFile → List AcceptedFile
kept files = filter (is_kept files) (accepted files)

-- a package whose files are named by their numbers, which are given for their places
abbrev pub renumbered : List ℕ → Package → Package
renumbered numbers p =
    record p {
      files = map (slice_index numbers) p.files;
      tests = map (slice_index numbers) p.tests;
    }

-- the packages that the accepted files make up, with the numbers of the files
pub record ArePackagesOf (prefix : List ℕ) (files : List JudgedFile) (packages : List Package)
    : Type 0 where
  pub grouped : Grouped
  pub grouping : IsGrouping prefix (facts files) grouped
  pub same : packages
      ≡ map (renumbered (map (λ a. a.number) (accepted files))) grouped.packages

abbrev pub other_package : Bool → AcceptedFile → Option FileFault
other_package own a =
    if own then None
    else Some (record { file = a.number; fault = OtherPackage (package_name a) })

-- the fault of a file: that of its outcome, or that it stands next to a package of another name
abbrev pub fault_as : List JudgedFile → JudgedFile → Outcome → Option FileFault
fault_as files f (Faulty fault) = Some (record { file = f.number; fault = fault })
fault_as files f (Accepted parsed) =
    let a = accepted_file f parsed in other_package (is_kept files a) a
fault_as files f (Ignored why) = None

-- the faults of the files, in their order
abbrev pub faults_of : List JudgedFile → List FileFault
faults_of files = filter_map (λ f. fault_as files f f.outcome) files

-- the hits of the files that belong to packages, in their order, with their names
abbrev pub hits_in : List JudgedFile → List NamedHit
hits_in files = named_of_all (map (λ a. (a.bytes, a.parsed.hits)) (kept files))

-- the tables are those of the set of sources
pub record IsCorpusOf (s : SourceSet) (t : Tables) : Type 0 where
  pub files : AreFilesOf s t.files
  pub judged : All IsJudged t.files
  pub packages : ArePackagesOf s.config.prefix t.files t.packages
  pub faults : t.faults ≡ faults_of t.files
  pub postings : IsTableOf (hits_in t.files) t.postings

-- a corpus: a set of sources and the tables over it
pub record Edition : Type 0 where
  pub sources : SourceSet
  pub tables : Tables

abbrev pub edition : SourceSet → Tables → Edition
edition sources tables = record { sources = sources; tables = tables }

-- the tables are those of the sources, which a scan may have
pub record IsEdition (e : Edition) : Type 0 where
  pub sources : IsSnapshot e.sources
  pub tables : IsCorpusOf e.sources e.tables

-- the reading of an accepted file
abbrev pub read_of : AcceptedFile → ReadFile
read_of a = record {
  source = a.bytes;
  tokens = a.parsed.scanned.tokens;
  file = a.parsed.file;
  number = a.number;
}

-- under a name the table has a hit for exactly the identifiers with that text of the files that
-- belong to packages, and the hits rise by file and offset
pub record HasHitsByName (t : Tables) (name : List ℕ) : Type 0 where
  pub texts : hits_at t.postings name ≡ flat_map (hits_with_text name) (map read_of (kept t.files))
  pub rising : AllPairs IsHitBelow (hits_at t.postings name)
