-- Under each name the table of a corpus has the identifiers with that text of the kept files.
use Rattle.std.proofs.Common.{◌≡◌, ℕ, ◌<◌, List, [], ◌∷◌, All, AllPairs, map, refl, sym, ap, subst}
use Rattle.std.proofs.Common.{◌∙◌, arith}
use Rattle.std.specs.List.{AllByRecursion, flat_map}
use Rattle.std.specs.List.Sorted.{IsStrictlySortedBy}
use Rattle.std.specs.Ordering.{nat_cmp}
use Rattle.std.specs.declared.cmp.Ordering.TheVariants.{Less}
use Rattle.std.proofs.lemmas.Bool.Decides.{nat_tests}
use Rattle.std.proofs.lemmas.List.Elements.{All-filter, All-from_recursion, All-head, All-map}
use Rattle.std.proofs.lemmas.List.Elements.{All-tail, All-weaker}
use Rattle.std.proofs.lemmas.List.Kept.{AllPairs-cons}
use Rattle.ident_index.specs.Hits.{IsHitBelow, IsReadFile, ReadFile, hits_with_text}
use Rattle.ident_index.specs.Hits.{source_and_hits_of}
use Rattle.ident_index.specs.Postings.{hits_at, hits_named, named_of_all}
use Rattle.ident_index.proofs.IndexLaws.{hits_of_table, hits_of_texts, texts_rise}
use Rattle.corpus.specs.declared.tables.Tables.{Tables}
use Rattle.corpus.specs.Corpora.{AcceptedFile, HasHitsByName, IsCorpusOf, accepted, hits_in}
use Rattle.corpus.specs.Corpora.{is_kept, kept, read_of}
use Rattle.corpus.specs.Snapshots.{SourceSet}
use Rattle.corpus.proofs.Beside.{still_rising}
use Rattle.corpus.proofs.Numbers.{numbers_rise}
use Rattle.corpus.proofs.ReadFiles.{IsRead, all_read}

-- ---- numbers

abbrev number : AcceptedFile → ℕ
number a = a.number

less : (a b : ℕ) → nat_cmp a b ≡ Less → a < b
less a b h = grind (arith, nat_tests)

all_above : (n : ℕ) (files : List AcceptedFile)
    → AllByRecursion (λ m. nat_cmp n m ≡ Less) (map number files)
    → AllByRecursion (λ (f : ReadFile). n < f.number) (map read_of files)
all_above n [] h = tt
all_above n (a ∷ files) h = (less n a.number h.0, all_above n files h.1)

reads_rise : (files : List AcceptedFile) → IsStrictlySortedBy nat_cmp (map number files)
    → AllPairs (λ (f g : ReadFile). f.number < g.number) (map read_of files)
unfolding IsStrictlySortedBy
reads_rise [] h = λ i j d l m. absurd (omega arith)
reads_rise (a ∷ files) h =
    AllPairs-cons (λ (f g : ReadFile). f.number < g.number) (read_of a) (map read_of files)
    (All-from_recursion (λ (f : ReadFile). a.number < f.number) (map read_of files)
    (all_above a.number files h.0))
    (reads_rise files h.1)

-- ---- readings

same_sources : (files : List AcceptedFile) → All IsRead files
    → map (λ (a : AcceptedFile). (a.bytes, a.parsed.hits)) files
    ≡ map source_and_hits_of (map read_of files)
same_sources [] read = refl
same_sources (a ∷ files) read =
    let first = (All-head IsRead a files read).hits_are in
    let rest = same_sources files (All-tail IsRead a files read) in
    λ j. (a.bytes, first j) ∷ rest j

module _ (s : SourceSet) (t : Tables) (name : List ℕ) (is : IsCorpusOf s t) where
  read : All IsRead (kept t.files)
  read = All-filter (is_kept t.files) IsRead (accepted t.files) (all_read t.files is.judged)

  are_read : All IsReadFile (map read_of (kept t.files))
  are_read =
      All-map IsReadFile read_of (kept t.files)
      (All-weaker IsRead (λ a. IsReadFile (read_of a))
      (λ a r. (a.parsed.scanned.comments, r.reads)) (kept t.files) read)

  texts : hits_at t.postings name ≡ flat_map (hits_with_text name) (map read_of (kept t.files))
  texts =
      hits_of_table (hits_in t.files) t.postings is.postings name
      ∙ ap (λ sources. hits_named name (named_of_all sources)) (same_sources (kept t.files) read)
      ∙ hits_of_texts name (map read_of (kept t.files)) are_read

  pub has_hits_by_name : HasHitsByName t name
  has_hits_by_name = record {
    texts = texts;
    rising = subst (AllPairs IsHitBelow) (sym texts) (texts_rise name (map read_of (kept t.files))
        are_read (reads_rise (kept t.files)
        (still_rising number (is_kept t.files) (accepted t.files)
        (numbers_rise s t.files is.files))));
  }
