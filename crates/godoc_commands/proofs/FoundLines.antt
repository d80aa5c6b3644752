-- The lines of the hits of a name are those of the identifiers with that name.
use Rattle.std.proofs.Common.{◌≡◌, ℕ, List, [], ◌∷◌, ◌++◌, All, Option, map, length, refl, sym, ap}
use Rattle.std.proofs.Common.{◌∙◌, subst, arith}
use Rattle.std.specs.List.{flat_map}
use Rattle.std.specs.Option.{option_map_or}
use Rattle.std.proofs.lemmas.Grind.{flat_map-append}
use Rattle.std.proofs.lemmas.List.Concat.{flat_map-cons}
use Rattle.std.proofs.lemmas.List.Elements.{All-append, All-filter, All-head, All-map, All-nil}
use Rattle.std.proofs.lemmas.List.Elements.{All-tail, All-weaker}
use Rattle.std.proofs.lemmas.List.Folds.{flat_map-map}
use Rattle.std.proofs.lemmas.Option.{slice_get_within}
use Rattle.corpus_piece.specs.Pieces.{JudgedFile}
use Rattle.corpus.specs.Corpora.{AcceptedFile, Edition, IsCorpusOf, bytes_in, hits_in, kept}
use Rattle.go_ast.specs.declared.token.Token.{Token}
use Rattle.go_ast.specs.Tokens.{IsWithin}
use Rattle.go_scanner.proofs.ScanLaws.{within}
use Rattle.ident_index.proofs.IndexLaws.{hits_of_texts}
use Rattle.ident_index.specs.Hits.{IsReadFile, ReadFile, hit_of, hits_with_text, identifiers_named}
use Rattle.ident_index.specs.Hits.{source_and_hits_of}
use Rattle.ident_index.specs.Postings.{hits_named, named_of_all}
use Rattle.ident_index.specs.declared.hit.Hit.{Hit}
use Rattle.godoc_commands.specs.Find.{hit_lines, place_line}
use Rattle.godoc_commands.specs.HitLines.{IsHitIn, hit_line}
use Rattle.corpus.proofs.CorpusLaws.{IsAcceptedIn, kept_are_accepted, length-files}

-- an accepted file as one that was read
abbrev read_of : AcceptedFile → ReadFile
read_of a = record {
  source = a.bytes;
  tokens = a.parsed.scanned.tokens;
  file = a.parsed.file;
  number = a.number;
}

abbrev sources_of : List AcceptedFile → List (List ℕ × List Hit)
sources_of files = map (λ a. (a.bytes, a.parsed.hits)) files

module _ (all : List JudgedFile) (name : List ℕ) where
  -- the hits of the name in an accepted file
  abbrev hits_from : AcceptedFile → List Hit
  hits_from a = hits_with_text name (read_of a)

  abbrev lines_from : AcceptedFile → List ℕ
  lines_from a = hit_lines name a.path a.bytes a.parsed.scanned.tokens

  same_sources : (files : List AcceptedFile) → All (IsAcceptedIn all) files → sources_of files
      ≡ map source_and_hits_of (map read_of files)
  same_sources [] accepted = refl
  same_sources (a ∷ files) accepted =
      (λ j. (a.bytes, (All-head (IsAcceptedIn all) a files accepted).read.hits_are j)
      ∷ same_sources files (All-tail (IsAcceptedIn all) a files accepted) j)

  are_read : (files : List AcceptedFile) → All (IsAcceptedIn all) files → All IsReadFile
      (map read_of files)
  are_read files accepted =
      All-map IsReadFile read_of files
      (All-weaker (IsAcceptedIn all) (λ a. IsReadFile (read_of a))
      (λ a is. (a.parsed.scanned.comments, is.read.reads)) files accepted)

  -- the hits of the name in accepted files
  hits_are : (files : List AcceptedFile) → All (IsAcceptedIn all) files
      → hits_named name (named_of_all (sources_of files)) ≡ flat_map hits_from files
  hits_are files accepted =
      ap (λ sources. hits_named name (named_of_all sources)) (same_sources files accepted)
      ∙ hits_of_texts name (map read_of files) (are_read files accepted)
      ∙ flat_map-map (hits_with_text name) read_of files

  abbrev line_in : Option JudgedFile → ℕ → List ℕ
  line_in file offset = option_map_or (λ f. place_line f.path (bytes_in f.entry) offset) file []

  -- the lines of the hits of an accepted file
  lines_are : (a : AcceptedFile) → IsAcceptedIn all a → flat_map (hit_line all) (hits_from a)
      ≡ lines_from a
  lines_are a is =
      let tokens = identifiers_named name a.bytes a.parsed.scanned.tokens in
      flat_map-map (hit_line all) (hit_of a.bytes a.parsed.file a.number) tokens
      ∙ ap (λ file. flat_map (λ (t : Token). line_in file t.span.start) tokens) is.at
      ∙ (λ j. flat_map (λ (t : Token). place_line (is.path_is j) (is.bytes_are j) t.span.start)
      tokens)

  all_lines_are : (files : List AcceptedFile) → All (IsAcceptedIn all) files
      → flat_map (hit_line all) (flat_map hits_from files) ≡ flat_map lines_from files
  all_lines_are [] accepted = refl
  all_lines_are (a ∷ files) accepted =
      ap (flat_map (hit_line all)) (flat_map-cons hits_from a files)
      ∙ flat_map-append (hit_line all) (hits_from a) (flat_map hits_from files)
      ∙ (λ j. lines_are a (All-head (IsAcceptedIn all) a files accepted) j
      ++ all_lines_are files (All-tail (IsAcceptedIn all) a files accepted) j)
      ∙ sym (flat_map-cons lines_from a files)

module _ (edition : Edition) (few : length edition.tables.files ≡ length edition.sources.entries)
    (name : List ℕ) where
  abbrev all : List JudgedFile
  all = edition.tables.files

  -- the hits of an accepted file stand in it
  hits_stand : (a : AcceptedFile) → IsAcceptedIn all a
      → All (IsHitIn edition) (hits_from all name a)
  hits_stand a is =
      let tokens = a.parsed.scanned.tokens in
      let named = identifiers_named name a.bytes tokens in
      let inside : All (IsWithin (length a.bytes)) named = All-filter _ (IsWithin (length a.bytes))
      tokens
      (within a.bytes tokens a.parsed.scanned.comments is.read.reads) in
      All-map (IsHitIn edition) (hit_of a.bytes a.parsed.file a.number) named
      (All-weaker (IsWithin (length a.bytes))
      (λ t. IsHitIn edition (hit_of a.bytes a.parsed.file a.number t))
      (λ t w. record {
        in_range = rw (← few) (slice_get_within all a.number is.file is.at);
        file = is.file;
        parsed = a.parsed;
        at = is.at;
        accepted = is.outcome_is;
        lines = rw is.bytes_are is.read.lines_are;
        within = rw is.bytes_are (omega (arith, w.0, w.1));
      }) named inside)

  all_hits_stand : (files : List AcceptedFile) → All (IsAcceptedIn all) files
      → All (IsHitIn edition)
      (flat_map (hits_from all name) files)
  all_hits_stand [] accepted = All-nil (IsHitIn edition)
  all_hits_stand (a ∷ files) accepted =
      subst (All (IsHitIn edition)) (sym (flat_map-cons (hits_from all name) a files))
      (All-append (IsHitIn edition) (hits_from all name a) (flat_map (hits_from all name) files)
      (hits_stand a (All-head (IsAcceptedIn all) a files accepted))
      (all_hits_stand files (All-tail (IsAcceptedIn all) a files accepted)))

module _ (edition : Edition) (tables : IsCorpusOf edition.sources edition.tables)
    (name : List ℕ) where
  abbrev files : List JudgedFile
  files = edition.tables.files

  accepted : All (IsAcceptedIn files) (kept files)
  accepted = kept_are_accepted edition.sources files tables.files tables.judged

  -- the lines of the hits of the name are those of its identifiers
  pub found_lines : flat_map (hit_line files) (hits_named name (hits_in files))
      ≡ flat_map (λ a. hit_lines name a.path a.bytes a.parsed.scanned.tokens) (kept files)
  found_lines =
      ap (flat_map (hit_line files)) (hits_are files name (kept files) accepted)
      ∙ all_lines_are files name (kept files) accepted

  -- each of these hits stands in an accepted file
  pub found_stand : All (IsHitIn edition) (hits_named name (hits_in files))
  found_stand =
      subst (All (IsHitIn edition)) (sym (hits_are files name (kept files) accepted))
      (all_hits_stand edition (length-files edition.sources files tables.files) name (kept files)
      accepted)
