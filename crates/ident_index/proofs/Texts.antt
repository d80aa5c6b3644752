-- The hits of sources with readings have the texts of their identifiers for names, and rise.
use Rattle.std.proofs.Common.{◌≡◌, ℕ, suc, ◌<◌, Bool, true, false, cond, List, [], ◌∷◌, ◌++◌, map}
use Rattle.std.proofs.Common.{filter, All, refl, sym, ap, subst, ◌∙◌, arith, inl, inr}
use Rattle.std.specs.Prelude.{AllPairs}
use Rattle.std.specs.List.{flat_map}
use Rattle.std.specs.Str.{IsCharBoundary, bytes_eq}
use Rattle.std.proofs.lemmas.List.Elements.{All-append, All-head, All-map, All-nil, All-tail}
use Rattle.std.proofs.lemmas.List.Kept.{AllPairs-filter}
use Rattle.go_ast.specs.declared.declaration.File.{File}
use Rattle.go_ast.specs.declared.token.Comment.{Comment}
use Rattle.go_ast.specs.declared.token.Token.{Token}
use Rattle.go_ast.specs.Reading.{Reads}
use Rattle.go_ast.specs.Tokens.{is_ident, text_of}
use Rattle.ident_index.specs.declared.hit.Hit.{Hit}
use Rattle.ident_index.specs.Hits.{IsHitBelow, IsReadFile, ReadFile, hit_of, hits_of}
use Rattle.ident_index.specs.Hits.{hits_with_text, identifiers, identifiers_named}
use Rattle.ident_index.specs.Hits.{source_and_hits_of}
use Rattle.ident_index.specs.Postings.{HasNames, NamedHit, hits_named, name_at, named_of}
use Rattle.ident_index.specs.Postings.{named_of_all}
use Rattle.ident_index.proofs.Gathering.{hits_named-append}
use Rattle.ident_index.proofs.Lists.{AllPairs-append, AllPairs-map, all_kept, filter_twice}
use Rattle.ident_index.proofs.Readings.{IsNamedAt, reading_named}
use Rattle.ident_index.proofs.Rising.{Before, reading_rises}

abbrev AreNamed : List ℕ → List Token → Type 0
AreNamed source tokens = All (IsNamedAt source) tokens

identifiers_have_names : (source : List ℕ) (tokens : List Token) (comments : List Comment)
    → Reads source tokens comments → AreNamed source (identifiers tokens)
identifiers_have_names source tokens comments read =
    all_kept (λ token. is_ident token.kind) (IsNamedAt source) tokens
    (reading_named source tokens comments read)

module _ (source : List ℕ) (file : File) (number : ℕ) where
  abbrev hit : Token → Hit
  hit = hit_of source file number

  names_are : (tokens : List Token) → AreNamed source tokens
      → map (λ (n : NamedHit). n.name) (named_of source (map hit tokens))
      ≡ map (text_of source) tokens
  names_are [] named = refl
  names_are (token ∷ tokens) named =
      ap (λ name. name ∷ map (λ (n : NamedHit). n.name) (named_of source (map hit tokens)))
      (All-head (IsNamedAt source) token tokens named).same
      ∙ ap (λ names. text_of source token ∷ names)
      (names_are tokens (All-tail (IsNamedAt source) token tokens named))

  one_found : (b c : Bool) → b ≡ c → (token : Token) (tokens : List Token) (n : NamedHit)
      (rest : List NamedHit) → n.hit ≡ hit token
      → map (λ (n : NamedHit). n.hit) rest ≡ map hit tokens
      → map (λ (n : NamedHit). n.hit) (cond b (n ∷ rest) rest)
      ≡ map hit (cond c (token ∷ tokens) tokens)
  one_found b true same token tokens n rest is later =
      ap (λ a. map (λ (n : NamedHit). n.hit) (cond a (n ∷ rest) rest)) same
      ∙ ap (λ h. h ∷ map (λ (n : NamedHit). n.hit) rest) is ∙ ap (λ l. hit token ∷ l) later
  one_found b false same token tokens n rest is later =
      ap (λ a. map (λ (n : NamedHit). n.hit) (cond a (n ∷ rest) rest)) same ∙ later

  found_by_text : (name : List ℕ) (tokens : List Token) → AreNamed source tokens
      → hits_named name (named_of source (map hit tokens))
      ≡ map hit (filter (λ token. bytes_eq name (text_of source token)) tokens)
  found_by_text name [] named = refl
  found_by_text name (token ∷ tokens) named =
      one_found (bytes_eq name (name_at source token.span.start))
      (bytes_eq name (text_of source token))
      (ap (bytes_eq name) (All-head (IsNamedAt source) token tokens named).same) token
      (filter (λ token. bytes_eq name (text_of source token)) tokens)
      (record { name = name_at source token.span.start; hit = hit token })
      (filter (λ (n : NamedHit). bytes_eq name n.name) (named_of source (map hit tokens))) refl
      (found_by_text name tokens (All-tail (IsNamedAt source) token tokens named))

  module _ (tokens : List Token) (comments : List Comment) (read : Reads source tokens comments)
    where
      pub hits_begin : HasNames source (hits_of source tokens file number)
      hits_begin = record {
        utf8 = read.utf8;
        begin = All-map (λ (h : Hit). IsCharBoundary source h.offset) hit (identifiers tokens)
            (λ k d h. (identifiers_have_names source tokens comments read k d h).begin);
      }

      pub names_of_texts : map (λ (n : NamedHit). n.name)
          (named_of source (hits_of source tokens file number))
          ≡ map (text_of source) (identifiers tokens)
      names_of_texts = names_are (identifiers tokens)
          (identifiers_have_names source tokens comments read)

      pub hits_of_text : (name : List ℕ) → hits_named name
          (named_of source (hits_of source tokens file number))
          ≡ map hit (identifiers_named name source tokens)
      hits_of_text name =
          found_by_text name (identifiers tokens) (identifiers_have_names source tokens comments read)
          ∙ ap (map hit) (sym (filter_twice (λ token. is_ident token.kind)
          (λ token. bytes_eq name (text_of source token)) tokens))

      pub hits_rise : AllPairs (λ a b. a.offset < b.offset) (hits_of source tokens file number)
      hits_rise = AllPairs-map (λ (a b : Hit). a.offset < b.offset) hit (identifiers tokens)
          (reading_rises source tokens comments read)

      named_rise : (name : List ℕ) → AllPairs IsHitBelow
          (map hit (identifiers_named name source tokens))
      named_rise name =
          AllPairs-map IsHitBelow hit (identifiers_named name source tokens)
          (λ i j d l m. inr (
            refl,
            subst (AllPairs Before) (sym (filter_twice (λ token. is_ident token.kind)
                (λ token. bytes_eq name (text_of source token)) tokens))
                (AllPairs-filter Before (λ token. bytes_eq name (text_of source token))
                (identifiers tokens) (reading_rises source tokens comments read)) i j d l m,
          ))

-- each hit of a file has its number
numbered : (name : List ℕ) (read : ReadFile) → All (λ h. h.file ≡ read.number)
    (hits_with_text name read)
numbered name read =
    All-map (λ (h : Hit). h.file ≡ read.number) (hit_of read.source read.file read.number)
    (identifiers_named name read.source read.tokens) (λ k d h. refl)

module _ (name : List ℕ) where
  pub hits_of_texts : (files : List ReadFile) → All IsReadFile files
      → hits_named name (named_of_all (map source_and_hits_of files))
      ≡ flat_map (hits_with_text name) files
  hits_of_texts [] read = refl
  hits_of_texts (f ∷ fs) read =
      let first = All-head IsReadFile f fs read in
      hits_named-append name (named_of f.source (hits_of f.source f.tokens f.file f.number))
      (named_of_all (map source_and_hits_of fs))
      ∙ ap (λ hs. hs ++ hits_named name (named_of_all (map source_and_hits_of fs)))
      (hits_of_text f.source f.file f.number f.tokens first.0 first.1 name)
      ∙ ap (λ hs. hits_with_text name f ++ hs) (hits_of_texts fs (All-tail IsReadFile f fs read))

  later_files : (number : ℕ) (files : List ReadFile) → All (λ f. number < f.number) files
      → All (λ h. number < h.file) (flat_map (hits_with_text name) files)
  later_files number [] h = All-nil (λ (h : Hit). number < h.file)
  later_files number (f ∷ fs) h =
      let first = All-head (λ (f : ReadFile). number < f.number) f fs h in
      All-append (λ (h : Hit). number < h.file) (hits_with_text name f)
      (flat_map (hits_with_text name) fs)
      (λ k d l. omega (arith, first, numbered name f k d l))
      (later_files number fs (All-tail (λ (f : ReadFile). number < f.number) f fs h))

  pub texts_rise : (files : List ReadFile) → All IsReadFile files
      → AllPairs (λ a b. a.number < b.number) files
      → AllPairs IsHitBelow (flat_map (hits_with_text name) files)
  texts_rise [] read rising = λ i j d l m. absurd (omega arith)
  texts_rise (f ∷ fs) read rising =
      let first = All-head IsReadFile f fs read in
      let beyond = later_files f.number fs (λ k d h. rising 0 (suc k) d (omega arith) (omega arith))
      in
      AllPairs-append IsHitBelow (hits_with_text name f) (flat_map (hits_with_text name) fs)
      (named_rise f.source f.file f.number f.tokens first.0 first.1 name)
      (texts_rise fs (All-tail IsReadFile f fs read)
      (λ i j d l m. rising (suc i) (suc j) d (omega arith) (omega arith)))
      (λ k d h m e l. inl (omega (arith, numbered name f k d h, beyond m e l)))
