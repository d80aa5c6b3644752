-- The lines of hits, written some at a time.
use Rattle.std.proofs.Common.{◌≡◌, ℕ, List, [], ◌++◌, length, refl, sym, ap, ◌∙◌, append_assoc}
use Rattle.std.proofs.Common.{append-nil, subst}
use Rattle.std.specs.Prelude.{Err, None, Ok, OnErr, Option, Result, Some}
use Rattle.std.specs.List.{flat_map}
use Rattle.std.proofs.lemmas.Grind.{flat_map-append}
use Rattle.std.proofs.lemmas.List.{nil_from_length}
use Rattle.corpus.specs.Corpora.{Edition, IsCorpusOf, hits_in}
use Rattle.corpus_piece.specs.Pieces.{JudgedFile}
use Rattle.ident_index.specs.Postings.{hits_named}
use Rattle.ident_index.specs.declared.hit.Hit.{Hit}
use Rattle.link_io.specs.Streams.{Adds}
use Rattle.godoc_commands.specs.Find.{IsFindText}
use Rattle.godoc_commands.specs.HitLines.{AddsFound, AddsFoundFront, AddsFront, hit_line}
use Rattle.godoc_commands.proofs.FoundLines.{found_lines}

Adds-append : (h h' h'' : Option (List ℕ)) (x y : List ℕ) → Adds h x h' → Adds h' y h''
    → Adds h (x ++ y) h''
Adds-append None h' h'' x y f g = rw f at g
Adds-append (Some held) h' h'' x y f g = (rw f at g) ∙ ap Some (append_assoc held x y)

Adds-nil : (h : Option (List ℕ)) → Adds h [] h
Adds-nil None = refl
Adds-nil (Some held) = ap Some (sym (append-nil held))

pub OnErr-always : {T E P : Type 0} (r : Result T E) → P → OnErr r P
OnErr-always (Ok x) h = tt
OnErr-always (Err e) h = h

-- nothing was added
pub nothing_added : (h : Option (List ℕ)) (text : List ℕ) → AddsFront h text h
nothing_added h text = record { front = []; rest = text; all = refl; added = Adds-nil h }

-- the lines of some first hits are added, and those of the rest aren't
pub record IsUnderWay (files : List JudgedFile) (hits rest : List Hit)
    (before now : Option (List ℕ)) : Type 0 where
  pub done : List ℕ
  pub all : done ++ flat_map (hit_line files) rest ≡ flat_map (hit_line files) hits
  pub added : Adds before done now

module _ (files : List JudgedFile) (hits : List Hit) (h h' h'' : Option (List ℕ)) where
  abbrev lines : List Hit → List ℕ
  lines = flat_map (hit_line files)

  pub not_begun : (rest : List Hit) → rest ≡ hits → IsUnderWay files hits rest h h
  not_begun rest whole = record { done = []; all = ap lines whole; added = Adds-nil h }

  parts : (rest part rest' : List Hit) (done : List ℕ) → rest ≡ part ++ rest' → done ++ lines rest
      ≡ lines hits
      → (done ++ lines part) ++ lines rest' ≡ lines hits
  parts rest part rest' done cut all =
      append_assoc done (lines part) (lines rest')
      ∙ ap (λ t. done ++ t) (sym (ap lines cut ∙ flat_map-append (hit_line files) part rest')) ∙ all

  pub part_written : (rest part rest' : List Hit) → rest ≡ part ++ rest'
      → IsUnderWay files hits rest h h' → Adds h' (lines part) h''
      → IsUnderWay files hits rest' h h''
  part_written rest part rest' cut so_far adds = record {
    done = so_far.done ++ lines part;
    all = parts rest part rest' so_far.done cut so_far.all;
    added = Adds-append h h' h'' so_far.done (lines part) so_far.added adds;
  }

  pub all_written : (rest : List Hit) → length rest ≡ 0 → IsUnderWay files hits rest h h'
      → Adds h (lines hits) h'
  all_written rest none so_far =
      subst (λ t. Adds h t h')
      (sym (append-nil so_far.done) ∙ ap (λ r. so_far.done ++ lines r)
      (sym (nil_from_length rest none)) ∙ so_far.all)
      so_far.added

  pub front_written : (rest part rest' : List Hit) → rest ≡ part ++ rest'
      → IsUnderWay files hits rest h h' → AddsFront h' (lines part) h''
      → AddsFront h (lines hits) h''
  front_written rest part rest' cut so_far f = record {
    front = so_far.done ++ f.front;
    rest = f.rest ++ lines rest';
    all =
        sym (parts rest part rest' so_far.done cut so_far.all)
        ∙ ap (λ t. (so_far.done ++ t) ++ lines rest') f.all
        ∙ ap (λ t. t ++ lines rest') (sym (append_assoc so_far.done f.front f.rest))
        ∙ append_assoc (so_far.done ++ f.front) f.rest (lines rest');
    added = Adds-append h h' h'' so_far.done f.front so_far.added f.added;
  }

-- the lines of the hits that a corpus has of a name are the text of `find`
pub is_found : (edition : Edition) (name : List ℕ) → IsCorpusOf edition.sources edition.tables
    → IsFindText name edition.sources (flat_map (hit_line edition.tables.files)
    (hits_named name (hits_in edition.tables.files)))
is_found edition name tables = (
  edition.tables.files,
  tables.files,
  tables.judged,
  found_lines
      edition tables name,
)

module _ (edition : Edition) (name : List ℕ) (tables : IsCorpusOf edition.sources edition.tables)
    (h h' : Option (List ℕ)) where
  abbrev text_of : List Hit → List ℕ
  text_of hits = flat_map (hit_line edition.tables.files) hits

  text_is : (hits : List Hit) → hits ≡ hits_named name (hits_in edition.tables.files)
      → IsFindText name edition.sources (text_of hits)
  text_is hits is = subst (λ hs. IsFindText name edition.sources (text_of hs)) (sym is)
      (is_found edition name tables)

  pub AddsFound-hits : (hits : List Hit) → hits ≡ hits_named name (hits_in edition.tables.files)
      → Adds h (text_of hits) h' → AddsFound name edition.sources h h'
  AddsFound-hits hits is adds = record {
    text = text_of hits;
    found = text_is hits is;
    added = adds;
  }

  pub AddsFoundFront-hits : (hits : List Hit) → hits
      ≡ hits_named name (hits_in edition.tables.files) → AddsFront h (text_of hits) h'
      → AddsFoundFront name edition.sources h h'
  AddsFoundFront-hits hits is adds = record {
    text = text_of hits;
    found = text_is hits is;
    part =
        adds;
  }

-- where nothing was added
pub AddsFoundFront-nothing : (edition : Edition) (name : List ℕ)
    → IsCorpusOf edition.sources edition.tables → (h : Option (List ℕ))
    → AddsFoundFront name edition.sources h h
AddsFoundFront-nothing edition name tables h =
    let hits = hits_named name (hits_in edition.tables.files) in
    AddsFoundFront-hits edition name tables h h hits refl
    (nothing_added h (flat_map (hit_line edition.tables.files) hits))
