-- Cited by public clauses. The identifiers of files by their names.
use Rattle.std.specs.Prelude.{◌≡◌, ◌↔◌, ℕ, List, [], drop, filter, map, All, AllPairs}
use Rattle.std.specs.Prelude.{Contains, IsUtf8}
use Rattle.std.specs.List.{find, flat_map}
use Rattle.std.specs.Option.{option_map_or}
use Rattle.std.specs.Ordering.{nat_cmp}
use Rattle.std.specs.Cmp.Lexicographic.{slice_cmp}
use Rattle.std.specs.declared.cmp.Ordering.TheVariants.{Less}
use Rattle.std.specs.Str.{bytes_eq, IsCharBoundary}
use Rattle.go_scanner.specs.FrontWords.{word_at}
use Rattle.ident_index.specs.declared.hit.Hit.{Hit}
use Rattle.ident_index.specs.declared.hit.HitFile.{HitFile}

-- the name that stands at an offset: the letters and digits from there on
abbrev pub name_at : List ℕ → ℕ → List ℕ
name_at source offset = word_at (drop offset source)

-- the name of each hit lies in the source: the source is UTF-8, and a character begins at the
-- offset of each hit
pub record HasNames (source : List ℕ) (hits : List Hit) : Type 0 where
  pub utf8 : IsUtf8 source
  pub begin : All (λ hit. IsCharBoundary source hit.offset) hits

-- a hit with its name
pub record NamedHit : Type 0 where
  pub name : List ℕ
  pub hit : Hit

-- the hits of a source, in their order, with their names
abbrev pub named_of : List ℕ → List Hit → List NamedHit
named_of source hits = map (λ hit. record { name = name_at source hit.offset; hit = hit }) hits

-- the hits of all these sources, each of which stands next to its hits, with their names
abbrev pub named_of_all : List (List ℕ × List Hit) → List NamedHit
named_of_all sources = flat_map (λ s. named_of s.0 s.1) sources

-- the source and the hits of a file
abbrev pub source_and_hits : HitFile → List ℕ × List Hit
source_and_hits file = (file.source.now, file.hits.now)

-- those of one name
abbrev pub hits_named : List ℕ → List NamedHit → List Hit
hits_named name named = map (λ n. n.hit) (filter (λ n. bytes_eq name n.name) named)

-- a name with its hits
pub record Posting : Type 0 where
  pub name : List ℕ
  pub hits : List Hit

-- the one name comes before the other
abbrev pub IsNameBelow : Posting → Posting → Type 0
IsNameBelow a b = slice_cmp nat_cmp a.name b.name ≡ Less

-- the table of these hits: exactly their names, sorted and each once, and for each name the hits of
-- that name in their order
pub record IsTableOf (named : List NamedHit) (postings : List Posting) : Type 0 where
  pub rising : AllPairs IsNameBelow postings
  pub names : (name : List ℕ)
      → Contains (map (λ p. p.name) postings) name ↔ Contains (map (λ n. n.name) named) name
  pub hits : All (λ p. p.hits ≡ hits_named p.name named) postings

-- the hits that a table has under a name, none where it doesn't have the name
abbrev pub hits_at : List Posting → List ℕ → List Hit
hits_at postings name = option_map_or (λ p. p.hits) (find (λ p. bytes_eq name p.name) postings) []
