-- Cited by private clauses and proofs. How a table of names is made: the hits are gathered by their
-- names in a map, and each name takes its hits from there. The project's own.
use Rattle.std.specs.Prelude.{◌≡◌, ℕ, ◌<◌, Bool, List, [], map, length, AllPairs, get_or, is_some}
use Rattle.std.specs.Option.{option_map_or}
use Rattle.std.specs.List.{list_any, sum_by}
use Rattle.std.specs.BTreeMap.{BTreeMap, get_by}
use Rattle.std.specs.Str.{bytes_eq}
use Rattle.std.specs.Ordering.{nat_cmp}
use Rattle.std.specs.Cmp.Lexicographic.{slice_cmp}
use Rattle.std.specs.Borrow.{Bor}
use Rattle.std.specs.Global.{Vec}
use Rattle.ident_index.specs.declared.hit.Hit.{Hit}
use Rattle.ident_index.specs.Postings.{IsNameBelow, NamedHit, Posting, hits_named}

-- the hits that are gathered under a name
abbrev pub hits_in : BTreeMap (Bor (List ℕ)) (Vec Hit) → List ℕ → List Hit
hits_in groups name =
    option_map_or (λ hits. hits.items) (get_by (λ k. slice_cmp nat_cmp name k.now) groups) []

-- whether hits are gathered under a name
abbrev pub has_group : BTreeMap (Bor (List ℕ)) (Vec Hit) → List ℕ → Bool
has_group groups name = is_some (get_by (λ k. slice_cmp nat_cmp name k.now) groups)

-- gathered are exactly these hits, under their names
pub record HasGroups (groups : BTreeMap (Bor (List ℕ)) (Vec Hit))
    (named : List NamedHit) : Type 0 where
  pub hits : (name : List ℕ) → hits_in groups name ≡ hits_named name named
  pub names : (name : List ℕ)
      → has_group groups name ≡ list_any (bytes_eq name) (map (λ n. n.name) named)

-- a name with the hits that are gathered under it
abbrev pub posting_of : Bor (List ℕ) × Vec Hit → Posting
posting_of group = record { name = group.0.now; hits = group.1.items }

-- what holds of the fields of a table
pub record IsLaidOut (postings : List Posting) (total : ℕ) : Type 0 where
  pub rising : AllPairs IsNameBelow postings
  pub whole : total ≡ sum_by (λ p. length p.hits) postings

-- the posting of this place has this name
abbrev pub IsNamedAt : List ℕ → List Posting → ℕ → Type 0
IsNamedAt name postings place =
    (place < length postings) × ((d : Posting) → (get_or postings place d).name ≡ name)
