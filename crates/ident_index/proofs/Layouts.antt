-- How a table is laid out from gathered hits.
use Rattle.std.proofs.Common.{◌≡◌, ◌<◌, ◌||◌, ℕ, Bor, List, [], ◌∷◌, length, map, get_or, AllPairs}
use Rattle.std.proofs.Common.{Contains, refl, sym, ap, ◌∙◌, subst, arith, true}
use Rattle.std.specs.BTreeMap.{BTreeMap, IsOrdered, is_at}
use Rattle.std.specs.Cmp.{IsTotalOrder}
use Rattle.std.specs.Global.{Vec}
use Rattle.std.specs.List.{list_any}
use Rattle.std.specs.Map.{keys_of}
use Rattle.std.specs.Option.{option_map_or}
use Rattle.std.specs.Ordering.{nat_cmp}
use Rattle.std.specs.declared.cmp.Ordering.{Ordering}
use Rattle.std.specs.declared.cmp.Ordering.TheVariants.{Less}
use Rattle.std.specs.Cmp.Lexicographic.{slice_cmp}
use Rattle.std.specs.Str.{bytes_eq}
use Rattle.std.proofs.lemmas.Cmp.{nat_list_cmp_total}
use Rattle.std.proofs.lemmas.List.{get_or-map, length-map}
use Rattle.std.proofs.lemmas.List.Elements.{All-map}
use Rattle.std.proofs.lemmas.List.Folds.{list_any_at}
use Rattle.std.proofs.lemmas.Map.Keys.{Less-from_sorted}
use Rattle.std.proofs.lemmas.Map.Made.{is_some-lookup}
use Rattle.std.proofs.lemmas.Map.Text.{is_eq-slice_cmp}
use Rattle.std.proofs.lemmas.Map.Views.{All-found, Contains-from_any}
use Rattle.std.proofs.lemmas.Slice.Eq.{bytes_eq-Decides}
use Rattle.ident_index.specs.declared.hit.Hit.{Hit}
use Rattle.ident_index.specs.Postings.{IsNameBelow, IsTableOf, NamedHit, Posting, hits_named}
use Rattle.ident_index.specs.Tables.{HasGroups, posting_of}
use Rattle.ident_index.proofs.Finding.{Name}
use Rattle.ident_index.proofs.Lists.{AllPairs-map}

abbrev pub Group : Type 0
Group = Bor Name × Vec Hit

abbrev pub by_name : Bor Name → Bor Name → Ordering
by_name a b = slice_cmp nat_cmp a.now b.now

by_name_total : IsTotalOrder by_name
by_name_total = record {
  antisymm = λ x y. nat_list_cmp_total.antisymm x.now y.now;
  trans = λ x y z. nat_list_cmp_total.trans x.now y.now z.now;
  congr = λ x y z. nat_list_cmp_total.congr x.now y.now z.now;
}

any_contained : (q : Name) (names : List Name) → Contains names q → list_any (bytes_eq q) names
    ≡ true
any_contained q names h = list_any_at (bytes_eq q) names h.0 q h.1
    ((bytes_eq-Decides q (get_or names h.0 q)).1 (sym h.2))

-- the test of a name among the groups, and among the names of their postings
any_group : (q : Name) (groups : List Group)
    → list_any (is_at (λ (k : Bor Name). slice_cmp nat_cmp q k.now)) (keys_of groups)
    ≡ list_any (bytes_eq q) (map (λ (p : Posting). p.name) (map posting_of groups))
any_group q [] = refl
any_group q (g ∷ gs) =
    ap (λ b. b || list_any (is_at (λ (k : Bor Name). slice_cmp nat_cmp q k.now)) (keys_of gs))
    (is_eq-slice_cmp q g.0.now)
    ∙ ap (λ b. bytes_eq q g.0.now || b) (any_group q gs)

module _ (groups : BTreeMap (Bor Name) (Vec Hit)) (ordered : IsOrdered by_name groups) where
  pub postings_rise : AllPairs IsNameBelow (map posting_of groups.entries)
  postings_rise =
      AllPairs-map IsNameBelow posting_of groups.entries (λ i j d l m.
      let keys = keys_of groups.entries in
      let key : (k : ℕ) → k < length groups.entries → get_or keys k d.0
      ≡ (get_or groups.entries k d).0 =
      λ k h. get_or-map (λ (g : Group). g.0) groups.entries k d d.0 h in
      subst (λ (a : Bor Name). slice_cmp nat_cmp a.now (get_or groups.entries j d).0.now ≡ Less)
      (key i (omega (arith, l, m)))
      (subst (λ (b : Bor Name). slice_cmp nat_cmp (get_or keys i d.0).now b.now ≡ Less) (key j m)
      (Less-from_sorted by_name keys i j d.0 ordered l
      (omega (arith, m, length-map groups.entries (λ (g : Group). g.0))))))

  pub table_of : (named : List NamedHit) → HasGroups groups named
      → IsTableOf named (map posting_of groups.entries)
  table_of named gathered =
      let postings = map posting_of groups.entries in
      let names = map (λ (p : Posting). p.name) postings in
      let there = map (λ (n : NamedHit). n.name) named in
      let same : (q : Name) → list_any (bytes_eq q) names ≡ list_any (bytes_eq q) there =
      λ q. sym (any_group q groups.entries) ∙ sym (is_some-lookup
      (is_at (λ (k : Bor Name). slice_cmp nat_cmp q k.now)) groups.entries)
      ∙ gathered.names q in
      let contained : (q : Name) (ns : List Name) → list_any (bytes_eq q) ns ≡ true
      → Contains ns q =
      λ q ns. Contains-from_any {eq = bytes_eq} (λ x y e. (bytes_eq-Decides x y).0 e) q ns in
      record {
        rising = postings_rise;
        names = λ q. (
          λ h. contained q there (sym (same q) ∙ any_contained q names h),
          λ h. contained q names (same q ∙ any_contained q there h),
        );
        hits = All-map (λ (p : Posting). p.hits ≡ hits_named p.name named) posting_of groups.entries
            (λ k d h.
            let g = get_or groups.entries k d in
            let found = All-found by_name_total groups ordered k d h in
            sym (ap (λ o. option_map_or (λ (hits : Vec Hit). hits.items) o []) found)
            ∙ gathered.hits g.0.now);
      }
