-- Strings that are sorted and then kept once each.
use Rattle.std.proofs.Common.{◌≡◌, List, map, All, string_bytes}
use Rattle.std.specs.List.{dedup}
use Rattle.std.specs.List.Sorted.{IsPermutation, IsSorted}
use Rattle.std.specs.Cmp.Lexicographic.{texts_ties}
use Rattle.std.specs.String.{string_cmp, string_eq, string_cmp_total}
use Rattle.std.specs.declared.string.String.{String}
use Rattle.std.proofs.lemmas.List.Elements.{All-map}
use Rattle.std.proofs.lemmas.List.Filters.{All-dedup}
use Rattle.std.proofs.lemmas.List.Kept.{IsStrictlySortedBy-dedup}
use Rattle.std.proofs.lemmas.List.Sorted.{All-permutation}
use Rattle.tree_io.specs.Path.{Belongs, IsRising}
use Rattle.tree_io.proofs.FileMaps.{IsRising-strings}

module _ {A : Type 0} where
  -- what holds of each path found holds of each path kept
  pub Belongs-kept : (found sorted kept : List (String A)) → IsPermutation found sorted → kept
      ≡ dedup string_eq sorted → All (λ path. Belongs (string_bytes path)) found
      → All Belongs (map string_bytes kept)
  Belongs-kept found sorted kept moved same all =
      let belong : All (λ (path : String A). Belongs (string_bytes path)) sorted = All-permutation
      (λ (path : String A). Belongs (string_bytes path)) found sorted moved all in
      rw same (All-map Belongs string_bytes (dedup string_eq sorted)
      (All-dedup string_eq (λ (path : String A). Belongs (string_bytes path)) sorted belong))

  -- the paths kept rise strictly
  pub IsRising-kept : (sorted kept : List (String A)) → IsSorted string_cmp sorted → kept
      ≡ dedup string_eq sorted → IsRising (map string_bytes kept)
  IsRising-kept sorted kept in_order same =
      rw same (IsRising-strings (dedup string_eq sorted)
      (IsStrictlySortedBy-dedup string_cmp_total
      (λ x y. texts_ties (string_bytes x) (string_bytes y)) sorted in_order))
