-- Bytes that are not a text name nothing.
use Rattle.std.proofs.Common.{◌≡◌, ◌∙◌, ℕ, List, [], ◌∷◌, true, false, refl}
use Rattle.std.proofs.Common.{sym, ap, subst}
use Rattle.std.specs.Prelude.{Some, None, IsUtf8, string_bytes, String, ℤ}
use Rattle.std.specs.Prelude.{cond}
use Rattle.std.specs.Str.{bytes_eq}
use Rattle.std.proofs.lemmas.Str.{IsUtf8-string_bytes}
use Rattle.std.specs.BTreeMap.{BTreeMap, get_by_text, is_at}
use Rattle.std.specs.Map.{lookup}
use Rattle.std.specs.Ordering.{nat_cmp}
use Rattle.std.specs.Cmp.Lexicographic.{slice_cmp}
use Rattle.std.specs.declared.alloc.Global.{Global}
use Rattle.std.proofs.lemmas.Map.Text.{is_eq-slice_cmp}
use Rattle.std.proofs.lemmas.Slice.Eq.{bytes_eq-Decides}

-- a map by texts has nothing at bytes that are no text
module _ (name : List ℕ) (no_text : IsUtf8 name → ⊥) where
  none_among : (entries : List (String Global × ℤ))
      → lookup (is_at (λ k. slice_cmp nat_cmp name (string_bytes k))) entries ≡ None
  none_among [] = refl
  none_among (entry ∷ entries) =
      (elim (bytes_eq name (string_bytes entry.0)) as (λ b. bytes_eq name (string_bytes entry.0) ≡ b
      → lookup (is_at (λ k. slice_cmp nat_cmp name (string_bytes k))) (entry ∷ entries) ≡ None) [
        | true ↦ λ e.
            absurd (no_text (subst IsUtf8 (sym ((bytes_eq-Decides name (string_bytes entry.0)).0 e))
            (IsUtf8-string_bytes entry.0)))
        | false ↦ λ e.
            ap (λ t. cond t (Some entry.1)
            (lookup (is_at (λ k. slice_cmp nat_cmp name (string_bytes k))) entries))
            (is_eq-slice_cmp name (string_bytes entry.0) ∙ e) ∙ none_among entries
      ]) refl

  pub none_named : (values : BTreeMap (String Global) ℤ) → get_by_text values name ≡ None
  none_named values = none_among values.entries
