-- Paths in addresses.
use Rattle.std.proofs.Common.{◌≡◌, ℕ, ◌<◌, ◌≤◌, ◌||◌, Bool, true, false, not, cond, List, [], ◌∷◌}
use Rattle.std.proofs.Common.{◌++◌, refl, sym, ap, ◌∙◌, arith, inl, inr}
use Rattle.std.specs.Char.{is_ascii}
use Rattle.std.specs.List.{flat_map}
use Rattle.std.proofs.lemmas.Bool.{agree_below, agree_below_at, cases_lt}
use Rattle.std.proofs.lemmas.Bool.Decides.{nat_tests}
use Rattle.std.proofs.lemmas.List.Concat.{flat_map-cons}
use Rattle.percent_encoding.specs.AsciiSet.{contains, should_percent_encode}
use Rattle.percent_encoding.specs.Percent.{encode_byte, percent_encode, percent_encode_byte}
use Rattle.godoc_commands.specs.declared.pages.TheConstants.{ENCODED}
use Rattle.godoc_commands.specs.Pages.{address_byte, address_of, is_plain}

encoded : agree_below (contains ENCODED) (λ b. not (is_plain b)) 128 ≡ true
encoded = refl

plain_is_ascii : (b : ℕ) → 128 ≤ b → is_plain b ≡ false
plain_is_ascii b high = grind (arith, nat_tests)

below : (b : ℕ) → b < 128 → is_ascii b ≡ true
below b low = grind (arith, nat_tests)

above : (b : ℕ) → 128 ≤ b → is_ascii b ≡ false
above b high = grind (arith, nat_tests)

-- exactly the bytes that aren't plain are encoded
is_encoded : (b : ℕ) → should_percent_encode ENCODED b ≡ not (is_plain b)
unfolding should_percent_encode
is_encoded b = elim (cases_lt b 128) [
  | inl low ↦ ap (λ t. not t || contains ENCODED b) (below b low) ∙ agree_below_at
      (contains ENCODED) (λ n. not (is_plain n)) 128 b encoded low
  | inr high ↦ ap (λ t. not t || contains ENCODED b) (above b high)
      ∙ sym (ap not (plain_is_ascii b high))
]

swapped : (t : Bool) (x y : List ℕ) → cond (not t) x y ≡ cond t y x
swapped true x y = refl
swapped false x y = refl

same_byte : (b : ℕ) → encode_byte ENCODED b ≡ address_byte b
same_byte b = ap (λ t. cond t (percent_encode_byte b) (b ∷ [])) (is_encoded b)
    ∙ swapped (is_plain b) (percent_encode_byte b) (b ∷ [])

same_bytes : (path : List ℕ) → flat_map (encode_byte ENCODED) path ≡ flat_map address_byte path
same_bytes [] = refl
same_bytes (b ∷ path) =
    flat_map-cons (encode_byte ENCODED) b path ∙ ap (λ t. t ++ flat_map (encode_byte ENCODED) path)
    (same_byte b)
    ∙ ap (λ t. address_byte b ++ t) (same_bytes path) ∙ sym (flat_map-cons address_byte b path)

-- percent-encoding makes addresses
pub address_is : (path : List ℕ) → percent_encode ENCODED path ≡ address_of path
unfolding percent_encode
address_is path = same_bytes path
