-- The letters and digits of ASCII.
use Rattle.std.proofs.Common.{◌≡◌, ℕ, ◌<◌, false, refl}
use Rattle.std.specs.Bool.{beq}
use Rattle.std.specs.Char.{is_ascii_alphabetic, is_ascii_digit}
use Rattle.ucd_table.proofs.Facts.{Stepped-below, same_from_beq}
use Rattle.ucd_category.specs.GeneralCategory.{general_category, general_category_eq}
use Rattle.ucd_category.specs.GeneralCategoryGroup.{in_group}
use Rattle.ucd_category.specs.declared.GeneralCategory.TheVariants.{DecimalNumber}
use Rattle.ucd_category.specs.declared.GeneralCategoryGroup.TheVariants.{Letter}
use Rattle.ucd_category.proofs.GeneralCategoryLemmas.{general_category_stepped}
use Rattle.ucd_category.proofs.Computing.{ucd_category}
use Rattle.go_chars.specs.Letters.{is_letter, is_digit}

pub ascii_letters : (c : ℕ) → c < 128 → in_group Letter (general_category c) ≡ is_ascii_alphabetic c
unfolding ucd_category
ascii_letters c h =
    same_from_beq _ _
    (Stepped-below general_category general_category_stepped
    (λ x v. beq (in_group Letter v) (is_ascii_alphabetic x)) 128 refl c h)

pub ascii_digits : (c : ℕ) → c < 128 → is_digit c ≡ is_ascii_digit c
unfolding ucd_category
ascii_digits c h =
    same_from_beq _ _
    (Stepped-below general_category general_category_stepped
    (λ x v. beq (general_category_eq v DecimalNumber) (is_ascii_digit x)) 128 refl c h)

-- the byte order mark is no letter
pub mark_no_letter : is_letter 0xFEFF ≡ false
unfolding ucd_category
mark_no_letter = refl
