-- Cited by public clauses. The letters and digits of Go (The Go Programming Language Specification,
-- "Characters" and "Letters and digits"), by the general categories of the Unicode Character
-- Database.
use Rattle.std.specs.Prelude.{ℕ, Bool, ◌||◌, ◌==◌}
use Rattle.ucd_category.specs.GeneralCategory.{general_category, general_category_eq}
use Rattle.ucd_category.specs.GeneralCategoryGroup.{in_group}
use Rattle.ucd_category.specs.declared.GeneralCategory.TheVariants.{UppercaseLetter, DecimalNumber}
use Rattle.ucd_category.specs.declared.GeneralCategoryGroup.TheVariants.{Letter}

abbrev pub underscore : ℕ
underscore = 95

-- letter = unicode_letter | "_": the underscore, and the categories Lu, Ll, Lt, Lm and Lo
abbrev pub is_letter : ℕ → Bool
is_letter c = c == underscore || in_group Letter (general_category c)

-- unicode_digit: the category Nd
abbrev pub is_digit : ℕ → Bool
is_digit c = general_category_eq (general_category c) DecimalNumber

-- an upper case letter: the category Lu ("Exported identifiers")
abbrev pub is_upper : ℕ → Bool
is_upper c = general_category_eq (general_category c) UppercaseLetter
