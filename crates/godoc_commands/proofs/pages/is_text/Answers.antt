use Rattle.std.proofs.Common.{◌≡◌, ℕ, Bool, true, false, List, refl, sym, ap, ◌∙◌}
use Rattle.std.specs.Prelude.{Err, IsUtf8, MatchResult, Ok, Result}
use Rattle.std.specs.Result.{is_ok}
use Rattle.std.specs.Str.{is_utf8}
use Rattle.std.proofs.lemmas.Str.{IsUtf8-from_is_utf8, is_utf8-from_IsUtf8}
use Rattle.godoc_commands.specs.Pages.{has_page}
use Rattle.godoc_commands.proofs.pages.is_text.Goals as goal

not_true : (b : Bool) → (b ≡ true → ⊥) → b ≡ false
not_true true f = absurd (f refl)
not_true false f = refl

-- what is text is UTF-8, and what isn't, isn't
tells : {T E : Type 0} (bytes : List ℕ) (P : T → Type 0) (Q : E → Type 0) (r : Result T E)
    → MatchResult r (λ s. P s × IsUtf8 bytes) (λ e. (IsUtf8 bytes → ⊥) × Q e)
    → is_ok r ≡ is_utf8 bytes
tells bytes P Q (Ok s) h = sym (is_utf8-from_IsUtf8 bytes h.1)
tells bytes P Q (Err e) h =
    sym (not_true (is_utf8 bytes) (λ t. h.0 (IsUtf8-from_is_utf8 bytes t)))

pub returns-in-Bytes : goal.returns-in-Bytes
returns-in-Bytes c =
    c.is_ok.ensures.value ∙ tells c.as_slice.result.now _ _ c.from_utf8.result
    c.from_utf8.ensures.cases
    ∙ ap is_utf8 c.as_slice.ensures ∙ sym (ap has_page c.in-Bytes.is)
