-- Texts that were appended one after another.
use Rattle.std.proofs.Common.{◌≡◌, ℕ, List, ◌++◌, ap, ◌∙◌, append_assoc}

pub joined_three : (old a b c one two new : List ℕ) → one ≡ old ++ a → two ≡ one ++ b
    → new ≡ two ++ c
    → new ≡ old ++ ((a ++ b) ++ c)
joined_three old a b c one two new e f g =
    g ∙ ap (λ t. t ++ c) (f ∙ ap (λ t. t ++ b) e ∙ append_assoc old a b) ∙ append_assoc old
    (a ++ b) c

pub joined_five : (old a b c d e one two three four new : List ℕ)
    → one ≡ old ++ a → two ≡ one ++ b → three ≡ two ++ c → four ≡ three ++ d → new ≡ four ++ e
    → new ≡ old ++ ((((a ++ b) ++ c) ++ d) ++ e)
joined_five old a b c d e one two three four new e1 e2 e3 e4 e5 =
    joined_three old ((a ++ b) ++ c) d e three four new (joined_three old a b c one two three e1 e2
    e3) e4 e5
