-- Texts that were appended one after another.
use Rattle.std.proofs.Common.{◌≡◌, ℕ, List, ◌++◌, ap, ◌∙◌, append_assoc}

pub joined_two : (old a b one new : List ℕ) → one ≡ old ++ a → new ≡ one ++ b → new
    ≡ old ++ (a ++ b)
joined_two old a b one new e f = f ∙ ap (λ t. t ++ b) e ∙ append_assoc old a b

pub joined_three : (old a b c one two new : List ℕ) → one ≡ old ++ a → two ≡ one ++ b
    → new ≡ two ++ c
    → new ≡ old ++ ((a ++ b) ++ c)
joined_three old a b c one two new e f g =
    joined_two old (a ++ b) c two new (joined_two old a b one two e f) g
