-- Reads and writes, one after another. The crates above may cite it.
use Rattle.std.proofs.Common.{◌≡◌, ℕ, ◌+◌, List, [], ◌++◌, take, drop, Option, Some, None, refl, sym, ap, ◌∙◌, append_assoc}
use Rattle.std.specs.Prelude.{option_map}
use Rattle.std.proofs.Math.Seq.{take-add}
use Rattle.std.proofs.lemmas.List.{append-nil}
use Rattle.link_io.specs.Streams.{Takes, Adds}

option_map-append : (known : Option (List ℕ)) (xs ys : List ℕ) → option_map (λ held. held ++ ys) (option_map (λ held. held ++ xs) known) ≡ option_map (λ held. held ++ (xs ++ ys)) known
option_map-append None xs ys = refl
option_map-append (Some held) xs ys = ap Some (append_assoc held xs ys)

option_map-prepend : (known : Option (List ℕ)) (xs ys : List ℕ) → option_map (λ rest. xs ++ rest) (option_map (λ rest. ys ++ rest) known) ≡ option_map (λ rest. (xs ++ ys) ++ rest) known
option_map-prepend None xs ys = refl
option_map-prepend (Some rest) xs ys = ap Some (sym (append_assoc xs ys rest))

-- what two writes add together
pub Adds-then : (before middle after : Option (List ℕ)) (xs ys : List ℕ) → Adds before xs middle → Adds middle ys after → Adds before (xs ++ ys) after
Adds-then before middle after xs ys first second =
    second ∙ ap (option_map (λ (held : List ℕ). held ++ ys)) first ∙ option_map-append before xs ys

-- what two reads take together
pub Takes-then : (before middle after : Option (List ℕ)) (xs ys : List ℕ) → Takes before xs middle → Takes middle ys after → Takes before (xs ++ ys) after
Takes-then before middle after xs ys first second =
    first ∙ ap (option_map (λ (rest : List ℕ). xs ++ rest)) second ∙ option_map-prepend after xs ys

-- a write of the next m bytes of a piece whose first n were added
pub Adds-more : (before middle after : Option (List ℕ)) (piece : List ℕ) (n m : ℕ) → Adds before (take n piece) middle → Adds middle (take m (drop n piece)) after → Adds before (take (n + m) piece) after
Adds-more before middle after piece n m first second =
    Adds-then before middle after (take n piece) (take m (drop n piece)) first second ∙ ap (λ (bytes : List ℕ). option_map (λ (held : List ℕ). held ++ bytes) before) (sym (take-add n m piece))

-- nothing added, nothing taken
pub Adds-none : (known : Option (List ℕ)) → Adds known [] known
Adds-none None = refl
Adds-none (Some held) = ap Some (sym (append-nil held))

pub Takes-none : (known : Option (List ℕ)) → Takes known [] known
Takes-none None = refl
Takes-none (Some rest) = refl
