-- The run of a number, and how long it is.
use Rattle.std.proofs.Common.{◌≡◌, ℕ, suc, ◌+◌, ◌<◌, ◌≤◌, Bool, true, false, List, [], ◌∷◌, length}
use Rattle.std.proofs.Common.{take, drop, get_or, refl, sym, ap, arith, cond}
use Rattle.go_ast.specs.Lexical.{goes_on, run_after, number_run, is_hexadecimal}

-- the run is a front of the bytes
front_step : (b : ℕ) (bytes run : List ℕ) (t : Bool) → run ≡ take (length run) bytes
    → cond t (b ∷ run) [] ≡ take (length (cond t (b ∷ run) [])) (b ∷ bytes)
front_step b bytes run true is = ap (λ r. b ∷ r) is
front_step b bytes run false is = refl

run_after-take : (hexadecimal : Bool) (before : ℕ) (bytes : List ℕ)
    → run_after hexadecimal before bytes ≡ take (length (run_after hexadecimal before bytes)) bytes
run_after-take hexadecimal before [] = refl
run_after-take hexadecimal before (b ∷ bytes) =
    front_step b bytes _ (goes_on hexadecimal before b) (run_after-take hexadecimal b bytes)

length_step : (b n : ℕ) (run : List ℕ) (t : Bool) → length run ≤ n
    → length (cond t (b ∷ run) []) ≤ suc n
length_step b n run true within = omega arith
length_step b n run false within = omega arith

pub length_run_after : (hexadecimal : Bool) (before : ℕ) (bytes : List ℕ)
    → length (run_after hexadecimal before bytes) ≤ length bytes
length_run_after hexadecimal before [] = omega arith
length_run_after hexadecimal before (b ∷ bytes) =
    length_step b _ _ (goes_on hexadecimal before b) (length_run_after hexadecimal b bytes)

pub number_run_take : (bytes : List ℕ) → 0 < length bytes
    → take (1 + length (run_after (is_hexadecimal bytes) (get_or bytes 0 0) (drop 1 bytes))) bytes
    ≡ number_run bytes
unfolding number_run
number_run_take [] some = absurd (omega arith)
number_run_take (b ∷ bytes) some =
    let n = length (run_after (is_hexadecimal (b ∷ bytes)) b bytes) in
    let e : 1 + n ≡ suc n = omega arith in
    rw e (ap (λ r. b ∷ r) (sym (run_after-take _ b bytes)))

pub length_number_run : (bytes : List ℕ) → 0 < length bytes → 0 < length (number_run bytes)
unfolding number_run
length_number_run [] some = some
length_number_run (b ∷ bytes) some = omega arith
