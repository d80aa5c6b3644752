-- At most one byte too many is read, which tells a large file from others.
use Rattle.std.proofs.Common.{◌≡◌, ℕ, ◌+◌, ◌<◌, true, List, [], ◌++◌, length, take, Option, Some}
use Rattle.std.proofs.Common.{None, Result, Ok, Err, IfErr, IfOk, IfSome, IsErrAnd, OnOk, inl, inr}
use Rattle.std.proofs.Common.{refl, sym, subst, arith}
use Rattle.std.specs.Prelude.{option_map}
use Rattle.std.proofs.lemmas.Bool.{cases_lt, ltb_from_iff}
use Rattle.std.proofs.lemmas.List.{length-take, take_all}
use Rattle.plain_data.specs.Causes.{IsFailOf}
use Rattle.tree_io.specs.Sources.{entry_of, file_limit}
use Rattle.tree_io.specs.declared.tree.Entry.{Entry}
use Rattle.tree_io.specs.declared.tree.Entry.TheVariants.{Large}
use Rattle.tree_io.proofs.file.read_entry_from.Goals as goal

large : (bytes : List ℕ) → file_limit < length bytes → entry_of bytes ≡ Large
large bytes more = rw (← ltb_from_iff {b = true} {m = file_limit} {n = length bytes}
    (λ _. more, λ _. refl)) refl

entry_of-take : (limit : ℕ) (bytes : List ℕ) → limit ≡ file_limit + 1 → entry_of (take limit bytes)
    ≡ entry_of bytes
entry_of-take limit bytes is = elim (cases_lt file_limit (length bytes)) [
  | inl more ↦ rw (large bytes more) (large (take limit bytes)
      (omega (arith, length-take limit bytes)))
  | inr small ↦ rw (take_all limit bytes (omega arith)) refl
]

entry_of_known : (limit : ℕ) (known : Option (List ℕ)) (new : List ℕ) → limit ≡ file_limit + 1
    → IfSome (option_map (take limit) known) (λ bytes. new ≡ [] ++ bytes)
    → IfSome known (λ bytes. entry_of new ≡ entry_of bytes)
entry_of_known limit None new is read = tt
entry_of_known limit (Some bytes) new is read = rw read (entry_of-take limit bytes is)

told_of : {E F : Type 0} (P : E → F → Type 0) (limit : ℕ) (known : Option (List ℕ))
    (old new : List ℕ) (read : Result ℕ E) (result : Result Entry F)
    → limit ≡ file_limit + 1 → old ≡ [] → OnOk read
    (IfSome (option_map (take limit) known) (λ bytes. new ≡ old ++ bytes))
    → OnOk read (result ≡ Ok (entry_of new)) → IfErr read (λ error. IsErrAnd result (P error))
    → IfOk result (λ entry. IfSome known (λ bytes. entry ≡ entry_of bytes))
told_of {F = F} P limit known old new (Ok n) result is none read whole error =
    subst (λ (r : Result Entry F). IfOk r (λ entry. IfSome known (λ bytes. entry ≡ entry_of bytes)))
    (sym whole)
    (entry_of_known limit known new is (rw none at read))
told_of P limit known old new (Err e) (Ok entry) is none read whole error = absurd error
told_of P limit known old new (Err e) (Err fail) is none read whole error = tt

pub returns-clause-told : goal.returns-clause-told
returns-clause-told g c =
    let told = told_of IsFailOf c.take.result.limit (g.R.Read.remaining c.take.result.inner)
    c.in_ok-bytes.bytes.items c.read_to_end-read.new.buf.items
    c.read_to_end-read.result c.entry_of_read.result c.take.ensures.limit
    c.in_ok-bytes.ensures.items
    c.read_to_end-read.ensures.bytes c.entry_of_read.ensures.whole c.entry_of_read.ensures.error in
    rw c.in_ok-reader.was (rw c.take.ensures.inner at told)
