-- The fault of one file.
use Rattle.std.proofs.Common.{◌≡◌, ℕ, true, false, List, Some, None, sym, ap, ◌∙◌}
use Rattle.go_ast.specs.declared.fault.Fault.{Fault}
use Rattle.corpus_piece.specs.declared.outcome.Outcome.TheVariants.{Faulty, Accepted}
use Rattle.corpus_piece.specs.declared.outcome.Parsed.{Parsed}
use Rattle.corpus_piece.specs.Pieces.{JudgedFile}
use Rattle.corpus.specs.declared.faults.FileFault.{FileFault}
use Rattle.corpus.specs.Corpora.{AcceptedFile, accepted_file, fault_as, is_kept, other_package}

module _ (files : List JudgedFile) (f : JudgedFile) where
  pub own_fault : (number : ℕ) (fault copy : Fault) → f.number ≡ number → f.outcome ≡ Faulty fault
      → copy ≡ fault
      → Some (record { file = number; fault = copy }) ≡ fault_as files f f.outcome
  own_fault number fault copy same_number outcome same =
      (λ i. Some (record { file = sym same_number i; fault = same i }))
      ∙ sym (ap (fault_as files f) outcome)

  pub kept_fault : (parsed : Parsed) → f.outcome ≡ Accepted parsed
      → is_kept files (accepted_file f parsed) ≡ true → None ≡ fault_as files f f.outcome
  kept_fault parsed outcome own =
      sym (ap (fault_as files f) outcome ∙ ap (λ b. other_package b (accepted_file f parsed)) own)

  pub beside_fault : (parsed : Parsed) (a : AcceptedFile) (fault : FileFault) → f.outcome
      ≡ Accepted parsed → is_kept files (accepted_file f parsed) ≡ false
      → a ≡ accepted_file f parsed → Some fault ≡ other_package false a → Some fault
      ≡ fault_as files f f.outcome
  beside_fault parsed a fault outcome own same is =
      is ∙ ap (other_package false) same
      ∙ sym (ap (fault_as files f) outcome ∙ ap (λ b. other_package b (accepted_file f parsed)) own)
