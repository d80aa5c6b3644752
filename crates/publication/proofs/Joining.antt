-- What two know of one history.
use Rattle.std.proofs.Common.{◌≡◌, ℕ, ◌<◌, ◌≤◌, ◌⊎◌, Bool, true, false, ◌||◌, List, [], ◌∷◌, ◌++◌, length, refl, sym, ap, ◌∙◌, subst, inl, inr, ⊎_elim, arith, Option, None}
use Rattle.publication.specs.View.{StartsWith}
use Rattle.publication.specs.Chronicle.{IsOpen, IsSettled}
use Rattle.publication.specs.Readers.{IsTold}
use Rattle.publication.specs.declared.knowledge.Knowledge.{Knowledge}
use Rattle.publication.proofs.Logs.{prefix_whole, closed_all, starts_then, prefix_length, shorter, starts_same, within_closed}

either_true : (a b : Bool) → (a || b) ≡ true → (a ≡ true) ⊎ (b ≡ true)
either_true true b h = inl refl
either_true false b h = inr h

module _ {E : Type 0} where
  -- what both were told begins all, and nothing follows a closed log in it
  pub record Meet (mine other : Knowledge E) (all : List (Option E)) : Type 0 where
    pub mine_told : IsTold mine
    pub other_told : IsTold other
    pub mine_all : StartsWith all mine.all.log
    pub other_all : StartsWith all other.all.log
    pub settled : IsSettled all

  -- the log is the longer of the two that were told, and that is its length
  abbrev pub Longer : Knowledge E → Knowledge E → List (Option E) → ℕ → Type 0
  Longer mine other log number = ((mine.number < other.number) × (log ≡ other.told.log)
      × (number ≡ other.number)) ⊎ ((other.number ≤ mine.number) × (log ≡ mine.told.log)
      × (number ≡ mine.number))

  mine_begins : (mine other : Knowledge E) (all : List (Option E)) → Meet mine other all
      → StartsWith all mine.told.log
  mine_begins mine other all m = starts_then mine.told.log mine.all.log all m.mine_told.begins
      m.mine_all

  other_begins : (mine other : Knowledge E) (all : List (Option E)) → Meet mine other all
      → StartsWith all other.told.log
  other_begins mine other all m = starts_then other.told.log other.all.log all m.other_told.begins
      m.other_all

  pub longer_mine : (mine other : Knowledge E) (all log : List (Option E)) (number : ℕ)
      → Meet mine other all → Longer mine other log number → StartsWith log mine.told.log
  longer_mine mine other all log number m longer = ⊎_elim
      (λ (t : (mine.number < other.number) × (log ≡ other.told.log) × (number ≡ other.number)).
      subst (λ (l : List (Option E)). StartsWith l mine.told.log) (sym t.1)
      (shorter mine.told.log other.told.log all (mine_begins mine other all m)
      (other_begins mine other all m)
      (omega (arith, t.0, m.mine_told.number, m.other_told.number))))
      (λ (t : (other.number ≤ mine.number) × (log ≡ mine.told.log) × (number ≡ mine.number)).
      subst (λ (l : List (Option E)). StartsWith l mine.told.log) (sym t.1)
      (starts_same mine.told.log)) longer

  pub longer_other : (mine other : Knowledge E) (all log : List (Option E)) (number : ℕ)
      → Meet mine other all → Longer mine other log number → StartsWith log other.told.log
  longer_other mine other all log number m longer = ⊎_elim
      (λ (t : (mine.number < other.number) × (log ≡ other.told.log) × (number ≡ other.number)).
      subst (λ (l : List (Option E)). StartsWith l other.told.log) (sym t.1)
      (starts_same other.told.log))
      (λ (t : (other.number ≤ mine.number) × (log ≡ mine.told.log) × (number ≡ mine.number)).
      subst (λ (l : List (Option E)). StartsWith l other.told.log) (sym t.1)
      (shorter other.told.log mine.told.log all (other_begins mine other all m)
      (mine_begins mine other all m) (omega
      (arith, t.0, m.mine_told.number, m.other_told.number)))) longer

  pub one_of : (mine other : Knowledge E) (log : List (Option E)) (number : ℕ)
      → Longer mine other log number → (log ≡ mine.told.log) ⊎ (log ≡ other.told.log)
  one_of mine other log number longer = ⊎_elim (λ (t : (mine.number < other.number)
      × (log ≡ other.told.log) × (number ≡ other.number)). inr t.1)
      (λ (t : (other.number ≤ mine.number) × (log ≡ mine.told.log) × (number ≡ mine.number)).
      inl t.1) longer

  mine_closed : (mine other : Knowledge E) (all : List (Option E)) → Meet mine other all
      → mine.closed ≡ true → all ≡ mine.told.log ++ None ∷ []
  mine_closed mine other all m closed = closed_all mine.told.log all m.mine_told.unclosed m.settled
      (subst (λ (l : List (Option E)). StartsWith all l) (m.mine_told.last closed) m.mine_all)

  other_closed : (mine other : Knowledge E) (all : List (Option E)) → Meet mine other all
      → other.closed ≡ true → all ≡ other.told.log ++ None ∷ []
  other_closed mine other all m closed = closed_all other.told.log all m.other_told.unclosed
      m.settled (subst (λ (l : List (Option E)). StartsWith all l) (m.other_told.last closed)
      m.other_all)

  pub longer_mine_last : (mine other : Knowledge E) (all log : List (Option E)) (number : ℕ)
      → Meet mine other all → Longer mine other log number → mine.closed ≡ true
      → log ≡ mine.told.log
  longer_mine_last mine other all log number m longer closed =
      let within = prefix_length other.told.log mine.told.log
      (within_closed mine.told.log all other.told.log (mine_closed mine other all m closed)
      m.other_told.unclosed (other_begins mine other all m)) in
      ⊎_elim (λ (t : (mine.number < other.number) × (log ≡ other.told.log)
      × (number ≡ other.number)). absurd (omega (
        arith,
        t.0,
        within,
        m.mine_told.number,
        m.other_told.number,
      )))
      (λ (t : (other.number ≤ mine.number) × (log ≡ mine.told.log) × (number ≡ mine.number)). t.1)
      longer

  pub longer_other_last : (mine other : Knowledge E) (all log : List (Option E)) (number : ℕ)
      → Meet mine other all → Longer mine other log number → other.closed ≡ true
      → log ≡ other.told.log
  longer_other_last mine other all log number m longer closed =
      let within = within_closed other.told.log all mine.told.log
      (other_closed mine other all m closed) m.mine_told.unclosed
      (mine_begins mine other all m) in
      ⊎_elim (λ (t : (mine.number < other.number) × (log ≡ other.told.log)
      × (number ≡ other.number)). t.1)
      (λ (t : (other.number ≤ mine.number) × (log ≡ mine.told.log) × (number ≡ mine.number)). t.1
      ∙ prefix_whole mine.told.log other.told.log within
      (omega (arith, t.0, m.mine_told.number, m.other_told.number))) longer

  pub longer_last : (mine other : Knowledge E) (all log : List (Option E)) (number : ℕ)
      → Meet mine other all → Longer mine other log number → (mine.closed || other.closed) ≡ true
      → all ≡ log ++ None ∷ []
  longer_last mine other all log number m longer closed = ⊎_elim
      (λ (t : mine.closed ≡ true). mine_closed mine other all m t ∙ ap (λ l. l ++ None ∷ [])
      (sym (longer_mine_last mine other all log number m longer t)))
      (λ (t : other.closed ≡ true). other_closed mine other all m t ∙ ap (λ l. l ++ None ∷ [])
      (sym (longer_other_last mine other all log number m longer t)))
      (either_true mine.closed other.closed closed)

  pub longer_begins : (mine other : Knowledge E) (all log : List (Option E)) (number : ℕ)
      → Meet mine other all → Longer mine other log number → StartsWith all log
  longer_begins mine other all log number m longer = ⊎_elim
      (λ (t : (mine.number < other.number) × (log ≡ other.told.log) × (number ≡ other.number)).
      subst (λ (l : List (Option E)). StartsWith all l) (sym t.1) (other_begins mine other all m))
      (λ (t : (other.number ≤ mine.number) × (log ≡ mine.told.log) × (number ≡ mine.number)).
      subst (λ (l : List (Option E)). StartsWith all l) (sym t.1) (mine_begins mine other all m))
      longer

  pub longer_unclosed : (mine other : Knowledge E) (all log : List (Option E)) (number : ℕ)
      → Meet mine other all → Longer mine other log number → IsOpen log
  longer_unclosed mine other all log number m longer = ⊎_elim
      (λ (t : (mine.number < other.number) × (log ≡ other.told.log) × (number ≡ other.number)).
      subst (λ (l : List (Option E)). IsOpen l) (sym t.1) m.other_told.unclosed)
      (λ (t : (other.number ≤ mine.number) × (log ≡ mine.told.log) × (number ≡ mine.number)).
      subst (λ (l : List (Option E)). IsOpen l) (sym t.1) m.mine_told.unclosed) longer

  pub longer_number : (mine other : Knowledge E) (all log : List (Option E)) (number : ℕ)
      → Meet mine other all → Longer mine other log number → number ≡ length log
  longer_number mine other all log number m longer = ⊎_elim
      (λ (t : (mine.number < other.number) × (log ≡ other.told.log) × (number ≡ other.number)). t.2
      ∙ m.other_told.number ∙ ap length (sym t.1))
      (λ (t : (other.number ≤ mine.number) × (log ≡ mine.told.log) × (number ≡ mine.number)). t.2
      ∙ m.mine_told.number ∙ ap length (sym t.1)) longer
