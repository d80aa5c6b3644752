-- Each kind of step keeps the rule of the publication.
use Rattle.std.proofs.Common.{◌≡◌, ◌≢◌, ℕ, List, [], ◌∷◌, ◌++◌, length, set, refl, sym, ap, ◌∙◌, subst, ⊎_elim, Some}
use Rattle.std.proofs.lemmas.List.{append-nil}
use mathlib.Core.Option.{some}
use lib.ListN.{get_elem?}
use Rattle.crossbeam_utils.specs.Register.{TurnsAt, Forks, Merges, Admits}
use Rattle.atomic_table.proofs.Lists.{set_again, at_set, at_snoc}
use Rattle.publication.specs.View.{StartsWith, EndsWith}
use Rattle.publication.specs.Chronicle.{IsOpen}
use Rattle.publication.specs.Slots.{IsSound, shown}
use Rattle.publication.specs.declared.slot.Slot.{Slot}
use Rattle.publication.specs.declared.rule.Sight.{Sight}
use Rattle.publication.specs.Rule.{Knows, Holds, EntersAt, LooksAt, GlancesAt, OpensAt, seeing, noting_entry, noting_look, told_of, blank}
use Rattle.publication.proofs.Logs.{starts_then}

module _ {E : Type 0} where
  pub sound_same : (next change : Slot E) → shown next ≡ shown change → IsSound change
      → IsSound next
  sound_same next change same s = record {
    number = ap (λ z. z.number) same ∙ s.number ∙ ap (λ z. length z.log.log) (sym same);
    newest = subst (λ z. EndsWith z.log.log (Some z.edition)) (sym same) s.newest;
    unclosed = subst (λ z. IsOpen z.log.log) (sym same) s.unclosed;
  }

  knows_more : (old new : Slot E) (sight : Sight E) → new.log.book ≡ old.log.book
      → StartsWith new.log.log old.log.log → Knows old sight → Knows new sight
  knows_more old new sight book later k = record {
    same = λ opened. k.same opened
        ∙ sym book;
    begins = starts_then sight.seen.log old.log.log new.log.log k.begins later;
  }

  knows_blank : (slot : Slot E) → Knows slot blank
  knows_blank slot = record { same = λ opened. absurd (cc (opened)); begins = (slot.log.log, refl) }

  knows_told : (slot : Slot E) (sight : Sight E) → Knows slot sight → Knows slot (told_of sight)
  knows_told slot sight k = record { same = k.same; begins = (slot.log.log, refl) }

  -- a sight that has just seen what is published knows it
  knows_now : (slot : Slot E) (sight after : Sight E) → after.seen ≡ slot.log → Knows slot after
  knows_now slot sight after same = record {
    same = λ _. ap (λ s. s.book) same;
    begins = ([], sym (append-nil after.seen.log ∙ ap (λ s. s.log) same));
  }

  -- a change of one sight keeps the rule where it knows what is published afterwards
  turned : (seat : ℕ) (new : Slot E) (sights : List (Sight E)) (after : Sight E) → IsSound new
      → Knows new after
      → ((j : ℕ) (u : Sight E) → get_elem? sights j ≡ some u → Knows new u) → Holds new
      (set sights seat after)
  turned seat new sights after sound knows others = (
    sound,
    λ j u e. ⊎_elim (λ (t : (j ≡ seat) × (after ≡ u)). subst (λ (z : Sight E). Knows new z) t.1
        knows)
        (λ (t : (j ≢ seat) × (get_elem? sights j ≡ some u)). others j u t.1)
        (at_set sights seat j after u e),
  )

  pub enters : (seat : ℕ) (sight : Sight E) (slot : Slot E) → TurnsAt Holds seat sight slot slot
      EntersAt
  enters seat sight slot sights h at = let mine = h.1 seat sight at in (
    noting_entry slot sight,
    turned seat slot sights (noting_entry slot sight) h.0
        (knows_now slot sight (noting_entry slot sight) refl) h.1,
    record { same = mine.same; later = mine.begins; sound = h.0; is = refl },
  )

  pub looks : (seat : ℕ) (sight : Sight E) (slot : Slot E) → TurnsAt Holds seat sight slot slot
      LooksAt
  looks seat sight slot sights h at = let mine = h.1 seat sight at in (
    noting_look slot sight,
    turned seat slot sights (noting_look slot sight) h.0
        (knows_now slot sight (noting_look slot sight) refl) h.1,
    record { same = mine.same; later = mine.begins; sound = h.0; is = refl },
  )

  pub glances : (seat : ℕ) (sight : Sight E) (slot : Slot E) → TurnsAt Holds seat sight slot slot
      GlancesAt
  glances seat sight slot sights h at = let mine = h.1 seat sight at in (
    seeing slot sight,
    turned seat slot sights (seeing slot sight) h.0 (knows_now slot sight (seeing slot sight) refl)
        h.1,
    record { same = mine.same; later = mine.begins; sound = h.0; is = refl },
  )

  pub publishes : (seat : ℕ) (sight : Sight E) (old new change : Slot E) → shown new ≡ shown change
      → IsSound change → change.log.book ≡ old.log.book → StartsWith change.log.log old.log.log
      → TurnsAt Holds seat sight old new (λ before old new after. after ≡ before)
  publishes seat sight old new change same sound book later sights h at =
      let others : (j : ℕ) (u : Sight E) → get_elem? sights j ≡ some u → Knows new u =
      λ j u e. knows_more old new u (ap (λ z. z.log.book) same ∙ book)
      (subst (λ z. StartsWith z.log.log old.log.log) (sym same) later) (h.1 j u e) in (
        sight,
        turned seat new sights sight (sound_same new change same sound) (others seat sight at)
            others,
        refl,
      )

  pub opens : (seat : ℕ) (sight : Sight E) (old new : Slot E) → shown new ≡ shown old
      → TurnsAt Holds seat sight old new OpensAt
  opens seat sight old new same sights h at =
      let later : StartsWith new.log.log old.log.log =
      ([], ap (λ z. z.log.log) same ∙ sym (append-nil old.log.log)) in (
        seeing new sight,
        turned seat new sights (seeing new sight) (sound_same new old same h.0)
            (knows_now new sight (seeing new sight) refl)
            (λ j u e. knows_more old new u (ap (λ z. z.log.book) same) later (h.1 j u e)),
        refl,
      )

  pub forks : (seat : ℕ) (sight : Sight E) → Forks Holds seat sight sight (told_of sight)
  forks seat sight slot sights h at = (
    h.0,
    λ j u e.
        let e' = subst (λ (l : List (Sight E)). get_elem? (l ++ told_of sight ∷ []) j ≡ some u)
        (set_again sights seat sight at) e in
        ⊎_elim (λ (t : get_elem? sights j ≡ some u). h.1 j u t)
        (λ (t : told_of sight ≡ u). subst (λ (z : Sight E). Knows slot z) t
        (knows_told slot sight (h.1 seat sight at))) (at_snoc sights (told_of sight) u j e'),
  )

  pub merges : (pass : ℕ) (mine : Sight E) (other : ℕ) (told : Sight E)
      → Merges Holds pass mine other told told blank
  merges pass mine other told slot sights h at ne at' =
      let known : Knows slot told = ⊎_elim (λ (t : (other ≡ pass) × (told ≡ told)). absurd (ne t.0))
      (λ (t : (other ≢ pass) × (get_elem? sights other ≡ some told)). h.1 other told t.1)
      (at_set sights pass other told told at') in (
        h.0,
        λ j u e. ⊎_elim (λ (t : (j ≡ other) × (blank ≡ u)). subst (λ (z : Sight E). Knows slot z)
            t.1 (knows_blank slot))
            (λ (t : (j ≢ other) × (get_elem? (set sights pass told) j ≡ some u)). ⊎_elim
            (λ (s : (j ≡ pass) × (told ≡ u)). subst (λ (z : Sight E). Knows slot z) s.1 known)
            (λ (s : (j ≢ pass) × (get_elem? sights j ≡ some u)). h.1 j u s.1)
            (at_set sights pass j told u t.1)) (at_set (set sights pass told) other j blank u
            e),
      )

  pub admits : Admits {T = Slot E} Holds blank
  admits slot sights h = (
    h.0,
    λ j u e. ⊎_elim (λ (t : get_elem? sights j ≡ some u). h.1 j u t)
        (λ (t : blank ≡ u). subst (λ (z : Sight E). Knows slot z) t (knows_blank slot))
        (at_snoc sights blank u j e),
  )

  pub begins : (slot : Slot E) → IsSound slot → Holds slot (blank ∷ [])
  begins slot sound = (
    sound,
    λ j u e. ⊎_elim (λ (t : get_elem? [] j ≡ some u). absurd (cc (t)))
        (λ (t : blank ≡ u). subst (λ (z : Sight E). Knows slot z) t (knows_blank slot))
        (at_snoc [] blank u j e),
  )
