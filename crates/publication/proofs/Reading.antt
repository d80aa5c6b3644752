-- What a reader has seen and was told, in editions.
use Rattle.std.proofs.Common.{◌≡◌, ℕ, ◌-◌, ◌≤◌, ◌⊎◌, true, List, [], ◌∷◌, ◌++◌, length, All, refl, sym, ap, ◌∙◌, subst, inl, inr, ⊎_elim, le_refl, le_trans, arith, Option, Some, None, Result, Ok, Err, IfOk, OnOk, OnErr}
use Rattle.std.proofs.lemmas.List.{append-nil}
use Rattle.std.proofs.lemmas.List.Elements.{All-append, All-cons, All-nil}
use Rattle.std.proofs.lemmas.List.Sorted.{IsNonDecreasingBy-push}
use Rattle.std.specs.List.Sorted.{IsNonDecreasing}
use Rattle.logbook.specs.declared.tokens.Seen.{Seen}
use Rattle.publication.specs.View.{EndsWith, IsView, OnlySees, StartsWith}
use Rattle.publication.specs.Chronicle.{editions_of, IsOpen}
use Rattle.publication.specs.Readers.{IsTold, IsReader, IsNoted, SeesMore, SeesNothing, Glimpses, view_by}
use Rattle.publication.specs.declared.knowledge.Knowledge.{Knowledge}
use Rattle.publication.specs.declared.rule.Sight.{Sight}
use Rattle.publication.specs.declared.chronicle.Chronicle.{Chronicle}
use Rattle.publication.proofs.Logs.{prefix_whole, closed_all, starts_then, prefix_length, shorter, within_closed}

abbrev Token : Type 0 → Type 0
Token E = Seen (Option E) ℕ Chronicle

-- numbers that never fall, and are at most this, go on with more than that
rises : (entries : List ℕ) (most more : ℕ) → most ≤ more → IsNonDecreasing entries
    → All (λ number. (1 ≤ number) × (number ≤ most)) entries → IsNonDecreasing
    (entries ++ more ∷ [])
rises entries most more le rising below = IsNonDecreasingBy-push (λ x. x) entries more rising
    (λ d some. le_trans (below (length entries - 1) d (omega arith)).1 le)

all_more : (entries : List ℕ) (most more : ℕ) → most ≤ more → All (λ number. (1 ≤ number)
    × (number ≤ most)) entries → All (λ number. (1 ≤ number) × (number ≤ more)) entries
all_more entries most more le below i d lt = let b = below i d lt in (b.0, le_trans b.1 le)

-- the numbers of so many editions, which never fall
record AreNumbers (numbers : List ℕ) (most : ℕ) : Type 0 where
  rising : IsNonDecreasing numbers
  within : All (λ number. (1 ≤ number) × (number ≤ most)) numbers

same_numbers : (numbers same : List ℕ) (most more : ℕ) → most ≤ more → same ≡ numbers
    → AreNumbers numbers most → AreNumbers same more
same_numbers numbers same most more le is are = subst (λ l. AreNumbers l more) (sym is)
    (record { rising = are.rising; within = all_more numbers most more le are.within })

one_more : (numbers more : List ℕ) (most number : ℕ) → 1 ≤ number → most ≤ number
    → more ≡ numbers ++ number ∷ [] → AreNumbers numbers most → AreNumbers more number
one_more numbers more most number some le is are =
    let P : ℕ → Type 0 = λ n. (1 ≤ n) × (n ≤ number) in
    subst (λ l. AreNumbers l number) (sym is) (record {
      rising = rises numbers most number le are.rising are.within;
      within = All-append P numbers (number ∷ []) (all_more numbers most number le are.within)
          (All-cons P number [] (some, le_refl number) (All-nil P));
    })

module _ {E : Type 0} where
  pub editions_append : (front rest : List (Option E)) → editions_of (front ++ rest) ≡ editions_of
      front ++ editions_of rest
  editions_append [] rest = refl
  editions_append (Some edition ∷ front) rest = ap (λ l. edition ∷ l) (editions_append front rest)
  editions_append (None ∷ front) rest = editions_append front rest

  pub editions_length : (log : List (Option E)) → IsOpen log → length (editions_of log) ≡ length log
  editions_length [] o = refl
  editions_length (Some edition ∷ log) o = omega (arith, editions_length log o)
  editions_length (None ∷ log) o = absurd o

  pub editions_start : (log front : List (Option E)) → StartsWith log front → StartsWith
      (editions_of log) (editions_of front)
  editions_start log front s = (editions_of s.0, ap editions_of s.1 ∙ editions_append front s.0)

  pub editions_same : (log same : List (Option E)) → log ≡ same → StartsWith (editions_of log)
      (editions_of same)
  editions_same log same e = ([], ap editions_of e ∙ sym (append-nil (editions_of same)))

  pub editions_end : (log : List (Option E)) (edition : E) → EndsWith log (Some edition)
      → EndsWith (editions_of log) edition
  editions_end log edition e = (
    editions_of e.0,
    ap editions_of e.1 ∙ editions_append e.0
        (Some edition ∷ []),
  )

  -- what was seen begins with the opening, once it is something
  begun : (seen origin all : List (Option E)) → length origin ≡ 1 → StartsWith all seen
      → StartsWith all origin → (editions_of seen ≡ []) ⊎ StartsWith (editions_of seen)
      (editions_of origin)
  begun [] origin all one p q = inl refl
  begun (entry ∷ seen) origin all one p q = inr (editions_start (entry ∷ seen) origin
      (shorter origin (entry ∷ seen) all q p (omega (arith, one))))

  pub view_holds : (sight : Sight E) (seen : Token E) (count : ℕ) (known : Knowledge E)
      → IsReader sight seen count known → IsView (view_by sight seen known)
  view_holds sight seen count known r =
      let origin : StartsWith known.all.log known.origin.log = starts_then known.origin.log
      known.told.log known.all.log r.told.informed r.told.begins in
      record {
        history = editions_of known.all.log;
        seen_begins = editions_start known.all.log seen.log r.begins;
        told_begins = editions_start known.all.log known.told.log r.told.begins;
        informed = editions_start known.told.log known.origin.log r.told.informed;
        begins = begun seen.log known.origin.log known.all.log r.told.one r.begins origin;
        rising = r.rising;
        known = λ i d lt. let k = r.entered i d lt in
            (k.0, omega (arith, k.1, editions_length seen.log r.unclosed));
        looks_rising = r.rising_looks;
        looks_known = λ i d lt. let k = r.looked i d lt in
            (k.0, omega (arith, k.1, editions_length seen.log r.unclosed));
        within = λ closed. editions_start known.told.log seen.log
            (within_closed known.told.log known.all.log seen.log (r.told.last closed) r.unclosed
            r.begins);
      }

  -- what is known after a step
  pub told_more : (before after : Sight E) (known : Knowledge E) (all : Token E) → IsTold known
      → SeesMore before after known.all all → IsTold (record known { all = all })
  told_more before after known all t s = record {
    told_book = t.told_book;
    all_book = s.all_book ∙ t.all_book;
    one = t.one;
    first = t.first;
    number = t.number;
    informed = t.informed;
    unclosed = t.unclosed;
    begins = starts_then known.told.log known.all.log all.log t.begins s.kept;
    last = λ closed. closed_all known.told.log all.log t.unclosed s.settled
        (subst (λ (l : List (Option E)). StartsWith all.log l) (t.last closed) s.kept);
  }

  pub sees_then : (before mid after : Sight E) (known some all : Token E)
      → SeesMore before mid known some → SeesMore mid after some all → SeesMore before after known
      all
  sees_then before mid after known some all s t = record {
    later = starts_then before.seen.log mid.seen.log after.seen.log s.later t.later;
    opened = t.opened;
    book = t.book ∙ s.book;
    unclosed = t.unclosed;
    some = t.some;
    all_book = t.all_book ∙ s.all_book;
    kept = starts_then known.log some.log all.log s.kept t.kept;
    begins = t.begins;
    settled = t.settled;
  }

  pub sees_from : (before mid after : Sight E) (known some all : Token E)
      → Glimpses before mid known some → SeesMore mid after some all → SeesMore before after known
      all
  sees_from before mid after known some all g t =
      ⊎_elim (λ (s : SeesNothing before mid known some). subst (λ (z : Token E). SeesMore before
      after z all) s.1 (subst (λ (z : Sight E). SeesMore z after some all) s.0 t))
      (λ (s : SeesMore before mid known some). sees_then before mid after known some all s t) g.sees

  pub glimpses_from : (before mid after : Sight E) (known some all : Token E)
      → Glimpses before mid known some → SeesNothing mid after some all
      → Glimpses before after known all
  glimpses_from before mid after known some all g n =
      subst (λ (z : Token E). Glimpses before after known z) (sym n.1)
      (subst (λ (z : Sight E). Glimpses before z known some) (sym n.0) g)

  -- a reader sees no less than it had seen
  pub seen_later : (before after : Sight E) (seen : Token E) (count : ℕ) (known : Knowledge E)
      (all : Token E) → IsReader before seen count known → SeesMore before after known.all all
      → StartsWith after.seen.log seen.log
  seen_later before after seen count known all r s = starts_then seen.log before.seen.log
      after.seen.log r.within s.later

  longer : (before after : Sight E) (seen : Token E) (count : ℕ) (known : Knowledge E)
      (all : Token E) → IsReader before seen count known → SeesMore before after known.all all
      → length seen.log ≤ length after.seen.log
  longer before after seen count known all r s = prefix_length seen.log after.seen.log
      (seen_later before after seen count known all r s)

  pub late_enough : (before : Sight E) (seen : Token E) (count : ℕ) (known : Knowledge E)
      → IsReader before seen count known → known.number ≤ count → known.number
      ≤ length before.seen.log
  late_enough before seen count known r le = omega (
    arith,
    le,
    r.counted,
    prefix_length seen.log
        before.seen.log r.within,
  )

  module _ (before after : Sight E) (seen : Token E) (count : ℕ) (known : Knowledge E)
      (all noted : Token E) (number : ℕ) (r : IsReader before seen count known)
      (s : SeesMore before after known.all all) (n : IsNoted after noted number) where
    stands : AreNumbers after.entries (length after.seen.log)
        → AreNumbers after.looks (length after.seen.log)
        → IsReader after noted number (record known { all = all })
    stands entries looks =
        let P : List ℕ → List (Option E) → Type 0 = λ numbers log.
        All (λ entry. (1 ≤ entry) × (entry ≤ length log)) numbers in
        record {
          told = told_more before after known all r.told s;
          opened = s.opened;
          book = s.book ∙ r.book;
          counted = n.counted ∙ ap length (sym n.is);
          unclosed = subst (λ (l : List (Option E)). IsOpen l) (sym n.is) s.unclosed;
          begins = subst (λ (l : List (Option E)). StartsWith all.log l) (sym n.is) s.begins;
          within = ([], sym n.is ∙ sym (append-nil noted.log));
          rising = entries.rising;
          entered = subst (P after.entries) (sym n.is) entries.within;
          rising_looks = looks.rising;
          looked = subst (P after.looks) (sym n.is) looks.within;
        }

    pub looked : after.entries ≡ before.entries
        → after.looks ≡ before.looks ++ length after.seen.log ∷ []
        → IsReader after noted number (record known { all = all })
    looked same notes =
        let le = longer before after seen count known all r s in
        stands
        (same_numbers before.entries after.entries (length seen.log) (length after.seen.log) le same
        (record { rising = r.rising; within = r.entered }))
        (one_more before.looks after.looks (length seen.log) (length after.seen.log) s.some le notes
        (record { rising = r.rising_looks; within = r.looked }))

    pub entered : after.entries ≡ before.entries ++ length after.seen.log ∷ []
        → after.looks ≡ before.looks
        → IsReader after noted number (record known { all = all })
    entered notes same =
        let le = longer before after seen count known all r s in
        stands
        (one_more before.entries after.entries (length seen.log) (length after.seen.log) s.some le
        notes (record { rising = r.rising; within = r.entered }))
        (same_numbers before.looks after.looks (length seen.log) (length after.seen.log) le same
        (record { rising = r.rising_looks; within = r.looked }))

    -- what was told is seen, and nothing else where it is closed
    pub informed : known.number ≤ length after.seen.log → StartsWith (editions_of noted.log)
        (editions_of known.told.log)
    informed late = editions_start noted.log known.told.log
        (subst (λ (l : List (Option E)). StartsWith l known.told.log) (sym n.is)
        (shorter known.told.log after.seen.log all.log (starts_then known.told.log known.all.log
        all.log r.told.begins s.kept) s.begins (omega (arith, late, r.told.number))))

    pub last : known.number ≤ length after.seen.log → known.closed ≡ true → editions_of noted.log
        ≡ editions_of known.told.log
    last late closed =
        let t = told_more before after known all r.told s in
        ap editions_of (n.is ∙ prefix_whole after.seen.log known.told.log
        (within_closed known.told.log all.log after.seen.log (t.last closed) s.unclosed
        s.begins) (omega (arith, late, r.told.number)))

    pub later : StartsWith (editions_of noted.log) (editions_of seen.log)
    later = editions_start noted.log seen.log
        (subst (λ (l : List (Option E)). StartsWith l seen.log) (sym n.is)
        (seen_later before after seen count known all r s))

    pub only_sees : IsReader after noted number (record known { all = all })
        → OnlySees (view_by before seen known) (view_by after noted (record known { all = all }))
    only_sees is = record {
      opening = refl;
      later = later;
      told = refl;
      closed = refl;
      view = view_holds after noted number (record known { all = all }) is;
    }

    pub gains : after.entries ≡ before.entries ++ length after.seen.log ∷ []
        → after.entries ≡ before.entries ++ length (editions_of noted.log) ∷ []
    gains notes = notes ∙ ap (λ k. before.entries ++ k ∷ [])
        (sym (ap (λ l. length (editions_of l)) n.is ∙ editions_length after.seen.log s.unclosed))

    pub gains_look : after.looks ≡ before.looks ++ length after.seen.log ∷ []
        → after.looks ≡ before.looks ++ length (editions_of noted.log) ∷ []
    gains_look notes = notes ∙ ap (λ k. before.looks ++ k ∷ [])
        (sym (ap (λ l. length (editions_of l)) n.is ∙ editions_length after.seen.log s.unclosed))

    pub number_is : length after.seen.log ≡ length (editions_of noted.log)
    number_is = sym (ap (λ l. length (editions_of l)) n.is ∙ editions_length after.seen.log
        s.unclosed)

    pub newest : (edition : E) → EndsWith after.seen.log (Some edition)
        → EndsWith (editions_of noted.log) edition
    newest edition ends = editions_end noted.log edition
        (subst (λ (l : List (Option E)). EndsWith l (Some edition)) (sym n.is) ends)

  -- the reader keeps what it has seen, whatever the sight saw
  pub stayed : (before after : Sight E) (seen : Token E) (count : ℕ) (known : Knowledge E)
      (all : Token E) → IsReader before seen count known → after.entries ≡ before.entries
      → after.looks ≡ before.looks
      → SeesNothing before after known.all all ⊎ SeesMore before after known.all all
      → IsReader after seen count (record known { all = all })
  stayed before after seen count known all r same same_looks step = ⊎_elim
      (λ (t : SeesNothing before after known.all all). subst (λ (sight : Sight E). IsReader sight
      seen count (record known { all = all })) (sym t.0)
      (subst (λ (token : Token E). IsReader before seen count (record known { all = token }))
      (sym t.1) r))
      (λ (s : SeesMore before after known.all all). record {
        told = told_more before after known all r.told s;
        opened = s.opened;
        book = s.book ∙ r.book;
        counted = r.counted;
        unclosed = r.unclosed;
        begins = starts_then seen.log known.all.log all.log r.begins s.kept;
        within = seen_later before after seen count known all r s;
        rising = subst IsNonDecreasing (sym same) r.rising;
        entered = subst (All (λ number. (1 ≤ number) × (number ≤ length seen.log)))
            (sym same) r.entered;
        rising_looks = subst IsNonDecreasing (sym same_looks) r.rising_looks;
        looked = subst (All (λ number. (1 ≤ number) × (number ≤ length seen.log)))
            (sym same_looks) r.looked;
      }) step

  pub only_sees-stayed : (before after : Sight E) (seen : Token E) (count : ℕ)
      (known : Knowledge E) (all : Token E)
      → IsReader after seen count (record known { all = all })
      → OnlySees (view_by before seen known) (view_by after seen (record known { all = all }))
  only_sees-stayed before after seen count known all is = record {
    opening = refl;
    later = editions_same seen.log seen.log refl;
    told = refl;
    closed = refl;
    view = view_holds after seen count (record known { all = all }) is;
  }

-- what holds of an answer, by what it is
pub ok_of : {T X : Type 0} (r : Result T X) (x : T) (P : Type 0) → r ≡ Ok x → OnOk r P → P
ok_of {T} {X} r x P is h = subst (λ (r : Result T X). OnOk r P) is h

pub if_of : {T X : Type 0} (r : Result T X) (x : T) (P : T → Type 0) → r ≡ Ok x → IfOk r P → P x
if_of {T} {X} r x P is h = subst (λ (r : Result T X). IfOk r P) is h

pub err_of : {T X : Type 0} (r : Result T X) (x : X) (P : Type 0) → r ≡ Err x → OnErr r P → P
err_of {T} {X} r x P is h = subst (λ (r : Result T X). OnErr r P) is h

pub on_ok_always : {T X : Type 0} (r : Result T X) (P : Type 0) → P → OnOk r P
on_ok_always (Ok x) P p = p
on_ok_always (Err x) P p = tt

pub on_err_always : {T X : Type 0} (r : Result T X) (P : Type 0) → P → OnErr r P
on_err_always (Ok x) P p = tt
on_err_always (Err x) P p = p
