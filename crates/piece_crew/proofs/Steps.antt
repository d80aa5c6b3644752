-- Each kind of step keeps the rule of the claim word.
use Rattle.std.proofs.Common.{◌≡◌, ◌≢◌, ℕ, zero, suc, ◌+◌, ◌%◌, ◌<◌, ◌≤◌, min, List, [], ◌∷◌, ◌++◌, length, set, slice_index, refl, sym, ap, ◌∙◌, subst, ⊎_elim, arith, if◌then◌else◌, ◌==◌, length-append}
use native.Mathlib.Decide.{dec_lt}
use mathlib.Core.Option.{Option, some, none, some-injective, some-ne-none}
use lib.ListN.{get_elem?}
use Rattle.atomic_table.specs.Table.{State, Act, Allows, Splits, Joins, Valid, opening, stepped, carried_after, keeps, step}
use Rattle.atomic_table.proofs.Lists.{at_set, at_snoc, set_again}
use Rattle.piece_crew.specs.declared.rule.View.{View}
use Rattle.piece_crew.specs.declared.rule.Terms.{Terms}
use Rattle.piece_crew.specs.declared.rule.TheConstants.{MAX_TOTAL, MAX_WORKERS}
use Rattle.piece_crew.specs.Claims.{once_below, times}
use Rattle.piece_crew.specs.Rule.{Keeps, Fits, Draws, Reads, drew, joined, left, missed, opened, right, spent, total_of}
use Rattle.piece_crew.proofs.Counting.{total_set, total_same, total_at, total_le, total_push, total_only, times-append, below-more, below-past, all_below}

-- what a claimed number adds to the counts
plus_drawn : (before after old new once more : ℕ) → after + old ≡ before + new → new ≡ old + more → before ≡ once → after ≡ once + more
plus_drawn before after old new once more a b c = omega arith

one_more : (x n : ℕ) → times x (n ∷ []) ≡ (if n == x then 1 else 0)
one_more x n = omega arith

drawn_counts : (total n id : ℕ) (v : View) (views : List View) → n < total → get_elem? views id ≡ some v
    → ((x : ℕ) → total_of (λ v. times x v.claimed) views ≡ once_below x (min n total))
    → (x : ℕ) → total_of (λ v. times x v.claimed) (set views id (drew v n)) ≡ once_below x (min (n + 1) total)
drawn_counts total n id v views less at counts x =
    let m : min n total ≡ n = omega arith in
    let m' : n + 1 ≡ min (n + 1) total = omega arith in
    plus_drawn _ _ _ _ (once_below x n) (if n == x then 1 else 0) (total_set (λ u. times x u.claimed) views id v (drew v n) at)
    (times-append x v.claimed (n ∷ []) ∙ ap (λ k. times x v.claimed + k) (one_more x n)) (counts x ∙ ap (once_below x) m)
    ∙ sym (below-more x n) ∙ ap (once_below x) m'

fits_set : (terms : Terms) (views : List View) (id : ℕ) (w : View) → ((seat : ℕ) (v : View) → get_elem? views seat ≡ some v → Fits terms v) → Fits terms w
    → (seat : ℕ) (v : View) → get_elem? (set views id w) seat ≡ some v → Fits terms v
fits_set terms views id w each mine j u e = ⊎_elim (λ (t : (j ≡ id) × (w ≡ u)). subst (Fits terms) t.1 mine) (λ (t : (j ≢ id) × (get_elem? views j ≡ some u)). each j u t.1) (at_set views id j w u e)

fits_push : (terms : Terms) (views : List View) (w : View) → ((seat : ℕ) (v : View) → get_elem? views seat ≡ some v → Fits terms v) → Fits terms w
    → (seat : ℕ) (v : View) → get_elem? (views ++ w ∷ []) seat ≡ some v → Fits terms v
fits_push terms views w each mine j u e = ⊎_elim (λ (t : get_elem? views j ≡ some u). each j u t) (λ (t : w ≡ u). subst (Fits terms) t mine) (at_snoc views w u j e)

-- the table at one word
abbrev table : ℕ → List (Option (Unit {0})) → List View → State (Unit {0}) View
table n homes views = record { words = n ∷ []; homes = homes; views = views }

opened_fits : (terms : Terms) (seat : ℕ) (v : View) → get_elem? (opened terms ∷ []) seat ≡ some v → Fits terms v
opened_fits terms zero v at = subst (Fits terms) (some-injective (opened terms) v at) (record { total = λ _. refl; made = λ _. refl; nones = omega arith; spent = λ _. refl })
opened_fits terms (suc seat) v at = absurd (some-ne-none v (sym at))

-- the claim word at the start
pub opens : (terms : Terms) → terms.total ≤ MAX_TOTAL → terms.seats ≤ MAX_WORKERS → Keeps terms (opening (0 ∷ []) [] (opened terms))
opens terms total seats = record {
  small = (total, seats);
  word = (0, refl, omega arith, λ x. sym (below-past x (min 0 terms.total) (omega arith)));
  seats = omega arith;
  each = λ seat v at. opened_fits terms seat v at;
}

abbrev Drawn : Terms → ℕ → ℕ → View → List (ℕ × Unit {0}) → ℕ → List (Option (Unit {0})) → List View → Type 0
Drawn terms slots id v c n homes views = (w : View) × (a : Act (Unit {0})) × Valid homes c a × Keeps terms (stepped (table n homes views) 0 ((n + 1) % 18446744073709551616) id c w a) × Draws (step slots 0 1 0 none) (v, c) n (w, carried_after c a)

draws_at : (terms : Terms) (slots id : ℕ) (v : View) (c : List (ℕ × Unit {0})) (n : ℕ) (homes : List (Option (Unit {0}))) (views : List View) → length v.past < v.seats
    → get_elem? views id ≡ some v → (terms.total ≤ MAX_TOTAL) × (terms.seats ≤ MAX_WORKERS)
    → n ≡ min n terms.total + total_of (λ v. length v.past) views
    → ((x : ℕ) → total_of (λ v. times x v.claimed) views ≡ once_below x (min n terms.total))
    → total_of (λ v. v.seats) views ≡ terms.seats
    → ((seat : ℕ) (v : View) → get_elem? views seat ≡ some v → Fits terms v)
    → Dec (n < terms.total) → Drawn terms slots id v c n homes views
draws_at terms slots id v c n homes views room at small word counts seats each (yes less) =
    let w = drew v n in
    let fits = each id v at in
    let total : v.total ≡ terms.total = fits.total (omega arith) in
    let next : (n + 1) % 18446744073709551616 ≡ n + 1 = omega arith in
    let word' : n + 1 ≡ min (n + 1) terms.total + total_of (λ v. length v.past) (set views id w) = omega (arith, total_same (λ v. length v.past) views id v w at refl) in
    let below : (x : ℕ) → n ≤ x → times x v.claimed ≡ 0 =
    λ x le. let a = total_at (λ u. times x u.claimed) views id v at in let b = counts x in let m = below-past x (min n terms.total) (omega arith) in omega arith in (
      w,
      keeps,
      tt,
      record {
        small = small;
        word = (n + 1, ap (λ (k : ℕ). k ∷ []) next, word', drawn_counts terms.total n id v views less at counts);
        seats = total_same (λ v. v.seats) views id v w at refl ∙ seats;
        each = fits_set terms views id w each (record { total = fits.total; made = fits.made; nones = fits.nones; spent = λ none. absurd (omega arith) });
      },
      record { drawn = λ _. (refl, all_below n v.claimed below); none = λ past. absurd (omega (arith, total)); slots = refl },
    )
draws_at terms slots id v c n homes views room at small word counts seats each (no past) =
    let w = missed v n in
    let fits = each id v at in
    let total : v.total ≡ terms.total = fits.total (omega arith) in
    let few : total_of (λ v. length v.past) views ≤ total_of (λ v. v.seats) views = total_le (λ v. length v.past) (λ v. v.seats) views (λ seat u e. (each seat u e).nones) in
    let bound : n + 1 < 18446744073709551616 = omega arith in
    let next : (n + 1) % 18446744073709551616 ≡ n + 1 = omega arith in
    let longer : length w.past ≡ length v.past + 1 = length-append v.past (n ∷ []) in
    let more : total_of (λ v. length v.past) (set views id w) + length v.past ≡ total_of (λ v. length v.past) views + length w.past = total_set (λ v. length v.past) views id v w at in
    let word' : n + 1 ≡ min (n + 1) terms.total + total_of (λ v. length v.past) (set views id w) = omega arith in
    let m : min n terms.total ≡ min (n + 1) terms.total = omega arith in (
      w,
      keeps,
      tt,
      record {
        small = small;
        word = (n + 1, ap (λ (k : ℕ). k ∷ []) next, word', λ x. total_same (λ v. times x v.claimed) views id v w at refl ∙ counts x ∙ ap (once_below x) m);
        seats = total_same (λ v. v.seats) views id v w at refl ∙ seats;
        each = fits_set terms views id w each (record { total = fits.total; made = fits.made; nones = omega arith; spent = fits.spent });
      },
      record { drawn = λ less. absurd (past (omega (arith, total))); none = λ _. refl; slots = refl },
    )

pub draws : (terms : Terms) (slots id : ℕ) (v : View) (c : List (ℕ × Unit {0})) → length v.past < v.seats
    → Allows (Keeps terms) slots id (v, c) 0 (λ n. (n + 1) % 18446744073709551616) (Draws (step slots 0 1 0 none) (v, c))
draws terms slots id v c room s g deep at fits =
    let n = g.word.0 in
    let P : List ℕ → Type 0 = λ ws. (w : View) × (a : Act (Unit {0})) × Valid s.homes c a
    × Keeps terms (stepped (record { words = ws; homes = s.homes; views = s.views }) 0 ((slice_index ws 0 + 1) % 18446744073709551616) id c w a)
    × Draws (step slots 0 1 0 none) (v, c) (slice_index ws 0) (w, carried_after c a) in
    subst P (sym g.word.1) (draws_at terms slots id v c n s.homes s.views room at g.small g.word.2 g.word.3 g.seats g.each (dec_lt n terms.total))

-- a load by the seat of a view that stands for all seats
abbrev Read : Terms → ℕ → ℕ → View → List (ℕ × Unit {0}) → ℕ → List (Option (Unit {0})) → List View → Type 0
Read terms slots id v c n homes views = (w : View) × (a : Act (Unit {0})) × Valid homes c a × Keeps terms (stepped (table n homes views) 0 n id c w a) × Reads (step slots 0 0 0 none) (v, c) n (w, carried_after c a)

reads_at : (terms : Terms) (slots id : ℕ) (v : View) (c : List (ℕ × Unit {0})) (n : ℕ) (homes : List (Option (Unit {0}))) (views : List View)
    → get_elem? views id ≡ some v → (terms.total ≤ MAX_TOTAL) × (terms.seats ≤ MAX_WORKERS)
    → n ≡ min n terms.total + total_of (λ v. length v.past) views
    → ((x : ℕ) → total_of (λ v. times x v.claimed) views ≡ once_below x (min n terms.total))
    → total_of (λ v. v.seats) views ≡ terms.seats
    → ((seat : ℕ) (v : View) → get_elem? views seat ≡ some v → Fits terms v)
    → Read terms slots id v c n homes views
reads_at terms slots id v c n homes views at small word counts seats each =
    let fits = each id v at in
    let Q : List View → Type 0 = λ vs. Keeps terms (table n homes vs) in
    let whole : 0 < v.seats → v.seats ≡ v.made → total_of (λ v. v.seats) views ≡ v.seats =
    λ have all. let m = fits.made have in omega arith in (
      v,
      keeps,
      tt,
      subst Q (sym (set_again views id v at)) (record { small = small; word = (n, refl, word, counts); seats = seats; each = each }),
      record {
        same = refl;
        claimed = λ have all x. sym (total_only (λ v. times x v.claimed) (λ v. v.seats) views id v at (whole have all) (λ j u there none. ap (times x) ((each j u there).spent none)))
            ∙ counts x ∙ ap (λ k. once_below x (min n k)) (sym (fits.total have));
        nones = λ have all.
            let nones = total_only (λ v. length v.past) (λ v. v.seats) views id v at (whole have all) (λ j u there none. let few = (each j u there).nones in omega arith) in
            let total = fits.total have in
            omega arith;
      },
    )

pub reads : (terms : Terms) (slots id : ℕ) (v : View) (c : List (ℕ × Unit {0}))
    → Allows (Keeps terms) slots id (v, c) 0 (λ n. n) (Reads (step slots 0 0 0 none) (v, c))
reads terms slots id v c s g deep at fits =
    let P : List ℕ → Type 0 = λ ws. (w : View) × (a : Act (Unit {0})) × Valid s.homes c a
    × Keeps terms (stepped (record { words = ws; homes = s.homes; views = s.views }) 0 (slice_index ws 0) id c w a)
    × Reads (step slots 0 0 0 none) (v, c) (slice_index ws 0) (w, carried_after c a) in
    subst P (sym g.word.1) (reads_at terms slots id v c g.word.0 s.homes s.views at g.small g.word.2 g.word.3 g.seats g.each)

-- a view is cut in two
split_totals : (f : View → ℕ) (views : List View) (id : ℕ) (v w u : View) → get_elem? views id ≡ some v → f w + f u ≡ f v → total_of f (set views id w ++ u ∷ []) ≡ total_of f views
split_totals f views id v w u at parts =
    let a = total_set f views id v w at in
    let b = total_push f (set views id w) u in
    omega arith

pub splits : (terms : Terms) (id : ℕ) (v : View) → 2 ≤ v.seats → v.past ≡ [] → Splits (Keeps terms) id v (left v) (right v)
splits terms id v several unused s g at =
    let fits = g.each id v at in
    let total : v.total ≡ terms.total = fits.total (omega arith) in
    let made : v.made ≡ terms.seats = fits.made (omega arith) in
    let none : length v.past ≡ 0 = ap length unused in
    let nones = split_totals (λ v. length v.past) s.views id v (left v) (right v) at (omega arith) in
    let seats = split_totals (λ v. v.seats) s.views id v (left v) (right v) at (omega arith) in
    record {
      small = g.small;
      word = (
        g.word.0,
        g.word.1,
        g.word.2 ∙ ap (λ k. min g.word.0 terms.total + k) (sym nones),
        λ x. split_totals (λ v. times x v.claimed) s.views id v (left v) (right v) at (omega arith) ∙ g.word.3 x,
      );
      seats = seats ∙ g.seats;
      each = fits_push terms (set s.views id (left v)) (right v)
          (fits_set terms s.views id (left v) g.each (record { total = λ _. total; made = λ _. made; nones = omega arith; spent = λ gone. absurd (omega arith) }))
          (record { total = λ _. total; made = λ _. made; nones = omega arith; spent = λ gone. absurd (omega arith) });
    }

-- two views become one
join_totals : (f : View → ℕ) (views : List View) (id other : ℕ) (v w both spent : View) → get_elem? views id ≡ some v → get_elem? (set views id both) other ≡ some w → f both + f spent ≡ f v + f w
    → total_of f (set (set views id both) other spent) ≡ total_of f views
join_totals f views id other v w both spent at there parts =
    let a = total_set f views id v both at in
    let b = total_set f (set views id both) other w spent there in
    omega arith

pub joins : (terms : Terms) (id : ℕ) (v : View) (other : ℕ) (w : View) → 0 < v.seats → Joins (Keeps terms) id v other w (joined v w) spent
joins terms id v other w have s g at apart there =
    let fits = g.each id v at in
    let kept : get_elem? s.views other ≡ some w = ⊎_elim
    (λ (t : (other ≡ id) × (joined v w ≡ w)). absurd (apart t.0))
    (λ (t : (other ≢ id) × (get_elem? s.views other ≡ some w)). t.1)
    (at_set s.views id other (joined v w) w there) in
    let fits' = g.each other w kept in
    let nones = join_totals (λ v. length v.past) s.views id other v w (joined v w) spent at there (omega (arith, length-append v.past w.past)) in
    let seats = join_totals (λ v. v.seats) s.views id other v w (joined v w) spent at there (omega arith) in
    record {
      small = g.small;
      word = (
        g.word.0,
        g.word.1,
        g.word.2 ∙ ap (λ k. min g.word.0 terms.total + k) (sym nones),
        λ x. join_totals (λ v. times x v.claimed) s.views id other v w (joined v w) spent at there (omega (arith, times-append x v.claimed w.claimed)) ∙ g.word.3 x,
      );
      seats = seats ∙ g.seats;
      each = fits_set terms (set s.views id (joined v w)) other spent
          (fits_set terms s.views id (joined v w) g.each (record {
            total = λ _. fits.total have;
            made = λ _. fits.made have;
            nones = (let a = fits.nones in let b = fits'.nones in omega (arith, length-append v.past w.past));
            spent = λ gone. absurd (omega arith);
          }))
          (record { total = λ gone. absurd (omega arith); made = λ gone. absurd (omega arith); nones = omega arith; spent = λ _. refl });
    }
