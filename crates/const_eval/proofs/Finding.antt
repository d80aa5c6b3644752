-- How the values of constants are found.
use Rattle.std.proofs.Common.{◌≡◌, ◌∙◌, ℕ, zero, suc, List, [], ◌∷◌, ◌≤◌, ◌<◌, ◌+◌, ◌==◌, ◌||◌}
use Rattle.std.proofs.Common.{length, length-take, take, get_or, Bool, true, false, refl, sym, ap}
use Rattle.std.proofs.Common.{subst, arith, ℤ, pos, negsuc}
use Rattle.std.specs.Prelude.{Option, Some, None, is_some, option_map, codes, if◌then◌else◌}
use Rattle.std.specs.Prelude.{MatchBool, sum_by, String, string_bytes, unwrap_or, ◌↔◌}
use Rattle.std.specs.List.{filter}
use Rattle.std.specs.Str.{bytes_eq}
use Rattle.std.proofs.lemmas.Slice.Eq.{bytes_eq-Decides}
use Rattle.std.proofs.lemmas.Bool.Decides.{Decides-eqb}
use Rattle.std.specs.BTreeMap.{BTreeMap, get_by_text, Updates}
use Rattle.std.specs.String.{string_cmp}
use Rattle.std.specs.declared.alloc.Global.{Global}
use Rattle.std.proofs.lemmas.List.{get_or_default}
use Rattle.std.proofs.lemmas.List.Sums.{sum_by-cons}
use Rattle.std.proofs.lemmas.Map.Text.{btree_map_updates_text}
use borrow.Author.Count.{below_more}
use Rattle.const_eval.specs.declared.constants.ConstFact.{ConstFact}
use Rattle.const_eval.specs.declared.value.Value.{Value}
use Rattle.const_eval.specs.Expressions.{Expression, operand, parenthesized, unary, binary, IsWorth}
use Rattle.const_eval.specs.Expressions.{IsOperandWorth, an_integer, a_rune, a_name, HasValue}
use Rattle.const_eval.specs.Constants.{in_place, IsOnly, IsConstantWithin, IsConstant}
use Rattle.const_eval.specs.Reading.{name_value, operand_value}
use Rattle.const_eval.specs.Machine.{values, whole}
use Rattle.const_eval.specs.Progress.{number_of, run_value, fact_value, count_named, news_from}
use Rattle.const_eval.specs.Progress.{news_of, natural, IsKnown, AreCounts, missing, IsClosed}
use Rattle.const_eval.specs.Progress.{Attempts, Passes}
use Rattle.go_literals.proofs.Options.{some_is}
use Rattle.const_eval.proofs.OperandLaws.{Names}
use Rattle.const_eval.proofs.WorthLaws.{has_value, is_value}

-- ---- worth grows with what names are worth

module _ (R S : List ℕ → ℤ → Type 0) (h : (t : List ℕ) (v : ℤ) → R t v → S t v) where
  operand_mono : (text : List ℕ) (n : ℤ) → IsOperandWorth R text n → IsOperandWorth S text n
  operand_mono text n (an_integer i valid number p) = an_integer i valid number p
  operand_mono text n (a_rune e valid number p) = a_rune e valid number p
  operand_mono text n (a_name t number b p) = a_name t number b (h t number p)

  worth_mono : (e : Expression) (n : ℤ) → IsWorth R e n → IsWorth S e n
  worth_mono (operand text) n w = operand_mono text n w
  worth_mono (parenthesized inner) n w = worth_mono inner n w
  worth_mono (unary op inner) n w = (w.0, worth_mono inner w.0 w.1, w.2)
  worth_mono (binary op left right) n w =
      (w.0, w.1, worth_mono left w.0 w.2, worth_mono right w.1 w.3, w.4)

  value_mono : (run : List (List ℕ)) (n : ℤ) → HasValue R run n → HasValue S run n
  value_mono run n w = record {
    tree = w.tree;
    valid = w.valid;
    printed = w.printed;
    few_levels =
        w.few_levels;
    worth = worth_mono w.tree n w.worth;
  }

  place_mono : (iota : ℕ) (t : List ℕ) (v : ℤ) → in_place iota R t v → in_place iota S t v
  place_mono iota t v w =
      (elim (bytes_eq t (codes "iota")) as (λ b. MatchBool b (v ≡ pos iota) (R t v)
      → MatchBool b (v ≡ pos iota) (S t v)) [
        | true ↦ λ q. q
        | false ↦ λ q. h t v q
      ]) w

-- ---- one number of steps for all names of a run

abbrev more : ℕ → ℕ → ℕ
more zero j = j
more (suc i) j = suc (more i j)

more_zero : (i : ℕ) → more i zero ≡ i
more_zero zero = refl
more_zero (suc i) = ap suc (more_zero i)

more_suc : (i j : ℕ) → more i (suc j) ≡ suc (more i j)
more_suc zero j = refl
more_suc (suc i) j = ap suc (more_suc i j)

more_comm : (i j : ℕ) → more i j ≡ more j i
more_comm zero j = sym (more_zero j)
more_comm (suc i) j = ap suc (more_comm i j) ∙ sym (more_suc j i)

module _ (facts : List ConstFact) where
  within_step : (i : ℕ) (name : List ℕ) (n : ℤ) → IsConstantWithin facts i name n
      → IsConstantWithin facts (suc i) name n
  within_step zero name n w = absurd w
  within_step (suc i) name n w = (
    w.0,
    w.1,
    value_mono (in_place w.0.iota (IsConstantWithin facts i))
        (in_place w.0.iota (IsConstantWithin facts (suc i)))
        (place_mono (IsConstantWithin facts i) (IsConstantWithin facts (suc i)) (within_step i)
        w.0.iota) w.0.value n w.2,
  )

  within_more : (i j : ℕ) (name : List ℕ) (n : ℤ) → IsConstantWithin facts j name n
      → IsConstantWithin facts (more i j) name n
  within_more zero j name n w = w
  within_more (suc i) j name n w = within_step (more i j) name n (within_more i j name n w)

  abbrev Placed : ℕ → ℕ → List ℕ → ℤ → Type 0
  Placed iota i = in_place iota (IsConstantWithin facts i)

  placed_more : (iota i j : ℕ) (t : List ℕ) (v : ℤ) → Placed iota j t v → Placed iota (more i j) t v
  placed_more iota i j = place_mono (IsConstantWithin facts j) (IsConstantWithin facts (more i j))
      (within_more i j) iota

  operand_uniform : (iota : ℕ) (text : List ℕ) (n : ℤ)
      → IsOperandWorth (in_place iota (IsConstant facts)) text n → (i : ℕ)
      × IsOperandWorth (Placed iota i) text n
  operand_uniform iota text n (an_integer i valid number p) = (0, an_integer i valid number p)
  operand_uniform iota text n (a_rune e valid number p) = (0, a_rune e valid number p)
  operand_uniform iota text n (a_name t number b p) =
      let q : (i : ℕ) × Placed iota i t number =
      (elim (bytes_eq t (codes "iota")) as
      (λ k. MatchBool k (number ≡ pos iota) (IsConstant facts t number)
      → (i : ℕ) × MatchBool k (number ≡ pos iota) (IsConstantWithin facts i t number)) [
        | true ↦ λ q. (0, q)
        | false ↦ λ q. q
      ]) p in
      (q.0, a_name t number b q.1)

  uniform : (iota : ℕ) (e : Expression) (n : ℤ) → IsWorth (in_place iota (IsConstant facts)) e n
      → (i : ℕ) × IsWorth (Placed iota i) e n
  uniform iota (operand text) n w = operand_uniform iota text n w
  uniform iota (parenthesized inner) n w = uniform iota inner n w
  uniform iota (unary op inner) n w = let u = uniform iota inner w.0 w.1 in (u.0, (w.0, u.1, w.2))
  uniform iota (binary op left right) n w =
      let a = uniform iota left w.0 w.2 in
      let b = uniform iota right w.1 w.3 in (
        more a.0 b.0,
        (
          w.0,
          w.1,
          worth_mono (Placed iota a.0) (Placed iota (more a.0 b.0))
              (λ t v q. subst (λ k. Placed iota k t v) (more_comm b.0 a.0)
              (placed_more iota b.0 a.0 t v q)) left w.0 a.1,
          worth_mono (Placed iota b.0) (Placed iota (more a.0 b.0)) (placed_more iota a.0 b.0) right
              w.1 b.1,
          w.4,
        ),
      )

  is_constant : (name : List ℕ) (fact : ConstFact) → IsOnly facts name fact → (n : ℤ)
      → HasValue (in_place fact.iota (IsConstant facts)) fact.value n → IsConstant facts name n
  is_constant name fact only n w =
      let u = uniform fact.iota w.tree n w.worth in (
        suc u.0,
        (
          fact,
          only,
          record {
            tree = w.tree;
            valid = w.valid;
            printed =
                w.printed;
            few_levels = w.few_levels;
            worth = u.1;
          },
        ),
      )

-- ---- values of runs

map_some : (o : Option Value) (n : ℤ) → option_map number_of o ≡ Some n → (v : Value) × (o ≡ Some v)
    × (v.number ≡ n)
map_some None n p = cc
map_some (Some v) n p = (v, refl, some_is v.number n p)

pub run_has : (names : List ℕ → Option ℤ) (run : List (List ℕ)) (n : ℤ)
    → run_value names run ≡ Some n → HasValue (Names names) run n
run_has names run n p =
    let q = map_some (whole values (operand_value names) run) n p in
    subst (HasValue (Names names) run) q.2 (has_value names run q.0 q.1)

pub run_is : (names : List ℕ → Option ℤ) (run : List (List ℕ)) (n : ℤ)
    → HasValue (Names names) run n → run_value names run ≡ Some n
run_is names run n h = let q = is_value names run n h in rw q.1 (ap Some q.2)

abbrev Extends : (List ℕ → Option ℤ) → (List ℕ → Option ℤ) → Type 0
Extends known new = (t : List ℕ) (v : ℤ) → known t ≡ Some v → new t ≡ Some v

placed_name : (iota : ℕ) (known : List ℕ → Option ℤ) (R : List ℕ → ℤ → Type 0)
    → ((t : List ℕ) (v : ℤ) → known t ≡ Some v → R t v)
    → (t : List ℕ) (v : ℤ) → name_value (Some iota) known t ≡ Some v → in_place iota R t v
placed_name iota known R h t v p =
    (elim (bytes_eq t (codes "iota")) as (λ b. (if b then Some (pos iota) else known t) ≡ Some v
    → MatchBool b (v ≡ pos iota) (R t v)) [
      | true ↦ λ q. sym (some_is (pos iota) v q)
      | false ↦ λ q. h t v q
    ]) p

name_placed : (iota : ℕ) (known : List ℕ → Option ℤ) (R : List ℕ → ℤ → Type 0)
    → ((t : List ℕ) (v : ℤ) → R t v → known t ≡ Some v)
    → (t : List ℕ) (v : ℤ) → in_place iota R t v → name_value (Some iota) known t ≡ Some v
name_placed iota known R h t v p =
    (elim (bytes_eq t (codes "iota")) as (λ b. MatchBool b (v ≡ pos iota) (R t v)
    → (if b then Some (pos iota) else known t) ≡ Some v) [
      | true ↦ λ q. ap Some (sym q)
      | false ↦ λ q. h t v q
    ]) p

fact_grows : (known new : List ℕ → Option ℤ) → Extends known new → (fact : ConstFact) (n : ℤ)
    → fact_value known fact ≡ Some n → fact_value new fact ≡ Some n
fact_grows known new grows fact n p =
    run_is (name_value (Some fact.iota) new) fact.value n
    (value_mono (Names (name_value (Some fact.iota) known))
    (Names (name_value (Some fact.iota) new))
    (λ t v q. name_placed fact.iota new (Names known) grows t v
    (placed_name fact.iota known (Names known) (λ s w r. r) t v q))
    fact.value n (run_has (name_value (Some fact.iota) known) fact.value n p))

-- ---- the constants of a name

abbrev one : (ConstFact → Bool) → ConstFact → ℕ
one p fact = if p fact then 1 else 0

sum_filter : (p : ConstFact → Bool) (facts : List ConstFact)
    → sum_by (one p) facts ≡ length (filter p facts)
sum_filter p [] = refl
sum_filter p (x ∷ xs) =
    sum_by-cons (one p) x xs
    ∙ (elim (p x) as (λ b. (if b then 1 else 0) + sum_by (one p) xs ≡ length
    (if b then x ∷ filter p xs else filter p xs)) [
      | true ↦ let ih = sum_filter p xs in omega (arith, ih)
      | false ↦ let ih = sum_filter p xs in omega (arith, ih)
    ])

filter_at : (p : ConstFact → Bool) (facts : List ConstFact) (x : ConstFact) (xs : List ConstFact)
    → filter p facts ≡ x ∷ xs
    → (k : ℕ) × (k < length facts) × ((d : ConstFact) → get_or facts k d ≡ x) × (p x ≡ true)
filter_at p [] x xs e = cc
filter_at p (y ∷ ys) x xs e =
    (elim (p y) as (λ b. p y ≡ b → (if b then y ∷ filter p ys else filter p ys) ≡ x ∷ xs
    → (k : ℕ) × (k < length (y ∷ ys)) × ((d : ConstFact) → get_or (y ∷ ys) k d ≡ x)
    × (p x ≡ true)) [
      | true ↦ λ h q. let same : y ≡ x = cc in
          (0, omega arith, (λ d. same), subst (λ t. p t ≡ true) same h)
      | false ↦ λ h q. let ih = filter_at p ys x xs q in (suc ih.0, omega (arith, ih.1), ih.2, ih.3)
    ]) refl e

some_here : (p : ConstFact → Bool) (facts : List ConstFact) (k : ℕ) (d : ConstFact)
    → k < length facts → p (get_or facts k d) ≡ true → 0 < length (filter p facts)
some_here p [] k d within h = absurd (omega arith)
some_here p (x ∷ xs) zero d within h = rw h (omega arith)
some_here p (x ∷ xs) (suc k) d within h =
    (elim (p x) as (λ b. 0 < length (if b then x ∷ filter p xs else filter p xs)) [
      | true ↦ omega arith
      | false ↦ some_here p xs k d (omega arith) h
    ])

empty_list : (xs : List ConstFact) → length xs ≡ 0 → xs ≡ []
empty_list [] h = refl
empty_list (x ∷ xs) h = absurd (omega arith)

only_at : (p : ConstFact → Bool) (facts : List ConstFact) (k : ℕ) (d : ConstFact) → k < length facts
    → p (get_or facts k d) ≡ true
    → length (filter p facts) ≡ 1 → filter p facts ≡ get_or facts k d ∷ []
only_at p [] k d within h one = absurd (omega arith)
only_at p (x ∷ xs) zero d within h e =
    let rest : length (x ∷ filter p xs) ≡ 1 =
    subst (λ b. length (if b then x ∷ filter p xs else filter p xs) ≡ 1) h e in
    rw h (ap (λ t. x ∷ t) (empty_list (filter p xs) (omega (arith, rest))))
only_at p (x ∷ xs) (suc k) d within h e =
    (elim (p x) as (λ b. length (if b then x ∷ filter p xs else filter p xs) ≡ 1
    → (if b then x ∷ filter p xs else filter p xs) ≡ get_or xs k d ∷ []) [
      | true ↦ λ q. absurd (let s : 0 < length (filter p xs) = some_here p xs k d (omega arith) h in
          omega (arith, s, q))
      | false ↦ λ q. only_at p xs k d (omega arith) h q
    ]) e

abbrev named : List ℕ → ConstFact → Bool
named name other = bytes_eq name other.name

same_text : (a b : List ℕ) → bytes_eq a b ≡ true → a ≡ b
same_text a b h = (bytes_eq-Decides a b).0 h

text_same : (a : List ℕ) → bytes_eq a a ≡ true
text_same a = (bytes_eq-Decides a a).1 refl

-- ---- one more value

record News (facts : List ConstFact) (known : List ℕ → Option ℤ) (fact : ConstFact) (number : ℤ) :
    Type 0 where
  once : count_named facts fact.name ≡ 1
  unknown : known fact.name ≡ None
  worth : fact_value known fact ≡ Some number

news : (facts : List ConstFact) (known : List ℕ → Option ℤ) (fact : ConstFact) (number : ℤ)
    → news_of facts known fact ≡ Some number → News facts known fact number
news facts known fact number p =
    (elim (count_named facts fact.name == 1) as (λ b. (count_named facts fact.name == 1) ≡ b
    → (if b then (if is_some (known fact.name) then None else fact_value known fact) else None) ≡
    Some number → News facts known fact number) [
      | true ↦ λ c.
          (elim (known fact.name) as (λ o. known fact.name ≡ o
          → (if is_some o then None else fact_value known fact) ≡ Some number
          → News facts known fact number) [
            | None ↦ λ u q. record {
              once = (Decides-eqb (count_named facts fact.name) 1).0 c;
              unknown =
                  u;
              worth = q;
            }
            | Some v ↦ λ u q. cc
          ]) refl
      | false ↦ λ c q. cc
    ]) refl p

module _ (facts : List ConstFact) (known new : List ℕ → Option ℤ) (place : ℕ) (d : ConstFact)
    (within : place < length facts) (number : ℤ)
    (n : News facts known (get_or facts place d) number)
    (put : (q : List ℕ)
    → new q ≡ (if bytes_eq (get_or facts place d).name q then Some number else known q)) where
  grows : Extends known new
  grows t v p = put t
      ∙ (elim (bytes_eq (get_or facts place d).name t) as
      (λ b. bytes_eq (get_or facts place d).name t ≡ b → (if b then Some number else known t) ≡ Some
      v) [
        | true ↦ λ e. let u : known t ≡ None = subst (λ s. known s ≡ None) (same_text _ t e)
            n.unknown in cc
        | false ↦ λ e. p
      ]) refl

  only : IsOnly facts (get_or facts place d).name (get_or facts place d)
  only = only_at (named (get_or facts place d).name) facts place d within
      (text_same (get_or facts place d).name)
      (sym (sum_filter (named (get_or facts place d).name) facts) ∙ n.once)

  learned : IsKnown facts known → IsKnown facts new
  learned k = record {
    sound = λ name v p.
        (elim (bytes_eq (get_or facts place d).name name) as
        (λ b. bytes_eq (get_or facts place d).name name ≡ b
        → (if b then Some number else known name) ≡ Some v → IsConstant facts name v) [
          | true ↦ λ e q. subst (λ s. IsConstant facts s v)
              (same_text (get_or facts place d).name name e)
              (subst (IsConstant facts (get_or facts place d).name) (some_is number v q)
              (is_constant facts (get_or facts place d).name (get_or facts place d) only number
              (value_mono (Names (name_value (Some (get_or facts place d).iota) known))
              (in_place (get_or facts place d).iota (IsConstant facts))
              (placed_name (get_or facts place d).iota known (IsConstant facts) k.sound)
              (get_or facts place d).value number
              (run_has (name_value (Some (get_or facts place d).iota) known)
              (get_or facts place d).value number n.worth))))
          | false ↦ λ e q. k.sound name v q
        ]) refl (sym (put name) ∙ p);
    stable = λ name v p.
        (elim (bytes_eq (get_or facts place d).name name) as
        (λ b. bytes_eq (get_or facts place d).name name ≡ b
        → (if b then Some number else known name) ≡ Some v → (fact : ConstFact)
        × IsOnly facts name fact × (fact_value new fact ≡ Some v)) [
          | true ↦ λ e q. (
            get_or facts place d,
            subst (λ s. IsOnly facts s (get_or facts place d))
                (same_text (get_or facts place d).name name e) only,
            fact_grows known new grows (get_or facts place d) v (n.worth ∙ q),
          )
          | false ↦ λ e q. let s = k.stable name v q in
              (s.0, s.1, fact_grows known new grows s.0 v s.2)
        ]) refl (sym (put name) ∙ p);
  }

known_one : (known new : List ℕ → Option ℤ) → Extends known new → (name : List ℕ)
    → is_some (known name) ≡ true → is_some (new name) ≡ true
known_one known new grows name h =
    (elim (known name) as (λ o. known name ≡ o → is_some o ≡ true → is_some (new name) ≡ true) [
      | None ↦ λ e q. cc
      | Some v ↦ λ e q. rw (grows name v e) refl
    ]) refl h

missing_falls : (known new : List ℕ → Option ℤ) → Extends known new → (facts : List ConstFact)
    → missing facts new ≤ missing facts known
missing_falls known new grows [] = omega arith
missing_falls known new grows (x ∷ xs) =
    (elim (is_some (known x.name)) as (λ b. is_some (known x.name) ≡ b
    → (if is_some (new x.name) then missing xs new else suc (missing xs new)) ≤
    (if b then missing xs known else suc (missing xs known))) [
      | true ↦ λ e. rw (known_one known new grows x.name e) (missing_falls known new grows xs)
      | false ↦ λ e.
          (elim (is_some (new x.name)) as (λ b. (if b then missing xs new else suc (missing xs new))
          ≤ suc (missing xs known)) [
            | true ↦ let ih = missing_falls known new grows xs in omega (arith, ih)
            | false ↦ let ih = missing_falls known new grows xs in omega (arith, ih)
          ])
    ]) refl

missing_less : (known new : List ℕ → Option ℤ) → Extends known new
    → (facts : List ConstFact) (k : ℕ) (d : ConstFact) (v : ℤ) → k < length facts
    → known (get_or facts k d).name ≡ None → new (get_or facts k d).name ≡ Some v
    → missing facts new < missing facts known
missing_less known new grows [] k d v within u w = absurd (omega arith)
missing_less known new grows (x ∷ xs) zero d v within u w =
    rw (u, w) (let ih = missing_falls known new grows xs in omega (arith, ih))
missing_less known new grows (x ∷ xs) (suc k) d v within u w =
    (elim (is_some (known x.name)) as (λ b. is_some (known x.name) ≡ b
    → (if is_some (new x.name) then missing xs new else suc (missing xs new)) <
    (if b then missing xs known else suc (missing xs known))) [
      | true ↦ λ e. rw (known_one known new grows x.name e)
          (missing_less known new grows xs k d v (omega arith) u w)
      | false ↦ λ e. let ih = missing_less known new grows xs k d v (omega arith) u w in
          (elim (is_some (new x.name)) as (λ b. (if b then missing xs new else suc (missing xs new))
          < suc (missing xs known)) [
            | true ↦ omega (arith, ih)
            | false ↦ omega (arith, ih)
          ])
    ]) refl

-- ---- where nothing more is found

module _ (facts : List ConstFact) (known : List ℕ → Option ℤ) (k : IsKnown facts known)
    (closed : IsClosed facts known (length facts)) where
  at_only : (name : List ℕ) (fact : ConstFact) (number : ℤ) → IsOnly facts name fact
      → fact_value known fact ≡ Some number → known name ≡ Some number
  at_only name fact number o p =
      let place = filter_at (named name) facts fact [] o in
      let same : name ≡ fact.name = same_text name fact.name place.3 in
      let none : news_of facts known fact ≡ None = subst (λ t. news_of facts known t ≡ None)
      (place.2 fact) (closed place.0 fact place.1) in
      let once : count_named facts fact.name ≡ 1 = subst (λ s. count_named facts s ≡ 1) same
      (sum_filter (named name) facts ∙ ap length o) in
      let yes : (count_named facts fact.name == 1) ≡ true =
      (Decides-eqb (count_named facts fact.name) 1).1 once in
      let opened : (if is_some (known fact.name) then None else fact_value known fact) ≡ None
      = subst (λ b. (if b then (if is_some (known fact.name) then None else fact_value known fact)
      else None) ≡ None) yes none in
      subst (λ s. known s ≡ Some number) (sym same)
      ((elim (known fact.name) as (λ u. known fact.name ≡ u
      → (if is_some u then None else fact_value known fact) ≡ None → u ≡ Some number) [
        | None ↦ λ e q. cc
        | Some w ↦ λ e q.
            let s = k.stable fact.name w e in
            let f : s.0 ≡ fact = let r : s.0 ∷ [] ≡ fact ∷ [] = sym s.1
            ∙ subst (λ t. IsOnly facts t fact) same o in cc in
            let v : fact_value known fact ≡ Some w = subst (λ t. fact_value known t ≡ Some w) f
            s.2 in
            sym v ∙ p
      ]) refl opened)

  found_all : (steps : ℕ) (name : List ℕ) (number : ℤ) → IsConstantWithin facts steps name number
      → known name ≡ Some number
  found_all zero name number w = absurd w
  found_all (suc steps) name number w =
      at_only name w.0 number w.1 (run_is (name_value (Some w.0.iota) known) w.0.value number
      (value_mono (in_place w.0.iota (IsConstantWithin facts steps))
      (Names (name_value (Some w.0.iota) known))
      (name_placed w.0.iota known (IsConstantWithin facts steps) (found_all steps)) w.0.value number
      w.2))

  pub exact : (name : List ℕ) (number : ℤ) → IsConstant facts name number → known name ≡ Some number
  exact name number c = found_all c.0 name number c.1

-- ---- attempts

pub put_known : (facts : List ConstFact) (known new : List ℕ → Option ℤ) (place : ℕ) (d : ConstFact)
    (number : ℤ) → place < length facts
    → news_of facts known (get_or facts place d) ≡ Some number
    → ((q : List ℕ)
    → new q ≡ (if bytes_eq (get_or facts place d).name q then Some number else known q))
    → IsKnown facts known → IsKnown facts new
put_known facts known new place d number within p put k =
    learned facts known new place d within number (news facts known (get_or facts place d) number p)
    put k

pub put_less : (facts : List ConstFact) (known new : List ℕ → Option ℤ) (place : ℕ) (d : ConstFact)
    (number : ℤ) → place < length facts
    → news_of facts known (get_or facts place d) ≡ Some number
    → ((q : List ℕ)
    → new q ≡ (if bytes_eq (get_or facts place d).name q then Some number else known q))
    → missing facts new < missing facts known
put_less facts known new place d number within p put =
    let n = news facts known (get_or facts place d) number p in
    missing_less known new (grows facts known new place d within number n put) facts place d number
    within n.unknown
    (put (get_or facts place d).name ∙ rw (text_same (get_or facts place d).name) refl)

abbrev Table : Type 0
Table = BTreeMap (String Global) ℤ

pub inserted : (old new : Table) (key : String Global) (number : ℤ)
    → Updates string_cmp old new key (Some number) → (q : List ℕ)
    → get_by_text new q ≡ (if bytes_eq (string_bytes key) q then Some number else get_by_text old q)
inserted old new key number u q = btree_map_updates_text (string_bytes key) old new (Some number) u
    q

pub pass_found : (facts : List ConstFact) (place : ℕ) (start mid new : Table) (changed : Bool)
    → Passes facts place start mid changed
    → missing facts (get_by_text new) < missing facts (get_by_text mid)
    → missing facts (get_by_text new) < missing facts (get_by_text start)
pass_found facts place start mid new true p less = omega (arith, p, less)
pass_found facts place start mid new false p less =
    subst (λ t. missing facts (get_by_text new) < missing facts (get_by_text t)) p.0 less

pub pass_none : (facts : List ConstFact) (place : ℕ) (start mid new : Table) (changed : Bool)
    → Passes facts place start mid changed
    → Attempts facts place mid new false → Passes facts (place + 1) start new changed
pass_none facts place start mid new true p a =
    subst (λ t. missing facts (get_by_text t) < missing facts (get_by_text start)) (sym a.0) p
pass_none facts place start mid new false p a = (
  a.0 ∙ p.0,
  λ k d within.
      below_more (λ k. news_of facts (get_by_text start) (get_or facts k d) ≡ None) place
      (λ k w. p.1 k d w)
      (subst (λ t. news_of facts (get_by_text t) (get_or facts place d) ≡ None) p.0 (a.1 d)) k
      within,
)

pub pass_on : (facts : List ConstFact) (place : ℕ) (start mid new : Table) (changed found : Bool)
    → Passes facts place start mid changed
    → Attempts facts place mid new found → Passes facts (place + 1) start new (changed || found)
pass_on facts place start mid new true true p a = omega (arith, p, a)
pass_on facts place start mid new true false p a =
    subst (λ t. missing facts (get_by_text t) < missing facts (get_by_text start)) (sym a.0) p
pass_on facts place start mid new false true p a = pass_found facts place start mid new false p a
pass_on facts place start mid new false false p a = pass_none facts place start mid new false p a

pub all_found : (facts : List ConstFact) (old new : Table) → IsKnown facts (get_by_text old)
    → IsKnown facts (get_by_text new)
    → Passes facts (length facts) old new false → (name : List ℕ) (number : ℤ)
    → (get_by_text new name ≡ Some number) ↔ IsConstant facts name number
all_found facts old new k l p name number = (
  l.sound name number,
  λ c. ap (λ t. get_by_text t name) p.0 ∙ exact facts (get_by_text old) k p.1 name number c,
)

-- ---- lengths

pub natural_is : (found : Option ℤ) (n : ℕ) → natural found ≡ Some n → found ≡ Some (pos n)
natural_is None n p = cc
natural_is (Some (pos m)) n p = ap (λ k. Some (pos k)) (some_is m n p)
natural_is (Some (negsuc m)) n p = cc

pub natural_none : (found : Option ℤ) → natural found ≡ None → (n : ℕ) → found ≡ Some (pos n) → ⊥
natural_none found h n p = let q : natural found ≡ Some n = ap natural p in cc

pub length_known : (names : List ℕ → Option ℤ) (texts : List (List ℕ)) (n : ℕ)
    → natural (run_value names texts) ≡ Some n
    → HasValue (Names names) texts (pos n)
length_known names texts n p = run_has names texts (pos n) (natural_is (run_value names texts) n p)

pub length_none : (names : List ℕ → Option ℤ) (texts : List (List ℕ))
    → natural (run_value names texts) ≡ None
    → (n : ℕ) → HasValue (Names names) texts (pos n) → ⊥
length_none names texts p n h = natural_none (run_value names texts) p n
    (run_is names texts (pos n) h)

-- ---- an attempt

module _ (facts : List ConstFact) (old : Table) (counts : BTreeMap (String Global) ℕ) (place : ℕ)
    (fact : ConstFact) (within : place < length facts)
    (is : fact ≡ get_or facts place fact) (counted : AreCounts facts counts) where
  news_is : (found : Option ℤ) → found ≡ news_from (unwrap_or (get_by_text counts fact.name) 0)
      (get_by_text old) fact
      → news_of facts (get_by_text old) (get_or facts place fact) ≡ found
  news_is found p = subst (λ t. news_of facts (get_by_text old) t ≡ found) is
      (ap (λ k. news_from k (get_by_text old) fact) (sym (counted fact.name)) ∙ sym p)

  pub none_learned : None ≡ news_from (unwrap_or (get_by_text counts fact.name) 0) (get_by_text old)
      fact
      → (d : ConstFact) → news_of facts (get_by_text old) (get_or facts place d) ≡ None
  none_learned p d = subst (λ t. news_of facts (get_by_text old) t ≡ None)
      (get_or_default facts place fact d within) (news_is None p)

  put_at : (new : Table) (key : String Global) (number : ℤ) → string_bytes key ≡ fact.name
      → Updates string_cmp old new key (Some number)
      → (q : List ℕ)
      → get_by_text new q ≡ (if bytes_eq (get_or facts place fact).name q then Some number else
      get_by_text old q)
  put_at new key number e u q =
      subst (λ b. get_by_text new q ≡ (if bytes_eq b q then Some number else get_by_text old q))
      (e ∙ ap (λ (t : ConstFact). t.name) is) (inserted old new key number u q)

  pub one_learned : (new : Table) (key : String Global) (number : ℤ)
      → Some number ≡ news_from (unwrap_or (get_by_text counts fact.name) 0) (get_by_text old) fact
      → string_bytes key ≡ fact.name → Updates string_cmp old new key (Some number)
      → IsKnown facts (get_by_text old)
      → IsKnown facts (get_by_text new)
  one_learned new key number p e u k =
      put_known facts (get_by_text old) (get_by_text new) place fact number within
      (news_is (Some number) p) (put_at new key number e u) k

  pub one_less : (new : Table) (key : String Global) (number : ℤ)
      → Some number ≡ news_from (unwrap_or (get_by_text counts fact.name) 0) (get_by_text old) fact
      → string_bytes key ≡ fact.name → Updates string_cmp old new key (Some number)
      → missing facts (get_by_text new) < missing facts (get_by_text old)
  one_less new key number p e u =
      put_less facts (get_by_text old) (get_by_text new) place fact number within
      (news_is (Some number) p) (put_at new key number e u)

-- ---- counts

sum_small : (p : ConstFact → Bool) (facts : List ConstFact) → sum_by (one p) facts ≤ length facts
sum_small p [] = omega arith
sum_small p (x ∷ xs) = rw (sum_by-cons (one p) x xs)
    ((elim (p x) as (λ b. (if b then 1 else 0) + sum_by (one p) xs ≤ suc (length xs)) [
      | true ↦ let ih = sum_small p xs in omega (arith, ih)
      | false ↦ let ih = sum_small p xs in omega (arith, ih)
    ]))

pub few_named : (name : List ℕ) (facts : List ConstFact) (i : ℕ)
    → sum_by (λ fact. if bytes_eq name fact.name then 1 else 0) (take i facts) ≤ length facts
few_named name facts i = let a = sum_small (named name) (take i facts) in
    omega (arith, a, length-take i facts)
