-- The lists after members were put at their ends are filters of the numbers.
use Rattle.std.proofs.Common.{◌≡◌, ◌≢◌, ◌<◌, ◌≤◌, ℕ, zero, suc, Bool, true, false, cond, ◌&&◌, List}
use Rattle.std.proofs.Common.{[], ◌∷◌, ◌++◌, Option, Some, None, length, filter, fold, get_or, set}
use Rattle.std.proofs.Common.{refl, sym, ap, ◌∙◌, arith, nat_eq, append_assoc, append-nil}
use Rattle.std.proofs.Common.{slice_get, eqb, eqb-true}
use Rattle.std.proofs.lemmas.Bool.{eqb-false}
use Rattle.std.specs.Option.{option_eq, option_map_or}
use Rattle.doc_order.specs.declared.members.Member.{Member}
use Rattle.doc_order.specs.declared.members.Kind.{Kind}
use Rattle.doc_order.specs.declared.members.Kind.TheVariants.{Constants, Variables, Functions}
use Rattle.doc_order.specs.declared.members.Kind.TheVariants.{Types, Methods}
use Rattle.doc_order.specs.declared.members.DocType.{DocType}
use Rattle.doc_order.specs.Documentation.{Name, at_number, is_shown, kind_of, place_of, same_kind}
use Rattle.doc_order.specs.Documentation.{stands_in}
use Rattle.doc_order.specs.Slots.{Lists, changed_at, with_member, with_member_at, with_number}
use Rattle.doc_order.specs.Slots.{with_number_in}

-- a change of one element
pub set-changed : {X : Type 0} (f : X → X) (xs : List X) (i : ℕ) (d : X) → i < length xs
    → set xs i (f (get_or xs i d)) ≡ changed_at f xs i
set-changed f [] i d h = absurd (omega arith)
set-changed f (x ∷ xs) zero d h = refl
set-changed f (x ∷ xs) (suc i) d h = ap (λ ys. x ∷ ys) (set-changed f xs i d (omega arith))

pub unchanged-past : {X : Type 0} (f : X → X) (xs : List X) (i : ℕ) → length xs ≤ i
    → changed_at f xs i ≡ xs
unchanged-past f [] i h = refl
unchanged-past f (x ∷ xs) zero h = absurd (omega arith)
unchanged-past f (x ∷ xs) (suc i) h = ap (λ ys. x ∷ ys) (unchanged-past f xs i (omega arith))

pub length-changed : {X : Type 0} (f : X → X) (xs : List X) (i : ℕ)
    → length (changed_at f xs i) ≡ length xs
length-changed f [] i = refl
length-changed f (x ∷ xs) zero = refl
length-changed f (x ∷ xs) (suc i) = ap suc (length-changed f xs i)

get_or-changed_here : {X : Type 0} (f : X → X) (xs : List X) (i : ℕ) (d : X) → i < length xs
    → get_or (changed_at f xs i) i d ≡ f (get_or xs i d)
get_or-changed_here f [] i d h = absurd (omega arith)
get_or-changed_here f (x ∷ xs) zero d h = refl
get_or-changed_here f (x ∷ xs) (suc i) d h = get_or-changed_here f xs i d (omega arith)

get_or-changed_other : {X : Type 0} (f : X → X) (xs : List X) (i s : ℕ) (d : X) → i ≢ s
    → get_or (changed_at f xs i) s d ≡ get_or xs s d
get_or-changed_other f [] i s d h = refl
get_or-changed_other f (x ∷ xs) zero zero d h = absurd (h refl)
get_or-changed_other f (x ∷ xs) zero (suc s) d h = refl
get_or-changed_other f (x ∷ xs) (suc i) zero d h = refl
get_or-changed_other f (x ∷ xs) (suc i) (suc s) d h = get_or-changed_other f xs i s d
    (λ e. h (ap suc e))

-- the number, if the test passes
abbrev one_if : Bool → ℕ → List ℕ
one_if b n = cond b (n ∷ []) []

filter_step : (p : ℕ → Bool) (xs : List ℕ) (n : ℕ) (ns : List ℕ) (b : Bool) → (xs ++ one_if b n)
    ++ filter p ns ≡ xs ++ cond b (n ∷ filter p ns) (filter p ns)
filter_step p xs n ns true = append_assoc xs (n ∷ []) (filter p ns)
filter_step p xs n ns false = ap (λ ys. ys ++ filter p ns) (append-nil xs)

-- a member that is shown or not, of a kind, in a place
abbrev passes : Bool → Kind → Option ℕ → Kind → Option ℕ → Bool
passes shown kind place wanted where' = shown && same_kind kind wanted
    && option_eq nat_eq place where'

record PackageGrows (shown : Bool) (kind : Kind) (place : Option ℕ) (n : ℕ) (old new : Lists) :
    Type 0 where
  consts : new.consts ≡ old.consts ++ one_if (passes shown kind place Constants None) n
  vars : new.vars ≡ old.vars ++ one_if (passes shown kind place Variables None) n
  funcs : new.funcs ≡ old.funcs ++ one_if (passes shown kind place Functions None) n
  types : length new.types ≡ length old.types

same_package : (shown : Bool) (kind : Kind) (place : Option ℕ) (n : ℕ) (old : Lists)
    → PackageGrows shown kind place n old (cond shown (with_number_in old kind place n) old)
same_package false kind place n old = record {
  consts = sym (append-nil old.consts);
  vars = sym (append-nil old.vars);
  funcs = sym (append-nil old.funcs);
  types = refl;
}
same_package true Constants None n old =
    record {
      consts = refl;
      vars = sym (append-nil old.vars);
      funcs = sym (append-nil old.funcs);
      types = refl;
    }
same_package true Variables None n old = record {
  consts = sym (append-nil old.consts);
  vars =
      refl;
  funcs = sym (append-nil old.funcs);
  types = refl;
}
same_package true Functions None n old = record {
  consts = sym (append-nil old.consts);
  vars =
      sym (append-nil old.vars);
  funcs = refl;
  types = refl;
}
same_package true Types None n old = record {
  consts = sym (append-nil old.consts);
  vars =
      sym (append-nil old.vars);
  funcs = sym (append-nil old.funcs);
  types = refl;
}
same_package true Methods None n old = record {
  consts = sym (append-nil old.consts);
  vars =
      sym (append-nil old.vars);
  funcs = sym (append-nil old.funcs);
  types = refl;
}
same_package true Constants (Some s) n old = record {
  consts = sym (append-nil old.consts);
  vars =
      sym (append-nil old.vars);
  funcs = sym (append-nil old.funcs);
  types =
      length-changed _ old.types s;
}
same_package true Variables (Some s) n old = record {
  consts = sym (append-nil old.consts);
  vars =
      sym (append-nil old.vars);
  funcs = sym (append-nil old.funcs);
  types =
      length-changed _ old.types s;
}
same_package true Functions (Some s) n old = record {
  consts = sym (append-nil old.consts);
  vars =
      sym (append-nil old.vars);
  funcs = sym (append-nil old.funcs);
  types =
      length-changed _ old.types s;
}
same_package true Types (Some s) n old = record {
  consts = sym (append-nil old.consts);
  vars =
      sym (append-nil old.vars);
  funcs = sym (append-nil old.funcs);
  types =
      length-changed _ old.types s;
}
same_package true Methods (Some s) n old = record {
  consts = sym (append-nil old.consts);
  vars =
      sym (append-nil old.vars);
  funcs = sym (append-nil old.funcs);
  types =
      length-changed _ old.types s;
}

-- what a type gains
gained : DocType → (Kind → Bool) → ℕ → DocType
gained doc passed n = record doc {
  consts = doc.consts ++ one_if (passed Constants) n;
  vars = doc.vars ++ one_if (passed Variables) n;
  factories = doc.factories ++ one_if (passed Functions) n;
  methods = doc.methods ++ one_if (passed Methods) n;
}

nothing_gained : (doc : DocType) (n : ℕ) → doc ≡ gained doc (λ _. false) n
unfolding gained
nothing_gained doc n = simp append-nil

number_gained : (doc : DocType) (kind : Kind) (n : ℕ)
    → with_number doc kind n ≡ gained doc (λ wanted. same_kind kind wanted && true) n
unfolding gained
number_gained doc Constants n = simp append-nil
number_gained doc Variables n = simp append-nil
number_gained doc Functions n = simp append-nil
number_gained doc Types n = simp append-nil
number_gained doc Methods n = simp append-nil

other_kind : (doc : DocType) (kind : Kind) (n : ℕ)
    → doc ≡ gained doc (λ wanted. same_kind kind wanted && false) n
unfolding gained
other_kind doc Constants n = simp append-nil
other_kind doc Variables n = simp append-nil
other_kind doc Functions n = simp append-nil
other_kind doc Types n = simp append-nil
other_kind doc Methods n = simp append-nil

package_types : (old : Lists) (kind : Kind) (n : ℕ) → (with_number_in old kind None n).types ≡
    old.types
package_types old Constants n = refl
package_types old Variables n = refl
package_types old Functions n = refl
package_types old Types n = refl
package_types old Methods n = refl

slot_gains : (kind : Kind) (t n s : ℕ) (types : List DocType) (d : DocType) → s < length types
    → (b : Bool) → eqb t s ≡ b
    → get_or (changed_at (λ doc. with_number doc kind n) types t) s d ≡ gained (get_or types s d)
    (λ wanted. same_kind kind wanted && b) n
slot_gains kind t n s types d h true e =
    let same : t ≡ s = eqb-true t s e in
    ap (λ i. get_or (changed_at (λ doc. with_number doc kind n) types i) s d) same
    ∙ get_or-changed_here (λ doc. with_number doc kind n) types s d h
    ∙ number_gained (get_or types s d) kind n
slot_gains kind t n s types d h false e =
    get_or-changed_other (λ doc. with_number doc kind n) types t s d (eqb-false t s e)
    ∙ other_kind (get_or types s d) kind n

same_type : (shown : Bool) (kind : Kind) (place : Option ℕ) (n : ℕ) (old : Lists) (s : ℕ)
    (d : DocType) → s < length old.types
    → get_or (cond shown (with_number_in old kind place n) old).types s d
    ≡ gained (get_or old.types s d) (λ wanted. passes shown kind place wanted (Some s)) n
same_type false kind place n old s d h = nothing_gained (get_or old.types s d) n
same_type true kind None n old s d h = ap (λ types. get_or types s d) (package_types old kind n)
    ∙ other_kind (get_or old.types s d) kind n
same_type true kind (Some t) n old s d h = slot_gains kind t n s old.types d h (eqb t s) refl

module _ (members : List Member) (slots : Name → Option ℕ) where
  -- the number is one of a list
  abbrev pub listed : Kind → Option ℕ → ℕ → Bool
  listed kind place n = at_number (stands_in slots kind place) false members n

  abbrev pub put : Lists → ℕ → Lists
  put = with_member_at members slots

  record Grows (n : ℕ) (old new : Lists) : Type 0 where
    consts : new.consts ≡ old.consts ++ one_if (listed Constants None n) n
    vars : new.vars ≡ old.vars ++ one_if (listed Variables None n) n
    funcs : new.funcs ≡ old.funcs ++ one_if (listed Functions None n) n
    types : length new.types ≡ length old.types
    each : (s : ℕ) (d : DocType) → s < length old.types
        → get_or new.types s d ≡ gained (get_or old.types s d) (λ wanted. listed wanted (Some s) n)
        n

  grows_at : (n : ℕ) (old : Lists) (o : Option Member) → slice_get members n ≡ o
      → Grows n old (put old n)
  grows_at n old None e = record {
    consts = rw e (sym (append-nil old.consts));
    vars = rw e (sym (append-nil old.vars));
    funcs = rw e (sym (append-nil old.funcs));
    types = rw e;
    each = λ s d h. rw e (nothing_gained (get_or old.types s d) n);
  }
  grows_at n old (Some m) e =
      let grown = same_package (is_shown slots m) (kind_of m) (place_of slots m) n old in
      record {
        consts = rw e grown.consts;
        vars = rw e grown.vars;
        funcs = rw e grown.funcs;
        types = rw e grown.types;
        each = λ s d h. rw e (same_type (is_shown slots m) (kind_of m) (place_of slots m) n old s d
            h);
      }

  grows : (n : ℕ) (old : Lists) → Grows n old (put old n)
  grows n old = grows_at n old (slice_get members n) refl

  -- a type after all these numbers
  unfoldable pub grown : ℕ → DocType → List ℕ → DocType
  grown s doc ns = record doc {
    consts = doc.consts ++ filter (listed Constants (Some s)) ns;
    vars = doc.vars ++ filter (listed Variables (Some s)) ns;
    factories = doc.factories ++ filter (listed Functions (Some s)) ns;
    methods = doc.methods ++ filter (listed Methods (Some s)) ns;
  }

  grown_step : (s : ℕ) (doc : DocType) (n : ℕ) (ns : List ℕ)
      → grown s (gained doc (λ wanted. listed wanted (Some s) n) n) ns ≡ grown s doc (n ∷ ns)
  unfolding grown gained
  grown_step s doc n ns = λ i. record doc {
    consts = filter_step (listed Constants (Some s)) doc.consts n ns (listed Constants (Some s) n)
        i;
    vars = filter_step (listed Variables (Some s)) doc.vars n ns (listed Variables (Some s) n) i;
    factories = filter_step (listed Functions (Some s)) doc.factories n ns
        (listed Functions (Some s) n) i;
    methods = filter_step (listed Methods (Some s)) doc.methods n ns (listed Methods (Some s) n) i;
  }

  grown_none : (s : ℕ) (doc : DocType) → doc ≡ grown s doc []
  unfolding grown
  grown_none s doc = simp append-nil

  pub filled_consts : (ns : List ℕ) (old : Lists) → (fold put old ns).consts ≡ old.consts
      ++ filter (listed Constants None) ns
  filled_consts [] old = sym (append-nil old.consts)
  filled_consts (n ∷ ns) old =
      let p = listed Constants None in
      filled_consts ns (put old n) ∙ ap (λ xs. xs ++ filter p ns) (grows n old).consts
      ∙ filter_step p old.consts n ns (p n)

  pub filled_vars : (ns : List ℕ) (old : Lists) → (fold put old ns).vars ≡ old.vars
      ++ filter (listed Variables None) ns
  filled_vars [] old = sym (append-nil old.vars)
  filled_vars (n ∷ ns) old =
      let p = listed Variables None in
      filled_vars ns (put old n) ∙ ap (λ xs. xs ++ filter p ns) (grows n old).vars
      ∙ filter_step p old.vars n ns (p n)

  pub filled_funcs : (ns : List ℕ) (old : Lists) → (fold put old ns).funcs ≡ old.funcs
      ++ filter (listed Functions None) ns
  filled_funcs [] old = sym (append-nil old.funcs)
  filled_funcs (n ∷ ns) old =
      let p = listed Functions None in
      filled_funcs ns (put old n) ∙ ap (λ xs. xs ++ filter p ns) (grows n old).funcs
      ∙ filter_step p old.funcs n ns (p n)

  pub filled_count : (ns : List ℕ) (old : Lists) → length (fold put old ns).types ≡ length old.types
  filled_count [] old = refl
  filled_count (n ∷ ns) old = filled_count ns (put old n) ∙ (grows n old).types

  pub filled_type : (ns : List ℕ) (old : Lists) (s : ℕ) (d : DocType) → s < length old.types
      → get_or (fold put old ns).types s d ≡ grown s (get_or old.types s d) ns
  filled_type [] old s d h = grown_none s (get_or old.types s d)
  filled_type (n ∷ ns) old s d h =
      let step = grows n old in
      let within : s < length (put old n).types = rw step.types h in
      filled_type ns (put old n) s d within ∙ ap (λ doc. grown s doc ns) (step.each s d h)
      ∙ grown_step s (get_or old.types s d) n ns
