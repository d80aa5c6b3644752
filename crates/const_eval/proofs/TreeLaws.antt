-- The evaluation from the left to the right gives exactly what the trees give.
use Rattle.std.proofs.Common.{◌≡◌, ◌∙◌, ℕ, List, [], ◌∷◌, ◌++◌, true, false, refl, sym, ap, subst}
use Rattle.std.proofs.Common.{append_assoc, append-nil}
use Rattle.std.specs.Prelude.{Option, Some, None, codes, if◌then◌else◌, ⊤}
use Rattle.std.specs.Str.{bytes_eq}
use Rattle.std.proofs.lemmas.Slice.Eq.{bytes_eq-Decides}
use Rattle.const_eval.specs.declared.operator.Operator.{Operator}
use Rattle.const_eval.specs.declared.operator.Operator.TheVariants as o
use Rattle.const_eval.specs.declared.machine.Frame.{Frame}
use Rattle.const_eval.specs.declared.machine.Frame.TheVariants as f
use Rattle.const_eval.specs.declared.lexeme.Lexeme.{Lexeme}
use Rattle.const_eval.specs.declared.lexeme.Lexeme.TheVariants as l
use Rattle.const_eval.specs.Lexemes.{lexeme_of, lexeme_among, lexemes}
use Rattle.const_eval.specs.Operators.{print_operator, is_unary, is_multiplying}
use Rattle.go_literals.specs.Options.{◌|>◌}
use Rattle.const_eval.specs.Expressions.{Expression, operand, parenthesized, unary, binary, print}
use Rattle.const_eval.specs.Expressions.{Part, an_operand, a_product, a_sum, IsExpression}
use Rattle.const_eval.specs.Expressions.{one_token, in_parentheses, after_unary, one_operand}
use Rattle.const_eval.specs.Expressions.{multiplied, one_product, added}
use Rattle.const_eval.specs.Machine.{Meaning, State, having, arrive, settle, close, after_sum}
use Rattle.const_eval.specs.Machine.{go_on, alone, finish, begin, step, run, whole}
use Rattle.go_literals.proofs.Options.{bind_some, some_is}

-- ---- the texts of brackets and operators

pub open_is : lexeme_of (codes "(") ≡ l.Open
unfolding lexeme_of
open_is = refl

pub close_is : lexeme_of (codes ")") ≡ l.Close
unfolding lexeme_of
close_is = refl

pub operator_is : (op : Operator) → lexeme_of (print_operator op) ≡ l.Operator op
unfolding lexeme_of
operator_is o.Add = refl
operator_is o.Subtract = refl
operator_is o.Or = refl
operator_is o.Xor = refl
operator_is o.Multiply = refl
operator_is o.Divide = refl
operator_is o.Remainder = refl
operator_is o.ShiftLeft = refl
operator_is o.ShiftRight = refl
operator_is o.And = refl
operator_is o.AndNot = refl

-- the text is that of this lexeme, which may be an operand
abbrev IsTextOf : List ℕ → Lexeme → Type 0
IsTextOf text l.Open = text ≡ codes "("
IsTextOf text l.Close = text ≡ codes ")"
IsTextOf text (l.Operator op) = text ≡ print_operator op
IsTextOf text l.Operand = ⊤

abbrev AreTexts : List (List ℕ × Lexeme) → Type 0
AreTexts [] = ⊤
AreTexts (entry ∷ entries) = IsTextOf entry.0 entry.1 × AreTexts entries

among_texts : (entries : List (List ℕ × Lexeme)) (text : List ℕ) → AreTexts entries
    → IsTextOf text (lexeme_among entries text)
among_texts [] text h = tt
among_texts (entry ∷ entries) text h =
    (elim (bytes_eq text entry.0) as (λ b. bytes_eq text entry.0 ≡ b
    → IsTextOf text (if b then entry.1 else lexeme_among entries text)) [
      | true ↦ λ e. rw ((bytes_eq-Decides text entry.0).0 e) h.0
      | false ↦ λ e. among_texts entries text h.1
    ]) refl

text_is : (text : List ℕ) → IsTextOf text (lexeme_of text)
unfolding lexeme_of
text_is text =
    among_texts lexemes text (
      refl,
      (
        refl,
        (refl, (refl, (refl, (refl, (refl, (refl, (refl, (refl, (refl, (refl, (refl, tt))))))))))),
      ),
    )

text_of : (text : List ℕ) (lexeme : Lexeme) → lexeme_of text ≡ lexeme → IsTextOf text lexeme
text_of text lexeme e = subst (λ x. IsTextOf text x) e (text_is text)

module _ {X : Type 0} (m : Meaning X) (leaf : List ℕ → Option X) where
  -- what a tree gives
  abbrev pub fold : Expression → Option X
  fold (operand text) = leaf text
  fold (parenthesized inner) = fold inner |> m.enclosed
  fold (unary op inner) = fold inner |> m.signed op
  fold (binary op left right) = fold left |> λ x. fold right |> m.joined op x

  -- ---- each tree is read

  -- nothing waits for an operand directly
  abbrev Clean : List (Frame X) → Type 0
  Clean [] = ⊤
  Clean (f.Open ∷ frames) = ⊤
  Clean (f.Unary op ∷ frames) = ⊥
  Clean (f.Product left op ∷ frames) = ⊥
  Clean (f.Sum left op ∷ frames) = ⊤

  -- nothing waits for a product either
  abbrev Outer : List (Frame X) → Type 0
  Outer [] = ⊤
  Outer (f.Open ∷ frames) = ⊤
  Outer (f.Unary op ∷ frames) = ⊥
  Outer (f.Product left op ∷ frames) = ⊥
  Outer (f.Sum left op ∷ frames) = ⊥

  outer_clean : (frames : List (Frame X)) → Outer frames → Clean frames
  outer_clean [] h = tt
  outer_clean (f.Open ∷ frames) h = tt
  outer_clean (f.Unary op ∷ frames) h = h
  outer_clean (f.Product left op ∷ frames) h = h
  outer_clean (f.Sum left op ∷ frames) h = tt

  arrive_clean : (frames : List (Frame X)) (x : X) → Clean frames
      → arrive m frames x ≡ Some (frames, x)
  arrive_clean [] x h = refl
  arrive_clean (f.Open ∷ frames) x h = refl
  arrive_clean (f.Unary op ∷ frames) x h = absurd h
  arrive_clean (f.Product left op ∷ frames) x h = absurd h
  arrive_clean (f.Sum left op ∷ frames) x h = refl

  settle_outer : (frames : List (Frame X)) (x : X) → Outer frames
      → settle m frames x ≡ Some (frames, x)
  settle_outer [] x h = refl
  settle_outer (f.Open ∷ frames) x h = refl
  settle_outer (f.Unary op ∷ frames) x h = absurd h
  settle_outer (f.Product left op ∷ frames) x h = absurd h
  settle_outer (f.Sum left op ∷ frames) x h = absurd h

  -- the rest, after what an operand gave
  abbrev onward : List (List ℕ) → List (Frame X) × X → Option (State X)
  onward rest s = run m leaf (s.0, Some s.1) rest

  having_onward : (found : Option (List (Frame X) × X)) (rest : List (List ℕ))
      → (found |> having |> λ next. run m leaf next rest) ≡ (found |> onward rest)
  having_onward None rest = refl
  having_onward (Some s) rest = refl

  abbrev Follows : Part → Expression → X → Type 0
  Follows an_operand e x = (frames : List (Frame X)) (rest : List (List ℕ))
      → run m leaf (frames, None) (print e ++ rest) ≡ (arrive m frames x |> onward rest)
  Follows a_product e x = (frames : List (Frame X)) → Clean frames → (rest : List (List ℕ))
      → run m leaf (frames, None) (print e ++ rest) ≡ run m leaf (frames, Some x) rest
  Follows a_sum e x = (frames : List (Frame X)) → Outer frames
      → (gs : List (Frame X)) × (y : X) × (settle m gs y ≡ Some (frames, x))
      × ((rest : List (List ℕ)) → run m leaf (frames, None) (print e ++ rest) ≡ run m leaf
      (gs, Some y) rest)

  -- one step at a token of this kind
  begin_at : (frames : List (Frame X)) (text : List ℕ) (lexeme : Lexeme) (rest : List (List ℕ))
      → lexeme_of text ≡ lexeme
      → run m leaf (frames, None) (text ∷ rest) ≡ (begin m leaf frames text lexeme |> λ next.
      run m leaf next rest)
  begin_at frames text lexeme rest e =
      ap (λ k. begin m leaf frames text k |> λ next. run m leaf next rest) e

  go_on_at : (frames : List (Frame X)) (x : X) (text : List ℕ) (lexeme : Lexeme)
      (rest : List (List ℕ)) → lexeme_of text ≡ lexeme
      → run m leaf (frames, Some x) (text ∷ rest) ≡
      (go_on m frames x lexeme |> λ next. run m leaf next rest)
  go_on_at frames x text lexeme rest e =
      ap (λ k. go_on m frames x k |> λ next. run m leaf next rest) e

  pub follows : {part : Part} {e : Expression} → IsExpression part e → (x : X) → fold e ≡ Some x
      → Follows part e x
  follows (one_token {text} h) x p = λ frames rest. begin_at frames text l.Operand rest h
      ∙ rw p (having_onward (arrive m frames x) rest)
  follows (in_parentheses {inner} h) x p = λ frames rest.
      let q = bind_some (fold inner) m.enclosed x p in
      let ih = follows h q.0 q.1 (f.Open ∷ frames) tt in
      let closed : (close m (f.Open ∷ frames, q.0) |> having |> λ next. run m leaf next rest) ≡
      (arrive m frames x |> onward rest)
      = rw q.2 (having_onward (arrive m frames x) rest) in
      begin_at frames (codes "(") l.Open ((print inner ++ codes ")" ∷ []) ++ rest) open_is
      ∙ ap (run m leaf (f.Open ∷ frames, None)) (append_assoc (print inner) (codes ")" ∷ []) rest)
      ∙ ih.3 (codes ")" ∷ rest)
      ∙ go_on_at ih.0 ih.1 (codes ")") l.Close rest close_is
      ∙ rw ih.2 closed
  follows (after_unary {operator} {inner} u h) x p = λ frames rest.
      let q = bind_some (fold inner) (m.signed operator) x p in
      begin_at frames (print_operator operator) (l.Operator operator) (print inner ++ rest)
      (operator_is operator)
      ∙ rw u (follows h q.0 q.1 (f.Unary operator ∷ frames) rest ∙ rw q.2 refl)
  follows (one_operand {single} h) x p = λ frames clean rest. follows h x p frames rest
      ∙ rw (arrive_clean frames x clean) refl
  follows (multiplied {operator} {left} {right} t hl hr) x p = λ frames clean rest.
      let q = bind_some (fold left) (λ a. fold right |> m.joined operator a) x p in
      let r = bind_some (fold right) (m.joined operator q.0) x q.2 in
      ap (run m leaf (frames, None))
      (append_assoc (print left) (print_operator operator ∷ print right) rest)
      ∙ follows hl q.0 q.1 frames clean (print_operator operator ∷ (print right ++ rest))
      ∙ go_on_at frames q.0 (print_operator operator) (l.Operator operator) (print right ++ rest)
      (operator_is operator)
      ∙ rw t (follows hr r.0 r.1 (f.Product q.0 operator ∷ frames) rest ∙ rw r.2 refl)
  follows (one_product {single} h) x p = λ frames outer. (
    frames,
    x,
    settle_outer frames x outer,
    λ rest. follows h x p frames
        (outer_clean frames outer) rest,
  )
  follows (added {operator} {left} {right} t hl hr) x p = λ frames outer.
      let q = bind_some (fold left) (λ a. fold right |> m.joined operator a) x p in
      let r = bind_some (fold right) (m.joined operator q.0) x q.2 in
      let ih = follows hl q.0 q.1 frames outer in (
        f.Sum q.0 operator ∷ frames,
        r.0,
        rw r.2 refl,
        λ rest.
            ap (run m leaf (frames, None))
            (append_assoc (print left) (print_operator operator ∷ print right) rest)
            ∙ ih.3 (print_operator operator ∷ (print right ++ rest))
            ∙ go_on_at ih.0 ih.1 (print_operator operator) (l.Operator operator) (print right
            ++ rest) (operator_is operator)
            ∙ rw (t, ih.2) (follows hr r.0 r.1 (f.Sum q.0 operator ∷ frames) tt rest),
      )

  pub complete : (e : Expression) → IsExpression a_sum e → (x : X) → fold e ≡ Some x
      → whole m leaf (print e) ≡ Some x
  complete e h x p =
      let found = follows h x p [] tt in
      let read : run m leaf ([], None) (print e) ≡ Some (found.0, Some found.1)
      = ap (run m leaf ([], None)) (sym (append-nil (print e))) ∙ found.3 [] in
      rw read (rw found.2 refl)

  -- ---- what is read is a tree

  pub record Spelled (part : Part) (x : X) (texts : List (List ℕ)) : Type 0 where
    pub tree : Expression
    pub valid : IsExpression part tree
    pub printed : print tree ≡ texts
    pub gives : fold tree ≡ Some x

  -- what waits, as the texts before
  abbrev Waits : List (Frame X) → List (List ℕ) → Type 0
  Waits [] texts = texts ≡ []
  Waits (f.Open ∷ frames) texts = (before : List (List ℕ)) × (texts ≡ before ++ codes "(" ∷ [])
      × Waits frames before
  Waits (f.Unary operator ∷ frames) texts =
      (before : List (List ℕ)) × (texts ≡ before ++ print_operator operator ∷ [])
      × (is_unary operator ≡ true) × Waits frames before
  Waits (f.Product x operator ∷ frames) texts = (before : List (List ℕ)) × (left : List (List ℕ))
      × (texts ≡ before ++ (left ++ print_operator operator ∷ []))
      × (is_multiplying operator ≡ true)
      × Spelled a_product x left × Clean frames × Waits frames before
  Waits (f.Sum x operator ∷ frames) texts = (before : List (List ℕ)) × (left : List (List ℕ))
      × (texts ≡ before ++ (left ++ print_operator operator ∷ []))
      × (is_multiplying operator ≡ false)
      × Spelled a_sum x left × Outer frames × Waits frames before

  -- a part stands after what waits
  pub record Stands (fits : List (Frame X) → Type 0) (part : Part) (frames : List (Frame X)) (x : X)
      (texts : List (List ℕ)) : Type 0 where
    pub before : List (List ℕ)
    pub last : List (List ℕ)
    pub split : texts ≡ before ++ last
    pub fit : fits frames
    pub waits : Waits frames before
    pub spelled : Spelled part x last

  abbrev Holds : State X → List (List ℕ) → Type 0
  Holds (frames, None) texts = Waits frames texts
  Holds (frames, Some x) texts = Stands Clean a_product frames x texts

  single : {x : X} {texts : List (List ℕ)} → Spelled an_operand x texts → Spelled a_product x texts
  single s = record {
    tree = s.tree;
    valid = one_operand s.valid;
    printed = s.printed;
    gives =
        s.gives;
  }

  single_product : {x : X} {texts : List (List ℕ)} → Spelled a_product x texts
      → Spelled a_sum x texts
  single_product s = record {
    tree = s.tree;
    valid = one_product s.valid;
    printed =
        s.printed;
    gives = s.gives;
  }

  rejoin : (before first second last : List (List ℕ)) (text : List ℕ) → before ≡ first
      ++ (second ++ text ∷ [])
      → before ++ last ≡ first ++ (second ++ text ∷ last)
  rejoin before first second last text e =
      ap (λ t. t ++ last) e ∙ append_assoc first (second ++ text ∷ []) last
      ∙ ap (λ t. first ++ t) (append_assoc second (text ∷ []) last)

  joined_spelled : (part left_part right_part : Part) (operator : Operator) {x y z : X}
      {left right : List (List ℕ)}
      → ((l r : Expression) → IsExpression left_part l → IsExpression right_part r
      → IsExpression part (binary operator l r))
      → Spelled left_part x left → Spelled right_part y right → m.joined operator x y ≡ Some z
      → Spelled part z (left ++ print_operator operator ∷ right)
  joined_spelled part left_part right_part operator {left = left} valid sl sr p = record {
    tree = binary operator sl.tree sr.tree;
    valid = valid sl.tree sr.tree sl.valid sr.valid;
    printed = ap (λ t. t ++ print_operator operator ∷ print sr.tree) sl.printed
        ∙ ap (λ t. left ++ print_operator operator ∷ t) sr.printed;
    gives = rw (sl.gives, sr.gives) p;
  }

  stand : (frames : List (Frame X)) (x : X) (before last : List (List ℕ)) → Clean frames
      → Waits frames before
      → Spelled an_operand x last → (s : List (Frame X) × X) → Some (frames, x) ≡ Some s
      → Stands Clean a_product s.0 s.1 (before ++ last)
  stand frames x before last clean w sp s p =
      subst (λ t. Stands Clean a_product t.0 t.1 (before ++ last)) (some_is (frames, x) s p)
      (record {
        before = before;
        last = last;
        split = refl;
        fit = clean;
        waits = w;
        spelled =
            single sp;
      })

  arrived : (frames : List (Frame X)) (x : X) (before last : List (List ℕ)) → Waits frames before
      → Spelled an_operand x last
      → (s : List (Frame X) × X) → arrive m frames x ≡ Some s
      → Stands Clean a_product s.0 s.1 (before ++ last)
  arrived [] x before last w sp s p = stand [] x before last tt w sp s p
  arrived (f.Open ∷ frames) x before last w sp s p = stand (f.Open ∷ frames) x before last tt w sp s
      p
  arrived (f.Sum left operator ∷ frames) x before last w sp s p =
      stand (f.Sum left operator ∷ frames) x before last tt w sp s p
  arrived (f.Unary operator ∷ frames) x before last w sp s p =
      let q = bind_some (m.signed operator x) (arrive m frames) s p in
      subst (Stands Clean a_product s.0 s.1)
      (sym (ap (λ t. t ++ last) w.1 ∙ append_assoc w.0 (print_operator operator ∷ []) last))
      (arrived frames q.0 w.0 (print_operator operator ∷ last) w.3
      (record {
        tree = unary operator sp.tree;
        valid = after_unary w.2 sp.valid;
        printed = ap (λ t. print_operator operator ∷ t) sp.printed;
        gives = rw sp.gives q.1;
      }) s q.2)
  arrived (f.Product left operator ∷ frames) x before last w sp s p =
      let q = bind_some (m.joined operator left x) (λ y. Some (frames, y)) s p in
      subst (λ t. Stands Clean a_product t.0 t.1 (before ++ last)) (some_is (frames, q.0) s q.2)
      (record {
        before = w.0;
        last = w.1 ++ print_operator operator ∷ last;
        split = rejoin before w.0 w.1 last (print_operator operator) w.2;
        fit = w.5;
        waits = w.6;
        spelled = joined_spelled a_product a_product an_operand operator (λ l r. multiplied w.3) w.4
            sp q.1;
      })

  settle_kept : (frames : List (Frame X)) (x : X) (texts : List (List ℕ)) → Outer frames
      → Stands Clean a_product frames x texts
      → (s : List (Frame X) × X) → Some (frames, x) ≡ Some s → Stands Outer a_sum s.0 s.1 texts
  settle_kept frames x texts outer h s p = subst (λ t. Stands Outer a_sum t.0 t.1 texts)
      (some_is (frames, x) s p)
      (record {
        before = h.before;
        last = h.last;
        split = h.split;
        fit = outer;
        waits =
            h.waits;
        spelled = single_product h.spelled;
      })

  settled : (frames : List (Frame X)) (x : X) (texts : List (List ℕ))
      → Stands Clean a_product frames x texts
      → (s : List (Frame X) × X) → settle m frames x ≡ Some s → Stands Outer a_sum s.0 s.1 texts
  settled [] x texts h s p = settle_kept [] x texts tt h s p
  settled (f.Open ∷ frames) x texts h s p = settle_kept (f.Open ∷ frames) x texts tt h s p
  settled (f.Unary operator ∷ frames) x texts h s p = absurd h.fit
  settled (f.Product left operator ∷ frames) x texts h s p = absurd h.fit
  settled (f.Sum left operator ∷ frames) x texts h s p =
      let q = bind_some (m.joined operator left x) (λ y. Some (frames, y)) s p in
      let w = h.waits in
      subst (λ t. Stands Outer a_sum t.0 t.1 texts) (some_is (frames, q.0) s q.2)
      (record {
        before = w.0;
        last = w.1 ++ print_operator operator ∷ h.last;
        split = h.split ∙ rejoin h.before w.0 w.1 h.last (print_operator operator) w.2;
        fit = w.5;
        waits = w.6;
        spelled = joined_spelled a_sum a_sum a_product operator (λ l r. added w.3) w.4 h.spelled
            q.1;
      })

  closed : (frames : List (Frame X)) (x : X) (texts : List (List ℕ)) (text : List ℕ)
      → text ≡ codes ")" → Stands Outer a_sum frames x texts
      → (s : List (Frame X) × X) → close m (frames, x) ≡ Some s
      → Stands Clean a_product s.0 s.1 (texts ++ text ∷ [])
  closed [] x texts text e h s p = cc
  closed (f.Unary operator ∷ frames) x texts text e h s p = cc
  closed (f.Product left operator ∷ frames) x texts text e h s p = cc
  closed (f.Sum left operator ∷ frames) x texts text e h s p = cc
  closed (f.Open ∷ frames) x texts text e h s p =
      let q = bind_some (m.enclosed x) (arrive m frames) s p in
      let w = h.waits in
      subst (Stands Clean a_product s.0 s.1)
      (sym (ap (λ t. t ++ text ∷ []) (h.split ∙ ap (λ t. t ++ h.last) w.1
      ∙ append_assoc w.0 (codes "(" ∷ []) h.last)
      ∙ append_assoc w.0 (codes "(" ∷ h.last) (text ∷ [])
      ∙ ap (λ t. w.0 ++ (codes "(" ∷ (h.last ++ t ∷ []))) e))
      (arrived frames q.0 w.0 (codes "(" ∷ (h.last ++ codes ")" ∷ [])) w.2
      (record {
        tree = parenthesized h.spelled.tree;
        valid = in_parentheses h.spelled.valid;
        printed = ap (λ t. codes "(" ∷ (t ++ codes ")" ∷ [])) h.spelled.printed;
        gives = rw h.spelled.gives q.1;
      }) s q.2)

  went_begin : (frames : List (Frame X)) (texts : List (List ℕ)) (text : List ℕ) (lexeme : Lexeme)
      → lexeme_of text ≡ lexeme → Waits frames texts
      → (next : State X) → begin m leaf frames text lexeme ≡ Some next
      → Holds next (texts ++ text ∷ [])
  went_begin frames texts text l.Open e w next p = subst (λ t. Holds t (texts ++ text ∷ []))
      (some_is _ next p)
      (texts, ap (λ t. texts ++ t ∷ []) (text_of text l.Open e), w)
  went_begin frames texts text l.Close e w next p = cc
  went_begin frames texts text (l.Operator operator) e w next p =
      (elim (is_unary operator) as (λ b. is_unary operator ≡ b
      → (if b then Some (f.Unary operator ∷ frames, None) else None) ≡ Some next
      → Holds next (texts ++ text ∷ [])) [
        | true ↦ λ u q. subst (λ t. Holds t (texts ++ text ∷ [])) (some_is _ next q)
            (texts, ap (λ t. texts ++ t ∷ []) (text_of text (l.Operator operator) e), u, w)
        | false ↦ λ u q. cc
      ]) refl p
  went_begin frames texts text l.Operand e w next p =
      let q = bind_some (leaf text |> arrive m frames) having next p in
      let r = bind_some (leaf text) (arrive m frames) q.0 q.1 in
      subst (λ t. Holds t (texts ++ text ∷ [])) (some_is _ next q.2)
      (arrived frames r.0 texts (text ∷ []) w
      (record { tree = operand text; valid = one_token e; printed = refl; gives = r.1 }) q.0 r.2)

  longer : (texts before last : List (List ℕ)) (text other : List ℕ) → texts ≡ before ++ last
      → text ≡ other
      → texts ++ text ∷ [] ≡ before ++ (last ++ other ∷ [])
  longer texts before last text other e d = ap (λ t. t ++ text ∷ []) e
      ∙ append_assoc before last (text ∷ []) ∙ ap (λ t. before ++ (last ++ t ∷ [])) d

  went_on : (frames : List (Frame X)) (x : X) (texts : List (List ℕ)) (text : List ℕ)
      (lexeme : Lexeme) → lexeme_of text ≡ lexeme
      → Stands Clean a_product frames x texts → (next : State X)
      → go_on m frames x lexeme ≡ Some next → Holds next (texts ++ text ∷ [])
  went_on frames x texts text l.Open e h next p = cc
  went_on frames x texts text l.Operand e h next p = cc
  went_on frames x texts text l.Close e h next p =
      let q = bind_some (settle m frames x |> close m) having next p in
      let r = bind_some (settle m frames x) (close m) q.0 q.1 in
      subst (λ t. Holds t (texts ++ text ∷ [])) (some_is _ next q.2)
      (closed r.0.0 r.0.1 texts text (text_of text l.Close e) (settled frames x texts h r.0 r.1) q.0
      r.2)
  went_on frames x texts text (l.Operator operator) e h next p =
      (elim (is_multiplying operator) as (λ b. is_multiplying operator ≡ b
      → (if b then Some (f.Product x operator ∷ frames, None) else settle m frames x |> after_sum m
      operator) ≡ Some next → Holds next (texts ++ text ∷ [])) [
        | true ↦ λ t q. subst (λ t. Holds t (texts ++ text ∷ [])) (some_is _ next q) (
          h.before,
          h.last,
          longer texts h.before h.last text (print_operator operator) h.split
              (text_of text (l.Operator operator) e),
          t,
          h.spelled,
          h.fit,
          h.waits,
        )
        | false ↦ λ t q.
            let r = bind_some (settle m frames x) (after_sum m operator) next q in
            let st = settled frames x texts h r.0 r.1 in
            subst (λ t. Holds t (texts ++ text ∷ [])) (some_is _ next r.2) (
              st.before,
              st.last,
              longer texts st.before st.last text (print_operator operator)
                  st.split (text_of text (l.Operator operator) e),
              t,
              st.spelled,
              st.fit,
              st.waits,
            )
      ]) refl p

  went : (state : State X) (texts : List (List ℕ)) (text : List ℕ) (next : State X)
      → Holds state texts
      → step m leaf state text ≡ Some next → Holds next (texts ++ text ∷ [])
  went (frames, None) texts text next h p = went_begin frames texts text (lexeme_of text) refl h
      next p
  went (frames, Some x) texts text next h p = went_on frames x texts text (lexeme_of text) refl h
      next p

  went_all : (texts before : List (List ℕ)) (state next : State X) → Holds state before
      → run m leaf state texts ≡ Some next → Holds next (before ++ texts)
  went_all [] before state next h p = rw (some_is _ _ (sym p)) (rw append-nil h)
  went_all (text ∷ texts) before state next h p =
      let q = bind_some (step m leaf state text) (λ s. run m leaf s texts) next p in
      subst (Holds next) (append_assoc before (text ∷ []) texts)
      (went_all texts (before ++ text ∷ []) q.0 next (went state before text q.0 h q.1) q.2)

  left_alone : (frames : List (Frame X)) (y x : X) (texts : List (List ℕ))
      → Stands Outer a_sum frames y texts
      → alone m (frames, y) ≡ Some x → Spelled a_sum x texts
  left_alone [] y x texts h p = subst (λ z. Spelled a_sum z texts) (some_is y x p)
      (subst (Spelled a_sum y) (sym (h.split ∙ ap (λ t. t ++ h.last) h.waits)) h.spelled)
  left_alone (frame ∷ frames) y x texts h p = cc

  finished : (state : State X) (texts : List (List ℕ)) (x : X) → Holds state texts
      → finish m state ≡ Some x → Spelled a_sum x texts
  finished (frames, None) texts x h p = cc
  finished (frames, Some y) texts x h p =
      let r = bind_some (settle m frames y) (alone m) x p in
      left_alone r.0.0 r.0.1 x texts (settled frames y texts h r.0 r.1) r.2

  pub sound : (texts : List (List ℕ)) (x : X) → whole m leaf texts ≡ Some x → Spelled a_sum x texts
  sound texts x p =
      let q = bind_some (run m leaf ([], None) texts) (finish m) x p in
      finished q.0 texts x (went_all texts [] ([], None) q.0 refl q.1) q.2
