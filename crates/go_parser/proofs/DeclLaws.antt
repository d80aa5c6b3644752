-- Declarations: what is read is spelled so, what is spelled so is read, and a chunk spells at most
-- one.
use Rattle.std.proofs.Common.{◌≡◌, ◌≢◌, ◌∙◌, ap, sym, refl, subst, ℕ, zero, suc, Bool, true, false}
use Rattle.std.proofs.Common.{List, [], ◌∷◌, ◌++◌, ◌-◌, drop, Option, Some, None, ⊎_elim, ◌⊎◌, inl}
use Rattle.std.proofs.Common.{inr}
use Rattle.std.proofs.Common.{arith}
use Rattle.std.proofs.lemmas.Grind.{common_steps}
use Rattle.go_ast.specs.declared.declaration.Decl.{Decl}
use Rattle.go_ast.specs.declared.declaration.Decl.TheVariants as decls
use Rattle.go_ast.specs.declared.declaration.FuncDecl.{FuncDecl}
use Rattle.go_ast.specs.declared.declaration.Group.{Group}
use Rattle.go_ast.specs.declared.token.TokenRange.{TokenRange}
use Rattle.go_ast.specs.declared.word.Word.{Word}
use Rattle.go_ast.specs.declared.word.Mark.{Mark}
use Rattle.go_ast.specs.declared.word.Mark.TheVariants as m
use Rattle.go_ast.specs.Cutting.{depth_after, Nests, range_of}
use Rattle.go_ast.specs.Declarations as g
use Rattle.go_ast.specs.Declarations.{EndsInBody, IsConstSpec, IsDecl, IsFunction, IsGroup}
use Rattle.go_ast.specs.Declarations.{IsImportSpec, IsTypeSpec, IsVarSpec, Precedes}
use Rattle.go_ast.specs.Marks.{closes, opens}
use Rattle.go_parser.specs.Reading.{read_by_keyword, read_decl, read_function, read_group}
use Rattle.go_parser.specs.Reading.{read_import_spec, read_type_spec, read_value_spec}
use Rattle.go_parser.proofs.FunctionLaws.{function-complete, function-sound}
use Rattle.go_parser.proofs.GroupLaws.{group-complete, group-sound, import-alone, import-complete}
use Rattle.go_parser.proofs.GroupLaws.{import-sound}
use Rattle.go_parser.proofs.TypeSpecLaws.{type_spec-alone, type_spec-complete, type_spec-sound}
use Rattle.go_parser.proofs.ValueLaws.{value-alone, value-complete, value-sound}
use Rattle.type_parser.specs.Reading.{◌<$>◌}
use Rattle.type_parser.proofs.GrammarLaws.{some-is}
use Rattle.type_parser.proofs.GrammarLaws.{map_some}

-- words nest at one depth alone
same-step : (d e : ℕ) (mark : Mark) → (d ≡ 0 → closes mark ≡ false) → (e ≡ 0 → closes mark ≡ false)
    → depth_after d mark ≡ depth_after e mark → d ≡ e
same-step d e mark h k s = go (opens mark) refl (closes mark) refl
  where
    go : (o : Bool) → opens mark ≡ o → (c : Bool) → closes mark ≡ c → d ≡ e
    go true o c f = let t : suc d ≡ suc e = (rw o at s) in omega (arith, t)
    go false o true f = below d e (λ z. absurd (cc (h z, f))) (λ z. absurd (cc (k z, f)))
        (rw (o, f) at s)
      where
        below : (i j : ℕ) → (i ≡ 0 → ⊥) → (j ≡ 0 → ⊥) → i - 1 ≡ j - 1 → i ≡ j
        below zero j p q r = absurd (p refl)
        below (suc i) zero p q r = absurd (q refl)
        below (suc i) (suc j) p q r = omega (arith, r)
    go false o false f = rw (o, f) at s

same-depth : (d e : ℕ) (ws : List Word) → Nests d ws → Nests e ws → d ≡ e
same-depth d e [] n k = n ∙ sym k
same-depth d e (w ∷ ws) n k = same-step d e w.mark n.0 k.0
    (same-depth (depth_after d w.mark) (depth_after e w.mark) ws n.1 k.1)

-- what nests has no bracket with only what nests after it
no-later : (d : ℕ) (front : List Word) (o : Word) (inner : List Word) → opens o.mark ≡ true
    → Nests d (front ++ o ∷ inner) → Nests 0 inner → ⊥
no-later d [] o inner is n k =
    let deeper : Nests (suc d) inner = (rw is at n.1) in
    let same = same-depth (suc d) 0 inner deeper k in absurd (omega (arith, same))
no-later d (w ∷ front) o inner is n k = no-later (depth_after d w.mark) front o inner is n.1 k

-- so the last bracket with only what nests after it is one
pub one-opening : (front1 front2 : List Word) (o1 o2 : Word) (inner1 inner2 : List Word)
    → opens o1.mark ≡ true → opens o2.mark ≡ true → Nests 0 inner1 → Nests 0 inner2
    → front1 ++ o1 ∷ inner1 ≡ front2 ++ o2 ∷ inner2
    → (front1 ≡ front2) × (o1 ≡ o2) × (inner1 ≡ inner2)
one-opening [] [] o1 o2 inner1 inner2 p q n k e = (refl, cc, cc)
one-opening [] (w ∷ front2) o1 o2 inner1 inner2 p q n k e =
    let later : inner1 ≡ front2 ++ o2 ∷ inner2 = cc in
    absurd (no-later 0 front2 o2 inner2 q (subst (Nests 0) later n) k)
one-opening (w ∷ front1) [] o1 o2 inner1 inner2 p q n k e =
    let later : front1 ++ o1 ∷ inner1 ≡ inner2 = cc in
    absurd (no-later 0 front1 o1 inner1 p (subst (Nests 0) (sym later) k) n)
one-opening (w ∷ front1) (v ∷ front2) o1 o2 inner1 inner2 p q n k e =
    let first : w ≡ v = cc in
    let others : front1 ++ o1 ∷ inner1 ≡ front2 ++ o2 ∷ inner2 = cc in
    let rest = one-opening front1 front2 o1 o2 inner1 inner2 p q n k others in
    (cc (first, rest.0), rest.1, rest.2)

pub snoc-same : (xs ys : List Word) (c d : Word) → xs ++ c ∷ [] ≡ ys ++ d ∷ [] → (xs ≡ ys) × (c ≡ d)
snoc-same [] [] c d e = (refl, cc)
snoc-same [] (y ∷ []) c d e = absurd (cc)
snoc-same [] (y ∷ z ∷ ys) c d e = absurd (cc)
snoc-same (x ∷ []) [] c d e = absurd (cc)
snoc-same (x ∷ z ∷ xs) [] c d e = absurd (cc)
snoc-same (x ∷ xs) (y ∷ ys) c d e =
    let first : x ≡ y = cc in
    let others : xs ++ c ∷ [] ≡ ys ++ d ∷ [] = cc in
    let rest = snoc-same xs ys c d others in
    (cc (first, rest.0), rest.1)

-- the words before a body, its brace and what it encloses, and the closing brace
pub apart : (front : List Word) (before o : Word) (inner : List Word) (c : Word)
    → front ++ before ∷ o ∷ inner ++ c ∷ [] ≡ ((front ++ before ∷ []) ++ o ∷ inner) ++ c ∷ []
apart front before o inner c = grind (arith, common_steps)

-- words end in at most one body
one-body : (ws us front1 front2 : List Word) (tokens1 tokens2 : TokenRange)
    → EndsInBody ws front1 tokens1 → EndsInBody us front2 tokens2 → ws ≡ us
    → (front1 ≡ front2) × (tokens1 ≡ tokens2)
one-body _ _ _ _ _ _ (g.braces front1 before1 o1 inner1 c1 t1 p1 q1 n1)
    (g.braces front2 before2 o2 inner2 c2 t2 p2 q2 n2) e =
    let whole = sym (apart front1 before1 o1 inner1 c1) ∙ e ∙ apart front2 before2 o2 inner2 c2 in
    let last = snoc-same ((front1 ++ before1 ∷ []) ++ o1 ∷ inner1)
    ((front2 ++ before2 ∷ []) ++ o2 ∷ inner2) c1 c2 whole in
    let one = one-opening (front1 ++ before1 ∷ []) (front2 ++ before2 ∷ []) o1 o2 inner1 inner2
    (ap opens p1) (ap opens p2) n1 n2 last.0 in
    (one.0, cc (one.1, one.2, last.1))

precedes-one : (ws front1 front2 : List Word) (body1 body2 : Option TokenRange)
    → Precedes ws front1 body1 → Precedes ws front2 body2 → (front1 ≡ front2) × (body1 ≡ body2)
precedes-one ws _ _ _ _ (g.with_body {front = front1} {tokens = tokens1} b1)
    (g.with_body {front = front2} {tokens = tokens2} b2) =
    let one = one-body ws ws front1 front2 tokens1 tokens2 b1 b2 refl in (one.0, ap Some one.1)
precedes-one ws _ _ _ _ (g.with_body {front = front1} {tokens = tokens1} b1) (g.without_body none) =
    absurd (none front1 tokens1 b1)
precedes-one ws _ _ _ _ (g.without_body none) (g.with_body {front = front2} {tokens = tokens2} b2) =
    absurd (none front2 tokens2 b2)
precedes-one ws _ _ _ _ (g.without_body none1) (g.without_body none2) = (refl, refl)

-- what stands before a body begins with the first word
body-begins : (us front : List Word) (tokens : TokenRange) (w : Word) (ws : List Word)
    → EndsInBody us front tokens → us ≡ w ∷ ws → (vs : List Word) × (front ≡ w ∷ vs)
body-begins _ _ _ w ws (g.braces [] before o inner c t p q n) e =
    let first : before ≡ w = cc in ([], cc first)
body-begins _ _ _ w ws (g.braces (v ∷ vs) before o inner c t p q n) e =
    let first : v ≡ w = cc in (vs ++ before ∷ [], cc first)

pub precedes-begins : (us front : List Word) (body : Option TokenRange) (w : Word) (ws : List Word)
    → Precedes us front body → us ≡ w ∷ ws → (vs : List Word) × (front ≡ w ∷ vs)
precedes-begins us _ _ w ws (g.with_body {front = front} {tokens = tokens} b) e =
    body-begins us front tokens w ws b e
precedes-begins us _ _ w ws (g.without_body none) e = (ws, e)

keyword-sound : (mark : Mark) (w : Word) (ws front : List Word) (body : Option TokenRange)
    (x : Decl) → w.mark ≡ mark → (mark ≡ m.Func → Precedes (w ∷ ws) front body)
    → read_by_keyword mark (range_of w ws) ws front body ≡ Some x → IsDecl (w ∷ ws) x
keyword-sound m.Import w ws front body x is p e =
    let read = map_some decls.Import (read_group read_import_spec (range_of w ws) ws) x e in
    subst (IsDecl (w ∷ ws)) read.2
    (g.imports (group-sound read_import_spec IsImportSpec import-sound m.Import w ws read.0 is
    read.1))
keyword-sound m.Const w ws front body x is p e =
    let read = map_some decls.Const (read_group (read_value_spec true) (range_of w ws) ws) x e in
    subst (IsDecl (w ∷ ws)) read.2
    (g.constants (group-sound (read_value_spec true) IsConstSpec (value-sound true) m.Const w ws
    read.0 is read.1))
keyword-sound m.Var w ws front body x is p e =
    let read = map_some decls.Var (read_group (read_value_spec false) (range_of w ws) ws) x e in
    subst (IsDecl (w ∷ ws)) read.2
    (g.variables (group-sound (read_value_spec false) IsVarSpec (value-sound false) m.Var w ws
    read.0 is read.1))
keyword-sound m.Type w ws front body x is p e =
    let read = map_some decls.Types (read_group read_type_spec (range_of w ws) ws) x e in
    subst (IsDecl (w ∷ ws)) read.2
    (g.types (group-sound read_type_spec IsTypeSpec type_spec-sound m.Type w ws read.0 is read.1))
keyword-sound m.Func w ws front body x is p e =
    let begun = precedes-begins (w ∷ ws) front body w ws (p refl) refl in
    let fact = subst (λ us. (decls.Func <$> read_function (range_of w ws) body (drop 1 us))
    ≡ Some x)
    begun.1 e in
    let read = map_some decls.Func (read_function (range_of w ws) body begun.0) x fact in
    subst (IsDecl (w ∷ ws)) read.2
    (g.func w (p refl)
    (subst (λ us. IsFunction (range_of w ws) body us read.0) (sym begun.1)
    (function-sound (range_of w ws) body w begun.0 read.0 is read.1)))
keyword-sound _ w ws front body x is p e = absurd (cc)

-- what is read is spelled so; what stands before a body counts for functions alone
pub decl-sound : (w : Word) (ws front : List Word) (body : Option TokenRange) (x : Decl)
    → (w.mark ≡ m.Func → Precedes (w ∷ ws) front body) → read_decl (w ∷ ws) front body ≡ Some x
    → IsDecl (w ∷ ws) x
unfolding read_decl
decl-sound w ws front body x p e = keyword-sound w.mark w ws front body x refl p e

-- by the first word's mark
at-keyword : (w : Word) (ws front : List Word) (body : Option TokenRange) (x : Decl) (mark : Mark)
    → w.mark ≡ mark → read_by_keyword mark (range_of w ws) ws front body ≡ Some x
    → read_decl (w ∷ ws) front body ≡ Some x
unfolding read_decl
at-keyword w ws front body x mark is e =
    subst (λ k. read_by_keyword k (range_of w ws) ws front body ≡ Some x) (sym is) e

-- a group begins with its keyword
group-begins : {A : Type 0} (S : List Word → A → Type 0) (keyword : Mark) (us : List Word)
    (x : Group A) → IsGroup S keyword us x
    → (w : Word) × (ws : List Word) × (us ≡ w ∷ ws) × (w.mark ≡ keyword)
group-begins S keyword _ _ (g.single word {ws} is s) = (word, ws, refl, is)
group-begins S keyword _ _ (g.listed word {ws} is brackets s) = (word, ws, refl, is)

-- a function begins with `func`
function-begins : (tokens : TokenRange) (body : Option TokenRange) (us : List Word) (x : FuncDecl)
    → IsFunction tokens body us x → (w : Word) × (ws : List Word) × (us ≡ w ∷ ws)
    × (w.mark ≡ m.Func)
function-begins tokens body _ _ (g.plain word name {ws} is is_name s) =
    (word, name ∷ ws, refl, is)
function-begins tokens body _ _ (g.generic word name {ws} is is_name brackets entries s) =
    (word, name ∷ ws, refl, is)
function-begins tokens body _ _ (g.method word name {ws} is brackets one r is_name s) =
    (word, ws, refl, is)

-- what is spelled so is read: a group whatever stands before a body
pub decl-either : (ws : List Word) (x : Decl) → IsDecl ws x
    → ((front : List Word) (body : Option TokenRange) → read_decl ws front body ≡ Some x)
    ⊎ ((front : List Word) × (body : Option TokenRange) × Precedes ws front body
    × (read_decl ws front body ≡ Some x)
    × ((w : Word) (us : List Word) → ws ≡ w ∷ us → w.mark ≡ m.Func))
decl-either _ _ (g.imports {ws} {specs} s) = inl (λ front body.
    let begun = group-begins IsImportSpec m.Import ws specs s in
    let read = group-complete read_import_spec IsImportSpec import-complete import-alone m.Import
    begun.0 begun.1 specs (subst (λ us. IsGroup IsImportSpec m.Import us specs) begun.2 s) in
    subst (λ us. read_decl us front body ≡ Some (decls.Import specs)) (sym begun.2)
    (at-keyword begun.0 begun.1 front body (decls.Import specs) m.Import begun.3
    (ap (λ o. decls.Import <$> o) read)))
decl-either _ _ (g.constants {ws} {specs} s) = inl (λ front body.
    let begun = group-begins IsConstSpec m.Const ws specs s in
    let read = group-complete (read_value_spec true) IsConstSpec (value-complete true)
    (value-alone true) m.Const
    begun.0 begun.1 specs (subst (λ us. IsGroup IsConstSpec m.Const us specs) begun.2 s) in
    subst (λ us. read_decl us front body ≡ Some (decls.Const specs)) (sym begun.2)
    (at-keyword begun.0 begun.1 front body (decls.Const specs) m.Const begun.3
    (ap (λ o. decls.Const <$> o) read)))
decl-either _ _ (g.variables {ws} {specs} s) = inl (λ front body.
    let begun = group-begins IsVarSpec m.Var ws specs s in
    let read = group-complete (read_value_spec false) IsVarSpec (value-complete false)
    (value-alone false) m.Var
    begun.0 begun.1 specs (subst (λ us. IsGroup IsVarSpec m.Var us specs) begun.2 s) in
    subst (λ us. read_decl us front body ≡ Some (decls.Var specs)) (sym begun.2)
    (at-keyword begun.0 begun.1 front body (decls.Var specs) m.Var begun.3
    (ap (λ o. decls.Var <$> o) read)))
decl-either _ _ (g.types {ws} {specs} s) = inl (λ front body.
    let begun = group-begins IsTypeSpec m.Type ws specs s in
    let read = group-complete read_type_spec IsTypeSpec type_spec-complete type_spec-alone m.Type
    begun.0 begun.1 specs (subst (λ us. IsGroup IsTypeSpec m.Type us specs) begun.2 s) in
    subst (λ us. read_decl us front body ≡ Some (decls.Types specs)) (sym begun.2)
    (at-keyword begun.0 begun.1 front body (decls.Types specs) m.Type begun.3
    (ap (λ o. decls.Types <$> o) read)))
decl-either _ _ (g.func w {ws} {front} {body} {f} p s) = inr (
  front,
  body,
  p,
  (let begun = precedes-begins (w ∷ ws) front body w ws p refl in
      let first = function-begins (range_of w ws) body front f s in
      let is : w.mark ≡ m.Func = cc (begun.1, first.2, first.3) in
      let read = function-complete (range_of w ws) body w begun.0 f
      (subst (λ us. IsFunction (range_of w ws) body us f) begun.1 s) in
      at-keyword w ws front body (decls.Func f) m.Func is
      (subst (λ us. (decls.Func <$> read_function (range_of w ws) body (drop 1 us))
      ≡ Some (decls.Func f)) (sym begun.1) (ap (λ o. decls.Func <$> o) read))),
  λ v vs e.
      let begun = precedes-begins (w ∷ ws) front body w ws p refl in
      let first = function-begins (range_of w ws) body front f s in
      cc (begun.1, first.2, first.3, e),
)

pub decl-complete : (ws front : List Word) (body : Option TokenRange) (x : Decl)
    → Precedes ws front body → IsDecl ws x → read_decl ws front body ≡ Some x
decl-complete ws front body x p d = ⊎_elim
    (λ all. all front body)
    (λ one. let same = precedes-one ws one.0 front one.1 body one.2 p in
    subst (λ b. read_decl ws front b ≡ Some x) same.1
    (subst (λ us. read_decl ws us one.1 ≡ Some x) same.0 one.3))
    (decl-either ws x d)

pub decl-read : (w : Word) (ws front : List Word) (body : Option TokenRange) (x : Decl)
    → (w.mark ≡ m.Func → Precedes (w ∷ ws) front body) → IsDecl (w ∷ ws) x
    → read_decl (w ∷ ws) front body ≡ Some x
decl-read w ws front body x p d = ⊎_elim
    (λ all. all front body)
    (λ one. decl-complete (w ∷ ws) front body x (p (one.4 w ws refl)) d)
    (decl-either (w ∷ ws) x d)

-- a chunk spells at most one declaration
pub one-decl : (ws : List Word) (x y : Decl) → IsDecl ws x → IsDecl ws y → x ≡ y
one-decl ws x y d e = ⊎_elim
    (λ all. ⊎_elim
    (λ others. some-is x y (sym (all [] None) ∙ others [] None))
    (λ one. some-is x y (sym (all one.0 one.1) ∙ one.3))
    (decl-either ws y e))
    (λ one. some-is x y (sym one.3 ∙ decl-complete ws one.0 one.1 y one.2 e))
    (decl-either ws x d)
