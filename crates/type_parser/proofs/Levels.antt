-- What is spelled within some levels is spelled within one more.
use Rattle.std.proofs.Common.{◌≡◌, ℕ, zero, suc, ◌+◌, ◌-◌, ◌≤◌, Bool, true, false, List, [], ◌∷◌}
use Rattle.std.proofs.Common.{subst, arith}
use Rattle.go_ast.specs.declared.tree.TypeExpr.{TypeExpr}
use Rattle.go_ast.specs.declared.tree.Param.{Param}
use Rattle.go_ast.specs.declared.tree.Signature.{Signature}
use Rattle.go_ast.specs.declared.tree.Field.{Field}
use Rattle.go_ast.specs.declared.tree.Element.{Element}
use Rattle.go_ast.specs.declared.tree.Term.{Term}
use Rattle.go_ast.specs.declared.token.Span.{Span}
use Rattle.go_ast.specs.declared.word.Word.{Word}
use Rattle.go_ast.specs.Cutting.{Each}
use Rattle.type_parser.proofs.TypeLaws.{one-type}
use Rattle.go_ast.specs.Types as g
use Rattle.go_ast.specs.Types.{Spells, Typed, Named, Unnamed, Params, IsSignature, Declared}
use Rattle.go_ast.specs.Types.{IsFieldBody, IsField, IsTerm, AreTerms, IsElement, Arguments, IsType}

each-more : {A : Type 0} (S R : List Word → A → Type 0)
    → ((ws : List Word) (x : A) → S ws x → R ws x)
    → (ps : List (List Word)) (xs : List A) → Each S ps xs → Each R ps xs
each-more S R h [] [] e = tt
each-more S R h [] (x ∷ xs) e = absurd e
each-more S R h (p ∷ ps) [] e = absurd e
each-more S R h (p ∷ ps) (x ∷ xs) e = (h p x e.0, each-more S R h ps xs e.1)

module _ (S R : List Word → TypeExpr → Type 0)
    (h : (ws : List Word) (x : TypeExpr) → S ws x → R ws x) where
  typed-more : (dots : Bool) (ws : List Word) (x : TypeExpr) (v : Bool) → Typed S dots ws x v
      → Typed R dots ws x v
  typed-more _ _ _ _ (g.plain dots {ws} {x} s) = g.plain dots (h ws x s)
  typed-more _ _ _ _ (g.variadic w {ws} {x} is s) = g.variadic w is (h ws x s)

  named-more : (dots : Bool) (es : List (List Word)) (ps : List Param) → Named S dots es ps
      → Named R dots es ps
  named-more _ _ _ (g.final dots name {ws} {x} {v} is s) =
      g.final dots name is (typed-more dots ws x v s)
  named-more _ _ _ (g.typed dots name {ws} {x} {es} {ps} is s r) =
      g.typed dots name is (h ws x s) (named-more dots es ps r)
  named-more _ _ _ (g.shared dots name {es} {p} {ps} is r off) =
      g.shared dots name is (named-more dots es (p ∷ ps) r) off

  unnamed-more : (dots : Bool) (es : List (List Word)) (ps : List Param) → Unnamed S dots es ps
      → Unnamed R dots es ps
  unnamed-more _ _ _ (g.empty dots) = g.empty dots
  unnamed-more _ _ _ (g.ultimate dots {ws} {x} {v} s) = g.ultimate dots (typed-more dots ws x v s)
  unnamed-more _ _ _ (g.further dots {ws} {x} {es} {ps} s r) =
      g.further dots (h ws x s) (unnamed-more dots es ps r)

  params-more : (dots : Bool) (ws : List Word) (ps : List Param) → Params S dots ws ps
      → Params R dots ws ps
  params-more _ _ _ (g.with_names dots {ws} {ps} s) = g.with_names dots (named-more dots _ ps s)
  params-more _ _ _ (g.without_names dots {ws} {ps} s) =
      g.without_names dots (unnamed-more dots _ ps s)

  signature-more : (ws : List Word) (sig : Signature) → IsSignature S ws sig → IsSignature R ws sig
  signature-more _ _ (g.no_result {ws} {inner} {ps} brackets s) =
      g.no_result brackets (params-more true inner ps s)
  signature-more _ _ (g.results {ws} {inner} {rest} {outs} {ps} {rs} brackets others s r) =
      g.results brackets others (params-more true inner ps s) (params-more false outs rs r)
  signature-more _ _ (g.one_result {ws} {inner} {rest} v {ps} {x} brackets off s r) =
      g.one_result v brackets off (params-more true inner ps s) (h (v ∷ rest) x r)

  declared-more : (ws : List Word) (names : List Span) (x : TypeExpr) → Declared S ws names x
      → Declared R ws names x
  declared-more _ _ _ (g.one name {ws} {x} is s) = g.one name is (h ws x s)
  declared-more _ _ _ (g.more name comma {ws} {names} {x} is is_comma r) =
      g.more name comma is is_comma (declared-more ws names x r)

  body-more : (ws : List Word) (names : List Span) (x : TypeExpr) → IsFieldBody S ws names x
      → IsFieldBody R ws names x
  body-more _ _ _ (g.with_names {ws} {names} {x} s) = g.with_names (declared-more ws names x s)
  body-more _ _ _ (g.embedded name {ws} {x} is s) = g.embedded name is (h (name ∷ ws) x s)
  body-more _ _ _ (g.embedded_pointer star name {ws} {x} is is_name s) =
      g.embedded_pointer star name is is_name (h (star ∷ name ∷ ws) x s)

  field-more : (ws : List Word) (x : Field) → IsField S ws x → IsField R ws x
  field-more _ _ (g.declared w {ws} {names} {x} s) = g.declared w (body-more _ names x s)

  term-more : (ws : List Word) (x : Term) → IsTerm S ws x → IsTerm R ws x
  term-more _ _ (g.exactly {ws} {x} s) = g.exactly (h ws x s)
  term-more _ _ (g.underlying tilde {ws} {x} is s) = g.underlying tilde is (h ws x s)

  terms-more : (ws : List Word) (xs : List Term) → AreTerms S ws xs → AreTerms R ws xs
  terms-more _ _ (g.terms w {ws} {x} {xs} off s) =
      g.terms w off (each-more (IsTerm S) (IsTerm R) term-more _ (x ∷ xs) s)

  element-more : (ws : List Word) (x : Element) → IsElement S ws x → IsElement R ws x
  element-more _ _ (g.method name {ws} {sig} is s) = g.method name is (signature-more ws sig s)
  element-more _ _ (g.union w {ws} {xs} s) = g.union w (terms-more (w ∷ ws) xs s)

  arguments-more : (ws : List Word) (xs : List TypeExpr) → Arguments S ws xs → Arguments R ws xs
  arguments-more _ _ g.absent = g.absent
  arguments-more _ _ (g.present {ws} {inner} {x} {xs} brackets s) =
      g.present brackets (each-more S R h _ (x ∷ xs) s)

  type-more : (ws : List Word) (x : TypeExpr) → IsType S ws x → IsType R ws x
  type-more _ _ (g.local name {ws} {xs} is s) = g.local name is (arguments-more ws xs s)
  type-more _ _ (g.qualified first dot name {ws} {xs} is is_dot is_name s) =
      g.qualified first dot name is is_dot is_name (arguments-more ws xs s)
  type-more _ _ (g.in_parentheses {ws} {inner} {x} brackets s) =
      g.in_parentheses brackets (h inner x s)
  type-more _ _ (g.pointer star {ws} {x} is s) = g.pointer star is (h ws x s)
  type-more _ _ (g.slice {ws} {rest} {x} brackets s) = g.slice brackets (h rest x s)
  type-more _ _ (g.array {ws} {rest} first run {x} brackets is s) =
      g.array first run brackets is (h rest x s)
  type-more _ _ (g.map word {ws} {inner} {rest} {key} {value} is brackets k v) =
      g.map word is brackets (h inner key k) (h rest value v)
  type-more _ _ (g.channel word {next} {ws} {x} is off s) =
      g.channel word is off (h (next ∷ ws) x s)
  type-more _ _ (g.sending word arrow {ws} {x} is is_arrow s) =
      g.sending word arrow is is_arrow (h ws x s)
  type-more _ _ (g.receiving arrow word {ws} {x} is is_chan s) =
      g.receiving arrow word is is_chan (h ws x s)
  type-more _ _ (g.function word {ws} {sig} is s) = g.function word is (signature-more ws sig s)
  type-more _ _ (g.structure word {ws} {inner} fields is brackets s) =
      g.structure word fields is brackets (each-more (IsField S) (IsField R) field-more _ fields s)
  type-more _ _ (g.interface word {ws} {inner} es is brackets s) =
      g.interface word es is brackets (each-more (IsElement S) (IsElement R) element-more _ es s)

pub one-level-more : (levels : ℕ) (ws : List Word) (x : TypeExpr) → Spells levels ws x
    → Spells (suc levels) ws x
unfolding Spells
one-level-more zero ws x s = absurd s
one-level-more (suc levels) ws x s =
    type-more (Spells levels) (Spells (suc levels)) (one-level-more levels) ws x s

pub levels-more : (more levels : ℕ) (ws : List Word) (x : TypeExpr) → Spells levels ws x
    → Spells (more + levels) ws x
levels-more zero levels ws x s = let e : levels ≡ 0 + levels = omega arith in
    subst (λ k. Spells k ws x) e s
levels-more (suc more) levels ws x s =
    let e : suc (more + levels) ≡ suc more + levels = omega arith in
    subst (λ k. Spells k ws x) e
    (one-level-more (more + levels) ws x (levels-more more levels ws x s))

pub levels-up : (n m : ℕ) (ws : List Word) (x : TypeExpr) → n ≤ m → Spells n ws x → Spells m ws x
levels-up n m ws x h s = let e : (m - n) + n ≡ m = omega (arith, h) in
    subst (λ k. Spells k ws x) e (levels-more (m - n) n ws x s)

-- words spell at most one type, within any levels
pub same-type : (n m : ℕ) (ws : List Word) (x y : TypeExpr) → Spells n ws x → Spells m ws y → x ≡ y
same-type n m ws x y s r =
    one-type (n + m) ws x y (levels-up n (n + m) ws x (omega arith) s)
    (levels-up m (n + m) ws y (omega arith) r)
