-- Functions and methods: what is read is spelled so, and what is spelled so is read.
use Rattle.std.proofs.Common.{◌≡◌, ◌∙◌, ap, sym, refl, subst, Bool, true, false, ◌&&◌}
use Rattle.std.proofs.Common.{cond, List, [], ◌∷◌, Option, Some, None, ⊎_elim}
use Rattle.go_ast.specs.declared.declaration.FuncDecl.{FuncDecl}
use Rattle.go_ast.specs.declared.declaration.Receiver.{Receiver}
use Rattle.go_ast.specs.declared.token.Span.{Span}
use Rattle.go_ast.specs.declared.token.TokenRange.{TokenRange}
use Rattle.go_ast.specs.declared.tree.TheConstants.{MAX_TYPE_LEVELS}
use Rattle.go_ast.specs.declared.word.Word.{Word}
use Rattle.go_ast.specs.declared.word.Mark.TheVariants as m
use Rattle.go_ast.specs.Cutting.{Encloses, pieces}
use Rattle.go_ast.specs.Declarations as g
use Rattle.go_ast.specs.Declarations.{AreReceiverParams, IsFunction, IsName, IsReceiver}
use Rattle.go_ast.specs.Declarations.{IsReceiverType, receiver}
use Rattle.go_ast.specs.Marks.{same_mark}
use Rattle.go_ast.specs.Types.{Spells}
use Rattle.go_parser.specs.Reading.{begins_receiver_type, generic_function, method, names_in}
use Rattle.go_parser.specs.Reading.{only_receiver, plain_function, read_base, read_function}
use Rattle.go_parser.specs.Reading.{read_generic, read_method, read_name, read_named_function}
use Rattle.go_parser.specs.Reading.{read_receiver, read_receiver_params}
use Rattle.go_parser.specs.Reading.{read_receiver_type, signature_in}
use Rattle.type_parser.specs.Cut.{enclosed}
use Rattle.type_parser.specs.Reading.{◌>>=◌, ◌<$>◌, alone, each, not_empty, type_of}
use Rattle.type_parser.specs.TypeParams.{read_entries}
use Rattle.type_parser.proofs.GrammarLaws.{marks_are, marks_same, marks_differ, some-is}
use Rattle.type_parser.proofs.GrammarLaws.{alone-complete, alone-sound, enclosed-sound, opens-with}
use Rattle.type_parser.proofs.GrammarLaws.{bind_some, choice, each-complete, each-sound, guard_some}
use Rattle.type_parser.proofs.GrammarLaws.{map_some, not_empty_some}
use Rattle.type_parser.proofs.GrammarLaws.{signature-begins, read_signature-complete}
use Rattle.type_parser.proofs.GrammarLaws.{read_signature-sound}
use Rattle.type_parser.proofs.GrammarLaws.{read_entries-complete, read_entries-sound}

name-sound : (ws : List Word) (x : Span) → read_name ws ≡ Some x → IsName ws x
name-sound [] x e = absurd (cc)
name-sound (w ∷ []) x e =
    let test = guard_some (same_mark w.mark m.Ident) (Some w.span) x e in
    subst (IsName (w ∷ [])) (some-is w.span x test.1)
    (g.ident w (marks_are w.mark m.Ident test.0))
name-sound (w ∷ v ∷ vs) x e = absurd (cc)

name-complete : (ws : List Word) (x : Span) → IsName ws x → read_name ws ≡ Some x
name-complete _ _ (g.ident word is) = rw (marks_same word.mark m.Ident is) refl

receiver-params-sound : (ws : List Word) (xs : List Span) → read_receiver_params ws ≡ Some xs
    → AreReceiverParams ws xs
unfolding read_receiver_params names_in
receiver-params-sound [] xs e =
    let none : [] ≡ xs = some-is [] xs e in subst (AreReceiverParams []) none g.absent
receiver-params-sound (w ∷ ws) xs e =
    let test = guard_some (same_mark w.mark m.OpenBracket) (alone m.CloseBracket ws >>= names_in) xs
    e in
    let inner = bind_some (alone m.CloseBracket ws) names_in xs test.1 in
    let all = bind_some (each read_name (pieces m.Comma inner.0)) not_empty xs inner.2 in
    let some = not_empty_some all.0 xs all.2 in
    let shown : xs ≡ some.0 ∷ some.1 = some.2 in
    let spelled = each-sound read_name IsName name-sound (pieces m.Comma inner.0)
    (some.0 ∷ some.1) (all.1 ∙ ap Some (some.3 ∙ shown)) in
    subst (AreReceiverParams (w ∷ ws)) (sym shown)
    (g.present (alone-sound m.OpenBracket m.CloseBracket w ws inner.0
    (marks_are w.mark m.OpenBracket test.0) inner.1) spelled)

receiver-params-complete : (ws : List Word) (xs : List Span) → AreReceiverParams ws xs
    → read_receiver_params ws ≡ Some xs
unfolding read_receiver_params names_in
receiver-params-complete _ _ g.absent = refl
receiver-params-complete _ _ (g.present {ws} {inner} {name} {names} brackets spelled) =
    let begun = opens-with m.OpenBracket m.CloseBracket ws inner [] refl brackets in
    rw (
      begun.2,
      marks_same begun.0.mark m.OpenBracket begun.3,
      alone-complete m.CloseBracket begun.1 inner begun.4,
      each-complete read_name IsName name-complete (pieces m.Comma inner) (name ∷ names) spelled,
    ) refl

receiver-type-sound : (name : Option Span) (ws : List Word) (x : Receiver)
    → read_receiver_type name ws ≡ Some x → IsReceiverType name ws x
unfolding read_receiver_type
receiver-type-sound name [] x e = absurd (cc)
receiver-type-sound name (w ∷ ws) x e = ⊎_elim
    (λ p. after-star w ws (marks_are w.mark m.Star p.0) p.1)
    (λ p. let test = guard_some (same_mark w.mark m.Ident)
    (receiver name false w.span <$> read_receiver_params ws) x p.1 in
    let read = map_some (receiver name false w.span) (read_receiver_params ws) x test.1 in
    subst (IsReceiverType name (w ∷ ws)) read.2
    (g.by_value w (marks_are w.mark m.Ident test.0) (receiver-params-sound ws read.0 read.1)))
    (choice (same_mark w.mark m.Star) (read_base name true ws) (read_base name false (w ∷ ws))
    (Some x) e)
  where
    after-star : (star : Word) (us : List Word) → star.mark ≡ m.Star
        → read_base name true us ≡ Some x → IsReceiverType name (star ∷ us) x
    after-star star [] is f = absurd (cc)
    after-star star (base ∷ us) is f =
        let test = guard_some (same_mark base.mark m.Ident)
        (receiver name true base.span <$> read_receiver_params us) x f in
        let read = map_some (receiver name true base.span) (read_receiver_params us) x test.1 in
        subst (IsReceiverType name (star ∷ base ∷ us)) read.2
        (g.by_pointer star base is (marks_are base.mark m.Ident test.0)
        (receiver-params-sound us read.0 read.1))

receiver-type-complete : (name : Option Span) (ws : List Word) (x : Receiver)
    → IsReceiverType name ws x → read_receiver_type name ws ≡ Some x
unfolding read_receiver_type
receiver-type-complete name _ _ (g.by_value base {ws} {params} is spelled) =
    rw (
      marks_differ base.mark m.Star (λ e. absurd (cc (is, e))),
      marks_same base.mark m.Ident is,
      receiver-params-complete ws params spelled,
    ) refl
receiver-type-complete name _ _ (g.by_pointer star base {ws} {params} is is_base spelled) =
    rw (
      marks_same star.mark m.Star is,
      marks_same base.mark m.Ident is_base,
      receiver-params-complete ws params spelled,
    ) refl

and-both : (a b : Bool) → (a && b) ≡ true → (a ≡ true) × (b ≡ true)
and-both true b e = (refl, e)
and-both false b e = absurd (cc)

receiver-sound : (ws : List Word) (x : Receiver) → read_receiver ws ≡ Some x → IsReceiver ws x
receiver-sound [] x e = absurd (cc)
receiver-sound (w ∷ []) x e = g.unnamed (receiver-type-sound None (w ∷ []) x e)
receiver-sound (w ∷ v ∷ vs) x e = ⊎_elim
    (λ p. let both = and-both (same_mark w.mark m.Ident) (begins_receiver_type v) p.0 in
    g.named w (marks_are w.mark m.Ident both.0)
    (receiver-type-sound (Some w.span) (v ∷ vs) x p.1))
    (λ p. g.unnamed (receiver-type-sound None (w ∷ v ∷ vs) x p.1))
    (choice (same_mark w.mark m.Ident && begins_receiver_type v)
    (read_receiver_type (Some w.span) (v ∷ vs)) (read_receiver_type None (w ∷ v ∷ vs)) (Some x) e)

-- after the name of a receiver a star or a name follows
type-follows : (name : Option Span) (v : Word) (vs : List Word) (x : Receiver)
    → IsReceiverType name (v ∷ vs) x → begins_receiver_type v ≡ true
type-follows name _ _ _ (g.by_value base is spelled) = rw (marks_same base.mark m.Ident is) refl
type-follows name _ _ _ (g.by_pointer star base is is_base spelled) =
    rw (
      marks_differ star.mark m.Ident (λ e. absurd (cc (is, e))),
      marks_same star.mark m.Star is,
    ) refl

-- after the name of a type neither does
params-follow : (v : Word) (vs : List Word) (xs : List Span) → AreReceiverParams (v ∷ vs) xs
    → begins_receiver_type v ≡ false
params-follow v vs _ (g.present {inner = inner} brackets spelled) =
    let begun = opens-with m.OpenBracket m.CloseBracket (v ∷ vs) inner [] refl brackets in
    let is : v.mark ≡ m.OpenBracket = cc (begun.2, begun.3) in
    rw (
      marks_differ v.mark m.Ident (λ e. absurd (cc (is, e))),
      marks_differ v.mark m.Star (λ e. absurd (cc (is, e))),
    ) refl

unnamed-complete : (ws : List Word) (x : Receiver) → IsReceiverType None ws x
    → read_receiver ws ≡ Some x
unnamed-complete _ _ (g.by_value base {ws = []} {params} is spelled) =
    receiver-type-complete None (base ∷ []) _ (g.by_value base is spelled)
unnamed-complete _ _ (g.by_value base {ws = v ∷ vs} {params} is spelled) =
    rw (marks_same base.mark m.Ident is, params-follow v vs params spelled)
    (receiver-type-complete None (base ∷ v ∷ vs) _ (g.by_value base is spelled))
unnamed-complete _ _ (g.by_pointer star base {ws} {params} is is_base spelled) =
    rw (marks_differ star.mark m.Ident (λ e. absurd (cc (is, e))))
    (receiver-type-complete None (star ∷ base ∷ ws) _ (g.by_pointer star base is is_base spelled))

type-nothing : (name : Option Span) → read_receiver_type name [] ≡ None
unfolding read_receiver_type
type-nothing name = refl

receiver-complete : (ws : List Word) (x : Receiver) → IsReceiver ws x → read_receiver ws ≡ Some x
receiver-complete _ _ (g.unnamed {ws} {r} s) = unnamed-complete ws r s
receiver-complete _ _ (g.named name {ws = []} {r} is s) =
    absurd (cc (receiver-type-complete (Some name.span) [] r s, type-nothing (Some name.span)))
receiver-complete _ _ (g.named name {ws = v ∷ vs} {r} is s) =
    rw (marks_same name.mark m.Ident is, type-follows (Some name.span) v vs r s)
    (receiver-type-complete (Some name.span) (v ∷ vs) r s)

only-sound : (entries : List (List Word)) (x : Receiver) → only_receiver entries ≡ Some x
    → (entry : List Word) × (entries ≡ entry ∷ []) × IsReceiver entry x
only-sound [] x e = absurd (cc)
only-sound (entry ∷ []) x e = (entry, refl, receiver-sound entry x e)
only-sound (entry ∷ other ∷ others) x e = absurd (cc)

module _ (tokens : TokenRange) (body : Option TokenRange) where
  named-sound : (word name : Word) (ws : List Word) (x : FuncDecl) → word.mark ≡ m.Func
      → name.mark ≡ m.Ident → read_named_function tokens body name.span ws ≡ Some x
      → IsFunction tokens body (word ∷ name ∷ ws) x
  unfolding read_named_function
  named-sound word name [] x is is_name e = absurd (cc)
  named-sound word name (w ∷ ws) x is is_name e = ⊎_elim
      (λ p. let parts = bind_some (enclosed m.CloseBracket ws)
      (read_generic tokens body name.span) x p.1 in
      let params = bind_some (read_entries (type_of MAX_TYPE_LEVELS) parts.0.0) _ x parts.2 in
      let read = map_some (generic_function tokens body name.span params.0)
      (signature_in parts.0.1) x params.2 in
      subst (IsFunction tokens body (word ∷ name ∷ w ∷ ws)) read.2
      (g.generic word name is is_name
      (enclosed-sound m.OpenBracket m.CloseBracket w ws parts.0.0 parts.0.1
      (marks_are w.mark m.OpenBracket p.0) parts.1)
      (read_entries-sound parts.0.0 params.0 params.1)
      (read_signature-sound parts.0.1 read.0 read.1)))
      (λ p. let read = map_some (plain_function tokens body name.span) (signature_in (w ∷ ws)) x
      p.1 in
      subst (IsFunction tokens body (word ∷ name ∷ w ∷ ws)) read.2
      (g.plain word name is is_name (read_signature-sound (w ∷ ws) read.0 read.1)))
      (choice (same_mark w.mark m.OpenBracket)
      (enclosed m.CloseBracket ws >>= read_generic tokens body name.span)
      (plain_function tokens body name.span <$> signature_in (w ∷ ws)) (Some x) e)

  method-sound : (word : Word) (ws inner rest : List Word) (x : FuncDecl) → word.mark ≡ m.Func
      → Encloses m.OpenParen m.CloseParen ws inner rest
      → read_method tokens body (inner, rest) ≡ Some x → IsFunction tokens body (word ∷ ws) x
  method-sound word ws inner [] x is brackets e =
      let owner = bind_some (only_receiver (pieces m.Comma inner)) _ x e in absurd (cc owner.2)
  method-sound word ws inner (name ∷ rest) x is brackets e =
      let owner = bind_some (only_receiver (pieces m.Comma inner)) _ x e in
      let entry = only-sound (pieces m.Comma inner) owner.0 owner.1 in
      let test = guard_some (same_mark name.mark m.Ident)
      (method tokens body name.span owner.0 <$> signature_in rest) x owner.2 in
      let read = map_some (method tokens body name.span owner.0) (signature_in rest) x test.1 in
      subst (IsFunction tokens body (word ∷ ws)) read.2
      (g.method word name is brackets entry.1 entry.2 (marks_are name.mark m.Ident test.0)
      (read_signature-sound rest read.0 read.1))

  pub function-sound : (word : Word) (ws : List Word) (x : FuncDecl) → word.mark ≡ m.Func
      → read_function tokens body ws ≡ Some x → IsFunction tokens body (word ∷ ws) x
  unfolding read_function
  function-sound word [] x is e = absurd (cc)
  function-sound word (w ∷ ws) x is e = ⊎_elim
      (λ p. let parts = bind_some (enclosed m.CloseParen ws) (read_method tokens body) x p.1 in
      method-sound word (w ∷ ws) parts.0.0 parts.0.1 x is
      (enclosed-sound m.OpenParen m.CloseParen w ws parts.0.0 parts.0.1
      (marks_are w.mark m.OpenParen p.0) parts.1) parts.2)
      (λ p. let test = guard_some (same_mark w.mark m.Ident)
      (read_named_function tokens body w.span ws) x p.1 in
      named-sound word w ws x is (marks_are w.mark m.Ident test.0) test.1)
      (choice (same_mark w.mark m.OpenParen) (enclosed m.CloseParen ws >>= read_method tokens body)
      (cond (same_mark w.mark m.Ident) (read_named_function tokens body w.span ws) None) (Some x) e)

  pub function-complete : (word : Word) (ws : List Word) (x : FuncDecl)
      → IsFunction tokens body (word ∷ ws) x
      → read_function tokens body ws ≡ Some x
  unfolding read_function read_named_function
  function-complete _ _ _ (g.plain word name {ws} {sig} is is_name s) =
      let begun = signature-begins (type_of MAX_TYPE_LEVELS) (Spells MAX_TYPE_LEVELS) ws sig s in
      rw (
        begun.2,
        marks_differ name.mark m.OpenParen (λ e. absurd (cc (is_name, e))),
        marks_same name.mark m.Ident is_name,
        marks_differ begun.0.mark m.OpenBracket (λ e. absurd (cc (begun.3, e))),
        subst (λ us. signature_in us ≡ Some sig) begun.2 (read_signature-complete ws sig s),
      ) refl
  function-complete _ _ _ (g.generic word name {ws} {inner} {rest} {params} {sig} is is_name
      brackets entries s) =
      let begun = opens-with m.OpenBracket m.CloseBracket ws inner rest refl brackets in
      rw (
        begun.2,
        marks_differ name.mark m.OpenParen (λ e. absurd (cc (is_name, e))),
        marks_same name.mark m.Ident is_name,
        marks_same begun.0.mark m.OpenBracket begun.3,
        begun.4,
        read_entries-complete inner params entries,
        read_signature-complete rest sig s,
      ) refl
  function-complete _ _ _ (g.method word name {ws} {inner} {entry} {rest} {owner} {sig} is brackets
      one r is_name s) =
      let begun = opens-with m.OpenParen m.CloseParen ws inner (name ∷ rest) refl brackets in
      rw (
        begun.2,
        marks_same begun.0.mark m.OpenParen begun.3,
        begun.4,
        one,
        receiver-complete entry owner r,
        marks_same name.mark m.Ident is_name,
        read_signature-complete rest sig s,
      ) refl
