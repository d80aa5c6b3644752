-- Cited by public clauses. What words spell a type (The Go Programming Language Specification,
-- "Types"): a case for each alternative of the grammar, over exactly the words that it takes.
use Rattle.std.specs.Prelude.{◌≡◌, ◌≢◌, ℕ, zero, suc, Bool, true, false, List, [], ◌∷◌, Option}
use Rattle.std.specs.Prelude.{Some, None, if◌then◌else◌}
use Rattle.go_ast.specs.declared.tree.TheConstants.{MAX_TYPE_LEVELS}
use Rattle.go_ast.specs.declared.tree.TypeExpr.{TypeExpr}
use Rattle.go_ast.specs.declared.tree.TypeExpr.TheVariants as t
use Rattle.go_ast.specs.declared.tree.ChanDir.TheVariants as dirs
use Rattle.go_ast.specs.declared.tree.Param.{Param, roll-Param, out-Param}
use Rattle.go_ast.specs.declared.tree.Signature.{Signature, roll-Signature}
use Rattle.go_ast.specs.declared.tree.Field.{Field, roll-Field}
use Rattle.go_ast.specs.declared.tree.Element.{Element}
use Rattle.go_ast.specs.declared.tree.Element.TheVariants as elements
use Rattle.go_ast.specs.declared.tree.Term.{Term, roll-Term}
use Rattle.go_ast.specs.declared.token.TokenRange.{TokenRange}
use Rattle.go_ast.specs.declared.token.Token.{Token}
use Rattle.go_ast.specs.declared.token.Span.{Span}
use Rattle.go_ast.specs.declared.word.Word.{Word}
use Rattle.go_ast.specs.declared.word.Mark.TheVariants as m
use Rattle.go_ast.specs.Marks.{same_mark, words_of}
use Rattle.go_ast.specs.Cutting.{Encloses, pieces, Each, last_of, range_of, is_run}

-- a parameter whose entry has a type
abbrev pub param : Option Span → TypeExpr → Bool → Param
param name x variadic =
    roll-Param (record { name = name; typ = x; variadic = variadic; shares = false })

-- a parameter whose name stands alone in its entry, with the type of the next
abbrev pub sharing_param : Span → TypeExpr → Param
sharing_param name x =
    roll-Param (record { name = Some name; typ = x; variadic = false; shares = true })

abbrev pub signature : List Param → List Param → Signature
signature params results = roll-Signature (record { params = params; results = results })

abbrev pub field : TokenRange → List Span → TypeExpr → Option Span → Field
field tokens names x tag =
    roll-Field (record { tokens = tokens; names = names; typ = x; tag = tag })

abbrev pub term : Bool → TypeExpr → Term
term tilde x = roll-Term (record { tilde = tilde; typ = x })

-- a final string literal is the tag of a field ("Struct types")
abbrev pub split_tag : List Word → List Word × Option Span
split_tag [] = ([], None)
split_tag (w ∷ []) = if same_mark w.mark m.Text then ([], Some w.span) else (w ∷ [], None)
split_tag (w ∷ v ∷ vs) = let after = split_tag (v ∷ vs) in (w ∷ after.0, after.1)

module _ (S : List Word → TypeExpr → Type 0) where
  -- a type, or three dots and a type where they are allowed
  pub data Typed : Bool → List Word → TypeExpr → Bool → Type 0 where
    plain : (dots : Bool) {ws : List Word} {x : TypeExpr} → S ws x → Typed dots ws x false
    variadic : (w : Word) {ws : List Word} {x : TypeExpr} → w.mark ≡ m.Ellipsis → S ws x
        → Typed true (w ∷ ws) x true

  -- parameters with names, where a name alone shares the type of the next ("Function types")
  pub data Named : Bool → List (List Word) → List Param → Type 0 where
    final : (dots : Bool) (name : Word) {ws : List Word} {x : TypeExpr} {v : Bool}
        → name.mark ≡ m.Ident → Typed dots ws x v
        → Named dots ((name ∷ ws) ∷ []) (param (Some name.span) x v ∷ [])
    typed : (dots : Bool) (name : Word) {ws : List Word} {x : TypeExpr} {es : List (List Word)}
        {ps : List Param} → name.mark ≡ m.Ident → S ws x
        → Named dots es ps → Named dots ((name ∷ ws) ∷ es) (param (Some name.span) x false ∷ ps)
    shared : (dots : Bool) (name : Word) {es : List (List Word)} {p : Param} {ps : List Param}
        → name.mark ≡ m.Ident → Named dots es (p ∷ ps)
        → (out-Param p).variadic ≡ false
        → Named dots ((name ∷ []) ∷ es) (sharing_param name.span (out-Param p).typ ∷ p ∷ ps)

  -- parameters without names
  pub data Unnamed : Bool → List (List Word) → List Param → Type 0 where
    empty : (dots : Bool) → Unnamed dots [] []
    ultimate : (dots : Bool) {ws : List Word} {x : TypeExpr} {v : Bool} → Typed dots ws x v
        → Unnamed dots (ws ∷ []) (param None x v ∷ [])
    further : (dots : Bool) {ws : List Word} {x : TypeExpr} {es : List (List Word)}
        {ps : List Param} → S ws x → Unnamed dots es ps
        → Unnamed dots (ws ∷ es) (param None x false ∷ ps)

  -- what stands between the parentheses of parameters; three dots are allowed in the last one, and
  -- not in results
  pub data Params : Bool → List Word → List Param → Type 0 where
    with_names : (dots : Bool) {ws : List Word} {ps : List Param}
        → Named dots (pieces m.Comma ws) ps → Params dots ws ps
    without_names : (dots : Bool) {ws : List Word} {ps : List Param}
        → Unnamed dots (pieces m.Comma ws) ps → Params dots ws ps

  -- parameters, and then nothing, results in parentheses, or one type that doesn't begin with one
  pub data IsSignature : List Word → Signature → Type 0 where
    no_result : {ws inner : List Word} {ps : List Param}
        → Encloses m.OpenParen m.CloseParen ws inner [] → Params true inner ps
        → IsSignature ws (signature ps [])
    results : {ws inner rest outs : List Word} {ps rs : List Param}
        → Encloses m.OpenParen m.CloseParen ws inner rest
        → Encloses m.OpenParen m.CloseParen rest outs [] → Params true inner ps
        → Params false outs rs → IsSignature ws (signature ps rs)
    one_result : {ws inner rest : List Word} (v : Word) {ps : List Param} {x : TypeExpr}
        → Encloses m.OpenParen m.CloseParen ws inner (v ∷ rest)
        → v.mark ≢ m.OpenParen → Params true inner ps → S (v ∷ rest) x
        → IsSignature ws (signature ps (param None x false ∷ []))

  -- names with commas between, and their type
  pub data Declared : List Word → List Span → TypeExpr → Type 0 where
    one : (name : Word) {ws : List Word} {x : TypeExpr} → name.mark ≡ m.Ident → S ws x
        → Declared (name ∷ ws) (name.span ∷ []) x
    more : (name comma : Word) {ws : List Word} {names : List Span} {x : TypeExpr}
        → name.mark ≡ m.Ident → comma.mark ≡ m.Comma
        → Declared ws names x → Declared (name ∷ comma ∷ ws) (name.span ∷ names) x

  -- a field without its tag ("Struct types"): names and a type, or an embedded field, which is a
  -- type that begins with a name, or with a star and a name
  pub data IsFieldBody : List Word → List Span → TypeExpr → Type 0 where
    with_names : {ws : List Word} {names : List Span} {x : TypeExpr} → Declared ws names x
        → IsFieldBody ws names x
    embedded : (name : Word) {ws : List Word} {x : TypeExpr} → name.mark ≡ m.Ident → S (name ∷ ws) x
        → IsFieldBody (name ∷ ws) [] x
    embedded_pointer : (star name : Word) {ws : List Word} {x : TypeExpr} → star.mark ≡ m.Star
        → name.mark ≡ m.Ident → S (star ∷ name ∷ ws) x
        → IsFieldBody (star ∷ name ∷ ws) [] x

  pub data IsField : List Word → Field → Type 0 where
    declared : (w : Word) {ws : List Word} {names : List Span} {x : TypeExpr}
        → IsFieldBody (split_tag (w ∷ ws)).0 names x
        → IsField (w ∷ ws) (field (range_of w ws) names x (split_tag (w ∷ ws)).1)

  -- a type, or `~` and a type ("General interfaces")
  pub data IsTerm : List Word → Term → Type 0 where
    exactly : {ws : List Word} {x : TypeExpr} → S ws x → IsTerm ws (term false x)
    underlying : (tilde : Word) {ws : List Word} {x : TypeExpr} → tilde.mark ≡ m.Tilde → S ws x
        → IsTerm (tilde ∷ ws) (term true x)

  -- terms with `|` between
  pub data AreTerms : List Word → List Term → Type 0 where
    terms : (w : Word) {ws : List Word} {x : Term} {xs : List Term} → (last_of w ws).mark ≢ m.Bar
        → Each IsTerm (pieces m.Bar (w ∷ ws)) (x ∷ xs)
        → AreTerms (w ∷ ws) (x ∷ xs)

  -- an element of an interface ("Interface types")
  pub data IsElement : List Word → Element → Type 0 where
    method : (name : Word) {ws : List Word} {sig : Signature} → name.mark ≡ m.Ident
        → IsSignature ws sig
        → IsElement (name ∷ ws) (elements.Method (range_of name ws) name.span sig)
    union : (w : Word) {ws : List Word} {xs : List Term} → AreTerms (w ∷ ws) xs
        → IsElement (w ∷ ws) (elements.Terms (range_of w ws) xs)

  -- nothing, or type arguments in brackets ("Instantiations")
  pub data Arguments : List Word → List TypeExpr → Type 0 where
    absent : Arguments [] []
    present : {ws inner : List Word} {x : TypeExpr} {xs : List TypeExpr}
        → Encloses m.OpenBracket m.CloseBracket ws inner []
        → Each S (pieces m.Comma inner) (x ∷ xs) → Arguments ws (x ∷ xs)

  -- one form of a type, with parts that S spells
  pub data IsType : List Word → TypeExpr → Type 0 where
    local : (name : Word) {ws : List Word} {xs : List TypeExpr} → name.mark ≡ m.Ident
        → Arguments ws xs
        → IsType (name ∷ ws) (t.Name None name.span xs)
    qualified : (first dot name : Word) {ws : List Word} {xs : List TypeExpr} → first.mark ≡ m.Ident
        → dot.mark ≡ m.Dot
        → name.mark ≡ m.Ident → Arguments ws xs
        → IsType (first ∷ dot ∷ name ∷ ws) (t.Name (Some first.span) name.span xs)
    in_parentheses : {ws inner : List Word} {x : TypeExpr}
        → Encloses m.OpenParen m.CloseParen ws inner [] → S inner x → IsType ws x
    pointer : (star : Word) {ws : List Word} {x : TypeExpr} → star.mark ≡ m.Star → S ws x
        → IsType (star ∷ ws) (t.Pointer x)
    slice : {ws rest : List Word} {x : TypeExpr} → Encloses m.OpenBracket m.CloseBracket ws [] rest
        → S rest x → IsType ws (t.Slice x)
    array : {ws rest : List Word} (first : Word) (run : List Word) {x : TypeExpr}
        → Encloses m.OpenBracket m.CloseBracket ws (first ∷ run) rest
        → is_run (first ∷ run) ≡ true → S rest x → IsType ws (t.Array (range_of first run) x)
    map : (word : Word) {ws inner rest : List Word} {key value : TypeExpr} → word.mark ≡ m.Map
        → Encloses m.OpenBracket m.CloseBracket ws inner rest → S inner key → S rest value
        → IsType (word ∷ ws) (t.Map key value)
    channel : (word : Word) {next : Word} {ws : List Word} {x : TypeExpr} → word.mark ≡ m.Chan
        → next.mark ≢ m.Arrow → S (next ∷ ws) x
        → IsType (word ∷ next ∷ ws) (t.Chan dirs.Both x)
    sending : (word arrow : Word) {ws : List Word} {x : TypeExpr} → word.mark ≡ m.Chan
        → arrow.mark ≡ m.Arrow → S ws x
        → IsType (word ∷ arrow ∷ ws) (t.Chan dirs.Send x)
    receiving : (arrow word : Word) {ws : List Word} {x : TypeExpr} → arrow.mark ≡ m.Arrow
        → word.mark ≡ m.Chan → S ws x
        → IsType (arrow ∷ word ∷ ws) (t.Chan dirs.Receive x)
    function : (word : Word) {ws : List Word} {sig : Signature} → word.mark ≡ m.Func
        → IsSignature ws sig → IsType (word ∷ ws) (t.Func sig)
    structure : (word : Word) {ws inner : List Word} (fields : List Field) → word.mark ≡ m.Struct
        → Encloses m.OpenBrace m.CloseBrace ws inner [] → Each IsField (pieces m.Semi inner) fields
        → IsType (word ∷ ws) (t.Struct fields)
    interface : (word : Word) {ws inner : List Word} (es : List Element) → word.mark ≡ m.Interface
        → Encloses m.OpenBrace m.CloseBrace ws inner [] → Each IsElement (pieces m.Semi inner) es
        → IsType (word ∷ ws) (t.Interface es)

-- the words spell the type with at most so many levels: each form is one level more than its
-- deepest part, parentheses are one, and signatures, fields, elements, `~`, `...` and lengths are
-- none
unfoldable pub Spells : ℕ → List Word → TypeExpr → Type 0
Spells zero ws x = ⊥
Spells (suc levels) ws x = IsType (Spells levels) ws x

-- the tokens of a range spell the type, within the levels that a type may have
abbrev pub SpellsType : List ℕ → List Token → TokenRange → TypeExpr → Type 0
SpellsType source tokens range x = Spells MAX_TYPE_LEVELS (words_of source tokens range) x
