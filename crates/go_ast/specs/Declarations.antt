-- Cited by public clauses. What the chunks of a file declare (The Go Programming Language
-- Specification, "Declarations and scope"): a case for each alternative of the grammar, over
-- exactly the words that it takes. The brackets of a chunk nest, by their kinds, and so do those of
-- each part that is cut from it outside brackets.
use Rattle.std.specs.Prelude.{◌≡◌, Bool, true, false, ◌||◌, List, [], ◌∷◌, ◌++◌, Option, Some, None}
use Rattle.go_ast.specs.declared.declaration.Decl.{Decl}
use Rattle.go_ast.specs.declared.declaration.Decl.TheVariants as decls
use Rattle.go_ast.specs.declared.declaration.FuncDecl.{FuncDecl}
use Rattle.go_ast.specs.declared.declaration.Group.{Group}
use Rattle.go_ast.specs.declared.declaration.ImportName.{ImportName}
use Rattle.go_ast.specs.declared.declaration.ImportName.TheVariants as locals
use Rattle.go_ast.specs.declared.declaration.ImportSpec.{ImportSpec}
use Rattle.go_ast.specs.declared.declaration.Receiver.{Receiver}
use Rattle.go_ast.specs.declared.declaration.TypeParam.{TypeParam}
use Rattle.go_ast.specs.declared.declaration.TypeSpec.{TypeSpec}
use Rattle.go_ast.specs.declared.declaration.ValueSpec.{ValueSpec}
use Rattle.go_ast.specs.declared.tree.Signature.{Signature}
use Rattle.go_ast.specs.declared.tree.TheConstants.{MAX_TYPE_LEVELS}
use Rattle.go_ast.specs.declared.tree.TypeExpr.{TypeExpr}
use Rattle.go_ast.specs.declared.token.Span.{Span}
use Rattle.go_ast.specs.declared.token.TokenRange.{TokenRange}
use Rattle.go_ast.specs.declared.word.Mark.{Mark}
use Rattle.go_ast.specs.declared.word.Mark.TheVariants as m
use Rattle.go_ast.specs.declared.word.Word.{Word}
use Rattle.go_ast.specs.Cutting.{Each, Encloses, Nests, pieces, range_of, split_once}
use Rattle.go_ast.specs.Marks.{same_mark}
use Rattle.go_ast.specs.TypeParameters.{AreTypeParams, Entries}
use Rattle.go_ast.specs.Types.{Declared, IsSignature, Spells}

abbrev pub group : {S : Type 0} → TokenRange → Bool → List S → Group S
group tokens grouped specs = record { tokens = tokens; grouped = grouped; specs = specs }

abbrev pub import_spec : TokenRange → ImportName → Span → ImportSpec
import_spec tokens local path = record { tokens = tokens; local = local; path = path }

abbrev pub value_spec : TokenRange → List Span → Option TypeExpr → Option TokenRange → ValueSpec
value_spec tokens names x value =
    record { tokens = tokens; names = names; typ = x; value = value }

abbrev pub type_spec : TokenRange → Span → List TypeParam → Bool → TypeExpr → TypeSpec
type_spec tokens name params alias x =
    record { tokens = tokens; name = name; params = params; alias = alias; typ = x }

abbrev pub receiver : Option Span → Bool → Span → List Span → Receiver
receiver name pointer base params =
    record { name = name; pointer = pointer; base = base; params = params }

abbrev pub function : TokenRange → Span → Option Receiver → List TypeParam → Signature
    → Option TokenRange → FuncDecl
function tokens name owner params sig body = record {
  tokens = tokens;
  name = name;
  receiver = owner;
  params = params;
  sig = sig;
  body = body;
}

-- a keyword and one spec, or specs in parentheses with semicolons between, of which one may stand
-- at the end
pub data IsGroup {A : Type 0} (S : List Word → A → Type 0) (keyword : Mark)
    : List Word → Group A → Type 0 where
  single : (word : Word) {ws : List Word} {spec : A} → word.mark ≡ keyword → S ws spec
      → IsGroup S keyword (word ∷ ws) (group (range_of word ws) false (spec ∷ []))
  listed : (word : Word) {ws inner : List Word} {specs : List A} → word.mark ≡ keyword
      → Encloses m.OpenParen m.CloseParen ws inner [] → Each S (pieces m.Semi inner) specs
      → IsGroup S keyword (word ∷ ws) (group (range_of word ws) true specs)

-- the path of an import, after a name or a dot or nothing ("Import declarations")
pub data IsImportSpec : List Word → ImportSpec → Type 0 where
  plain : (path : Word) → path.mark ≡ m.Text
      → IsImportSpec (path ∷ []) (import_spec (range_of path []) locals.Plain path.span)
  dot : (point path : Word) → point.mark ≡ m.Dot → path.mark ≡ m.Text
      → IsImportSpec (point ∷ path ∷ [])
      (import_spec (range_of point (path ∷ [])) locals.Dot path.span)
  named : (name path : Word) → name.mark ≡ m.Ident → path.mark ≡ m.Text
      → IsImportSpec (name ∷ path ∷ [])
      (import_spec (range_of name (path ∷ [])) (locals.Named name.span) path.span)

-- names with commas between
pub data AreNames : List Word → List Span → Type 0 where
  one : (name : Word) → name.mark ≡ m.Ident → AreNames (name ∷ []) (name.span ∷ [])
  more : (name comma : Word) {ws : List Word} {names : List Span} → name.mark ≡ m.Ident
      → comma.mark ≡ m.Comma → AreNames ws names
      → AreNames (name ∷ comma ∷ ws) (name.span ∷ names)

-- names, and their type where one is written
pub data AreTyped : List Word → List Span → Option TypeExpr → Type 0 where
  untyped : {ws : List Word} {names : List Span} → AreNames ws names → AreTyped ws names None
  typed : {ws : List Word} {names : List Span} {x : TypeExpr}
      → Declared (Spells MAX_TYPE_LEVELS) ws names x → AreTyped ws names (Some x)

-- names, perhaps with a type, and a value: one or more words after the first `=` outside brackets
pub data IsAssigned : List Word → ValueSpec → Type 0 where
  assigned : (w : Word) {ws front : List Word} (first : Word) (run : List Word)
      {names : List Span} {x : Option TypeExpr}
      → split_once m.Equal (w ∷ ws) ≡ Some (front, first ∷ run) → AreTyped front names x
      → IsAssigned (w ∷ ws) (value_spec (range_of w ws) names x (Some (range_of first run)))

-- names and a value, or names alone, which repeat the value before ("Constant declarations")
pub data IsConstSpec : List Word → ValueSpec → Type 0 where
  repeated : (w : Word) {ws : List Word} {names : List Span} → AreNames (w ∷ ws) names
      → IsConstSpec (w ∷ ws) (value_spec (range_of w ws) names None None)
  assigned : {ws : List Word} {spec : ValueSpec} → IsAssigned ws spec → IsConstSpec ws spec

-- names and a value, or names and a type ("Variable declarations")
pub data IsVarSpec : List Word → ValueSpec → Type 0 where
  zeroed : (w : Word) {ws : List Word} {names : List Span} {x : TypeExpr}
      → split_once m.Equal (w ∷ ws) ≡ None → Declared (Spells MAX_TYPE_LEVELS) (w ∷ ws) names x
      → IsVarSpec (w ∷ ws) (value_spec (range_of w ws) names (Some x) None)
  assigned : {ws : List Word} {spec : ValueSpec} → IsAssigned ws spec → IsVarSpec ws spec

-- the words begin with type parameters in brackets
abbrev pub BeginWithParams : List Word → Type 0
BeginWithParams ws = (inner rest : List Word) × (params : List TypeParam)
    × Encloses m.OpenBracket m.CloseBracket ws inner rest × AreTypeParams inner params

-- the type that a name is declared as, after `=` where it is an alias
pub data IsDeclaredType : List Word → Bool → TypeExpr → Type 0 where
  defined : {ws : List Word} {x : TypeExpr} → Spells MAX_TYPE_LEVELS ws x
      → IsDeclaredType ws false x
  aliased : (equal : Word) {ws : List Word} {x : TypeExpr} → equal.mark ≡ m.Equal
      → Spells MAX_TYPE_LEVELS ws x → IsDeclaredType (equal ∷ ws) true x

-- a name, type parameters or none, and a type, perhaps after `=` ("Type declarations"); brackets
-- that don't hold type parameters belong to the type
pub data IsTypeSpec : List Word → TypeSpec → Type 0 where
  plain : (name : Word) {ws : List Word} {alias : Bool} {x : TypeExpr} → name.mark ≡ m.Ident
      → ¬ (BeginWithParams ws) → IsDeclaredType ws alias x
      → IsTypeSpec (name ∷ ws) (type_spec (range_of name ws) name.span [] alias x)
  generic : (name : Word) {ws inner rest : List Word} {params : List TypeParam} {alias : Bool}
      {x : TypeExpr} → name.mark ≡ m.Ident
      → Encloses m.OpenBracket m.CloseBracket ws inner rest → AreTypeParams inner params
      → IsDeclaredType rest alias x
      → IsTypeSpec (name ∷ ws) (type_spec (range_of name ws) name.span params alias x)

-- one name
pub data IsName : List Word → Span → Type 0 where
  ident : (word : Word) → word.mark ≡ m.Ident → IsName (word ∷ []) word.span

-- nothing, or the names of type parameters in brackets
pub data AreReceiverParams : List Word → List Span → Type 0 where
  absent : AreReceiverParams [] []
  present : {ws inner : List Word} {name : Span} {names : List Span}
      → Encloses m.OpenBracket m.CloseBracket ws inner []
      → Each IsName (pieces m.Comma inner) (name ∷ names)
      → AreReceiverParams ws (name ∷ names)

-- the type of a receiver with this name or none: the name of a type, perhaps after a star
pub data IsReceiverType : Option Span → List Word → Receiver → Type 0 where
  by_value : {name : Option Span} (base : Word) {ws : List Word} {params : List Span}
      → base.mark ≡ m.Ident → AreReceiverParams ws params
      → IsReceiverType name (base ∷ ws) (receiver name false base.span params)
  by_pointer : {name : Option Span} (star base : Word) {ws : List Word} {params : List Span}
      → star.mark ≡ m.Star → base.mark ≡ m.Ident → AreReceiverParams ws params
      → IsReceiverType name (star ∷ base ∷ ws) (receiver name true base.span params)

-- a receiver's type, perhaps after its name ("Method declarations")
pub data IsReceiver : List Word → Receiver → Type 0 where
  unnamed : {ws : List Word} {r : Receiver} → IsReceiverType None ws r → IsReceiver ws r
  named : (name : Word) {ws : List Word} {r : Receiver} → name.mark ≡ m.Ident
      → IsReceiverType (Some name.span) ws r → IsReceiver (name ∷ ws) r

-- a function or a method without its body, with the tokens of the declaration and of the body
-- ("Function declarations", "Method declarations")
pub data IsFunction (tokens : TokenRange) (body : Option TokenRange)
    : List Word → FuncDecl → Type 0 where
  plain : (word name : Word) {ws : List Word} {sig : Signature} → word.mark ≡ m.Func
      → name.mark ≡ m.Ident → IsSignature (Spells MAX_TYPE_LEVELS) ws sig
      → IsFunction tokens body (word ∷ name ∷ ws) (function tokens name.span None [] sig body)
  generic : (word name : Word) {ws inner rest : List Word} {params : List TypeParam}
      {sig : Signature} → word.mark ≡ m.Func → name.mark ≡ m.Ident
      → Encloses m.OpenBracket m.CloseBracket ws inner rest
      → Entries (pieces m.Comma inner) params → IsSignature (Spells MAX_TYPE_LEVELS) rest sig
      → IsFunction tokens body (word ∷ name ∷ ws) (function tokens name.span None params sig body)
  method : (word name : Word) {ws inner entry rest : List Word} {owner : Receiver}
      {sig : Signature} → word.mark ≡ m.Func
      → Encloses m.OpenParen m.CloseParen ws inner (name ∷ rest)
      → pieces m.Comma inner ≡ entry ∷ [] → IsReceiver entry owner
      → name.mark ≡ m.Ident → IsSignature (Spells MAX_TYPE_LEVELS) rest sig
      → IsFunction tokens body (word ∷ ws) (function tokens name.span (Some owner) [] sig body)

-- a word that makes a type of the braces after it
abbrev pub takes_braces : Word → Bool
takes_braces w = same_mark w.mark m.Struct || same_mark w.mark m.Interface

-- words, and the braces and what they enclose that end them, which aren't those of a type
pub data EndsInBody : List Word → List Word → TokenRange → Type 0 where
  braces : (front : List Word) (before o : Word) (inner : List Word) (c : Word)
      → takes_braces before ≡ false → o.mark ≡ m.OpenBrace → c.mark ≡ m.CloseBrace
      → Nests 0 inner
      → EndsInBody (front ++ before ∷ o ∷ inner ++ c ∷ []) (front ++ before ∷ [])
      (range_of o (inner ++ c ∷ []))

-- the words before a body, and the tokens of the body, where there is one
pub data Precedes : List Word → List Word → Option TokenRange → Type 0 where
  with_body : {ws front : List Word} {tokens : TokenRange} → EndsInBody ws front tokens
      → Precedes ws front (Some tokens)
  without_body : {ws : List Word}
      → ((front : List Word) (tokens : TokenRange) → EndsInBody ws front tokens → ⊥)
      → Precedes ws ws None

-- a declaration
pub data IsDecl : List Word → Decl → Type 0 where
  imports : {ws : List Word} {specs : Group ImportSpec} → IsGroup IsImportSpec m.Import ws specs
      → IsDecl ws (decls.Import specs)
  constants : {ws : List Word} {specs : Group ValueSpec} → IsGroup IsConstSpec m.Const ws specs
      → IsDecl ws (decls.Const specs)
  variables : {ws : List Word} {specs : Group ValueSpec} → IsGroup IsVarSpec m.Var ws specs
      → IsDecl ws (decls.Var specs)
  types : {ws : List Word} {specs : Group TypeSpec} → IsGroup IsTypeSpec m.Type ws specs
      → IsDecl ws (decls.Types specs)
  func : (w : Word) {ws front : List Word} {body : Option TokenRange} {f : FuncDecl}
      → Precedes (w ∷ ws) front body → IsFunction (range_of w ws) body front f
      → IsDecl (w ∷ ws) (decls.Func f)
