-- Cited by private clauses and proofs. The declaration that a chunk's words spell, by one test
-- after another: the plain program next to the grammar.
use Rattle.std.specs.Prelude.{Bool, true, false, ◌&&◌, ◌||◌, List, [], ◌∷◌, ◌++◌, Option, Some}
use Rattle.std.specs.Prelude.{None}
use Rattle.std.specs.Prelude.{if◌then◌else◌, drop}
use Rattle.go_ast.specs.declared.declaration.Decl.{Decl}
use Rattle.go_ast.specs.declared.declaration.Decl.TheVariants as decls
use Rattle.go_ast.specs.declared.declaration.FuncDecl.{FuncDecl}
use Rattle.go_ast.specs.declared.declaration.Group.{Group}
use Rattle.go_ast.specs.declared.declaration.ImportName.TheVariants as locals
use Rattle.go_ast.specs.declared.declaration.ImportSpec.{ImportSpec}
use Rattle.go_ast.specs.declared.declaration.Receiver.{Receiver}
use Rattle.go_ast.specs.declared.declaration.TypeParam.{TypeParam}
use Rattle.go_ast.specs.declared.declaration.TypeSpec.{TypeSpec}
use Rattle.go_ast.specs.declared.declaration.ValueSpec.{ValueSpec}
use Rattle.go_ast.specs.declared.tree.Signature.{Signature}
use Rattle.go_ast.specs.declared.tree.TheConstants.{MAX_TYPE_LEVELS}
use Rattle.go_ast.specs.declared.tree.TypeExpr.{TypeExpr}
use Rattle.go_ast.specs.declared.token.Span.{Span}
use Rattle.go_ast.specs.declared.token.TokenRange.{TokenRange}
use Rattle.go_ast.specs.declared.word.Mark.{Mark}
use Rattle.go_ast.specs.declared.word.Mark.TheVariants as m
use Rattle.go_ast.specs.declared.word.Word.{Word}
use Rattle.go_ast.specs.Cutting.{pieces, range_of, split_once}
use Rattle.go_ast.specs.Declarations.{group, import_spec, value_spec, type_spec, receiver, function}
use Rattle.go_ast.specs.Marks.{same_mark}
use Rattle.type_parser.specs.Cut.{enclosed}
use Rattle.type_parser.specs.Reading.{◌>>=◌, ◌<$>◌, each, alone, not_empty, type_of}
use Rattle.type_parser.specs.Reading.{read_signature}
use Rattle.type_parser.specs.TypeParams.{read_entries, read_type_params}

abbrev pub type_in : List Word → Option TypeExpr
type_in ws = type_of MAX_TYPE_LEVELS ws

abbrev pub signature_in : List Word → Option Signature
signature_in ws = read_signature (type_of MAX_TYPE_LEVELS) ws

module _ {A : Type 0} (read : List Word → Option A) where
  -- the specs between semicolons
  unfoldable pub specs_in : List Word → Option (List A)
  specs_in inner = each read (pieces m.Semi inner)

  -- after the keyword
  unfoldable pub read_group : TokenRange → List Word → Option (Group A)
  read_group tokens [] = None
  read_group tokens (w ∷ ws) = if same_mark w.mark m.OpenParen
      then group tokens true <$> (alone m.CloseParen ws >>= specs_in)
      else (λ spec. group tokens false (spec ∷ [])) <$> read (w ∷ ws)

unfoldable pub read_import_spec : List Word → Option ImportSpec
read_import_spec [] = None
read_import_spec (path ∷ []) = if same_mark path.mark m.Text
    then Some (import_spec (range_of path []) locals.Plain path.span) else None
read_import_spec (w ∷ path ∷ []) = if same_mark path.mark m.Text
    then (if same_mark w.mark m.Dot
    then Some (import_spec (range_of w (path ∷ [])) locals.Dot path.span)
    else (if same_mark w.mark m.Ident
    then Some (import_spec (range_of w (path ∷ [])) (locals.Named w.span) path.span) else None))
    else None
read_import_spec (w ∷ v ∷ u ∷ us) = None

-- names, and their type where one is written
abbrev pub Typed : Type 0
Typed = List Span × Option TypeExpr

abbrev pub with_name : Span → Typed → Typed
with_name name others = (name ∷ others.0, others.1)

-- these names and then those
abbrev pub after_names : List Span → Typed → Typed
after_names names others = (names ++ others.0, others.1)

abbrev pub one_name : Span → TypeExpr → Typed
one_name name x = (name ∷ [], Some x)

abbrev pub read_typed : List Word → Option Typed
read_typed [] = None
read_typed (name ∷ []) = if same_mark name.mark m.Ident then Some (name.span ∷ [], None) else None
read_typed (name ∷ v ∷ vs) = if same_mark name.mark m.Ident
    then (if same_mark v.mark m.Comma then with_name name.span <$> read_typed vs
    else one_name name.span <$> type_in (v ∷ vs)) else None

-- the spec that names, and their type or none, are without a value
abbrev pub unassigned : Bool → TokenRange → Typed → Option ValueSpec
unassigned constant tokens (names, None) =
    if constant then Some (value_spec tokens names None None) else None
unassigned constant tokens (names, Some x) =
    if constant then None else Some (value_spec tokens names (Some x) None)

abbrev pub read_unassigned : Bool → TokenRange → List Word → Option ValueSpec
read_unassigned constant tokens ws = read_typed ws >>= unassigned constant tokens

abbrev pub assigned : TokenRange → TokenRange → Typed → ValueSpec
assigned tokens value names = value_spec tokens names.0 names.1 (Some value)

-- a value spec with a value, by what stands before `=` and after it
abbrev pub read_assigned : TokenRange → List Word → List Word → Option ValueSpec
read_assigned tokens front [] = None
read_assigned tokens front (w ∷ ws) = assigned tokens (range_of w ws) <$> read_typed front

abbrev pub read_value_by : Bool → TokenRange → List Word → Option (List Word × List Word)
    → Option ValueSpec
read_value_by constant tokens whole None = read_typed whole >>= unassigned constant tokens
read_value_by constant tokens whole (Some (front, run)) = read_assigned tokens front run

-- a spec of constants, or of variables
unfoldable pub read_value_spec : Bool → List Word → Option ValueSpec
read_value_spec constant [] = None
read_value_spec constant (w ∷ ws) =
    read_value_by constant (range_of w ws) (w ∷ ws) (split_once m.Equal (w ∷ ws))

-- type parameters and the words after them
abbrev pub params_of : List Word × List Word → Option (List TypeParam × List Word)
params_of (inner, rest) = (λ params. (params, rest))
    <$> read_type_params (type_of MAX_TYPE_LEVELS) inner

unfoldable pub read_leading_params : List Word → Option (List TypeParam × List Word)
read_leading_params [] = None
read_leading_params (w ∷ ws) = if same_mark w.mark m.OpenBracket
    then enclosed m.CloseBracket ws >>= params_of else None

abbrev pub read_spec_of : TokenRange → Span → List TypeParam → Bool → List Word → Option TypeSpec
read_spec_of tokens name params alias ws = type_spec tokens name params alias <$> type_in ws

-- a spec by its name and type parameters, from the words after them
abbrev pub read_declared_type : TokenRange → Span → List TypeParam → List Word → Option TypeSpec
read_declared_type tokens name params [] = None
read_declared_type tokens name params (w ∷ ws) = if same_mark w.mark m.Equal
    then read_spec_of tokens name params true ws
    else read_spec_of tokens name params false (w ∷ ws)

-- a spec by its name, from the words after it and the type parameters that they begin with
abbrev pub read_named_type : TokenRange → Span → List Word
    → Option (List TypeParam × List Word) → Option TypeSpec
read_named_type tokens name ws None = read_declared_type tokens name [] ws
read_named_type tokens name ws (Some (params, rest)) = read_declared_type tokens name params rest

unfoldable pub read_type_spec : List Word → Option TypeSpec
read_type_spec [] = None
read_type_spec (name ∷ ws) = if same_mark name.mark m.Ident
    then read_named_type (range_of name ws) name.span ws (read_leading_params ws) else None

abbrev pub read_name : List Word → Option Span
read_name [] = None
read_name (w ∷ []) = if same_mark w.mark m.Ident then Some w.span else None
read_name (w ∷ v ∷ vs) = None

-- the names between commas
unfoldable pub names_in : List Word → Option (List Span)
names_in inner = each read_name (pieces m.Comma inner) >>= not_empty

unfoldable pub read_receiver_params : List Word → Option (List Span)
read_receiver_params [] = Some []
read_receiver_params (w ∷ ws) = if same_mark w.mark m.OpenBracket
    then alone m.CloseBracket ws >>= names_in else None

abbrev pub read_base : Option Span → Bool → List Word → Option Receiver
read_base name pointer [] = None
read_base name pointer (base ∷ ws) = if same_mark base.mark m.Ident
    then receiver name pointer base.span <$> read_receiver_params ws else None

unfoldable pub read_receiver_type : Option Span → List Word → Option Receiver
read_receiver_type name [] = None
read_receiver_type name (w ∷ ws) = if same_mark w.mark m.Star then read_base name true ws
    else read_base name false (w ∷ ws)

-- what may follow the name of a receiver
abbrev pub begins_receiver_type : Word → Bool
begins_receiver_type w = same_mark w.mark m.Ident || same_mark w.mark m.Star

abbrev pub read_receiver : List Word → Option Receiver
read_receiver [] = None
read_receiver (w ∷ []) = read_receiver_type None (w ∷ [])
read_receiver (w ∷ v ∷ vs) = if same_mark w.mark m.Ident && begins_receiver_type v
    then read_receiver_type (Some w.span) (v ∷ vs)
    else read_receiver_type None (w ∷ v ∷ vs)

-- the one entry between parentheses
abbrev pub only_receiver : List (List Word) → Option Receiver
only_receiver [] = None
only_receiver (entry ∷ []) = read_receiver entry
only_receiver (entry ∷ other ∷ others) = None

abbrev pub read_only_receiver : List Word → Option Receiver
read_only_receiver inner = only_receiver (pieces m.Comma inner)

module _ (tokens : TokenRange) (body : Option TokenRange) where
  abbrev pub read_signed : Span → Option Receiver → List TypeParam → List Word → Option FuncDecl
  read_signed name owner params ws =
      (λ sig. function tokens name owner params sig body) <$> signature_in ws

  abbrev pub plain_function : Span → Signature → FuncDecl
  plain_function name sig = function tokens name None [] sig body

  abbrev pub generic_function : Span → List TypeParam → Signature → FuncDecl
  generic_function name params sig = function tokens name None params sig body

  abbrev pub method : Span → Receiver → Signature → FuncDecl
  method name owner sig = function tokens name (Some owner) [] sig body

  abbrev pub read_generic : Span → List Word × List Word → Option FuncDecl
  read_generic name (inner, rest) = read_entries (type_of MAX_TYPE_LEVELS) inner
      >>= λ params. generic_function name params <$> signature_in rest

  -- after the name
  unfoldable pub read_named_function : Span → List Word → Option FuncDecl
  read_named_function name [] = None
  read_named_function name (w ∷ ws) = if same_mark w.mark m.OpenBracket
      then enclosed m.CloseBracket ws >>= read_generic name
      else plain_function name <$> signature_in (w ∷ ws)

  abbrev pub read_named_method : Receiver → List Word → Option FuncDecl
  read_named_method owner [] = None
  read_named_method owner (name ∷ ws) = if same_mark name.mark m.Ident
      then method name.span owner <$> signature_in ws else None

  abbrev pub read_method : List Word × List Word → Option FuncDecl
  read_method (inner, rest) = only_receiver (pieces m.Comma inner)
      >>= λ owner. read_named_method owner rest

  -- after `func`
  unfoldable pub read_function : List Word → Option FuncDecl
  read_function [] = None
  read_function (w ∷ ws) = if same_mark w.mark m.OpenParen
      then enclosed m.CloseParen ws >>= read_method
      else (if same_mark w.mark m.Ident then read_named_function w.span ws else None)

-- the declaration of words, by its keyword; these words come before the body, if there is one
abbrev pub read_by_keyword : Mark → TokenRange → List Word → List Word → Option TokenRange
    → Option Decl
read_by_keyword m.Import tokens ws front body =
    decls.Import <$> read_group read_import_spec tokens ws
read_by_keyword m.Const tokens ws front body =
    decls.Const <$> read_group (read_value_spec true) tokens ws
read_by_keyword m.Var tokens ws front body =
    decls.Var <$> read_group (read_value_spec false) tokens ws
read_by_keyword m.Type tokens ws front body =
    decls.Types <$> read_group read_type_spec tokens ws
read_by_keyword m.Func tokens ws front body =
    decls.Func <$> read_function tokens body (drop 1 front)
read_by_keyword _ tokens ws front body = None

unfoldable pub read_decl : List Word → List Word → Option TokenRange → Option Decl
read_decl [] front body = None
read_decl (word ∷ ws) front body =
    read_by_keyword word.mark (range_of word ws) ws front body

-- the same of the words before the body alone, with the tokens of the declaration
unfoldable pub read_words : TokenRange → Option TokenRange → List Word → Option Decl
read_words tokens body [] = None
read_words tokens body (word ∷ ws) = read_by_keyword word.mark tokens ws (word ∷ ws) body
