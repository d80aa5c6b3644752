-- Cited by public clauses. The type that words spell, by one test after another: the plain program
-- next to the grammar. The public clauses named `read` cite it, so that a crate above can read
-- declarations by plain programs of its own.
use Rattle.std.specs.Prelude.{ℕ, zero, suc, Bool, true, false, List, [], ◌∷◌, ◌++◌, Option}
use Rattle.std.specs.Prelude.{Some, None, is_some, not, ◌&&◌, if◌then◌else◌}
use Rattle.go_ast.specs.declared.tree.TypeExpr.{TypeExpr}
use Rattle.go_ast.specs.declared.tree.TypeExpr.TheVariants as t
use Rattle.go_ast.specs.declared.tree.ChanDir.{ChanDir}
use Rattle.go_ast.specs.declared.tree.ChanDir.TheVariants as dirs
use Rattle.go_ast.specs.declared.token.Span.{Span}
use Rattle.go_ast.specs.declared.token.TokenRange.{TokenRange}
use Rattle.go_ast.specs.declared.word.Word.{Word}
use Rattle.go_ast.specs.declared.word.Mark.{Mark}
use Rattle.go_ast.specs.declared.word.Mark.TheVariants as m
use Rattle.go_ast.specs.Cutting.{pieces, range_of, last_of, is_run}
use Rattle.go_ast.specs.Marks.{same_mark}
use Rattle.go_ast.specs.Types.{param, sharing_param, signature, field, term, split_tag}
use Rattle.type_parser.specs.Cut.{enclosed}
use Rattle.go_ast.specs.declared.tree.Param.{Param, out-Param}
use Rattle.go_ast.specs.declared.tree.Signature.{Signature}
use Rattle.go_ast.specs.declared.tree.Field.{Field}
use Rattle.go_ast.specs.declared.tree.Element.{Element}
use Rattle.go_ast.specs.declared.tree.Element.TheVariants as elements
use Rattle.go_ast.specs.declared.tree.Term.{Term}
use Rattle.std.specs.List.{list_any}

infixl 10 ◌>>=◌
abbrev pub ◌>>=◌ : {A B : Type 0} → Option A → (A → Option B) → Option B
None >>= f = None
(Some x) >>= f = f x

infixr 11 ◌<$>◌
abbrev pub ◌<$>◌ : {A B : Type 0} → (A → B) → Option A → Option B
f <$> None = None
f <$> (Some x) = Some (f x)

-- each piece read
abbrev pub each : {A : Type 0} → (List Word → Option A) → List (List Word) → Option (List A)
each f [] = Some []
each f (p ∷ ps) = f p >>= λ x. (λ xs. x ∷ xs) <$> each f ps

-- those before are put in front
abbrev pub with_front : {A : Type 0} → List A → Option (List A) → Option (List A)
with_front front found = (λ xs. front ++ xs) <$> found

-- what an opening bracket and its closing one enclose, where nothing follows
abbrev pub only : {A : Type 0} → A × List Word → Option A
only (x, []) = Some x
only (x, w ∷ ws) = None

unfoldable pub alone : Mark → List Word → Option (List Word)
alone close ws = enclosed close ws >>= only

abbrev pub not_empty : {A : Type 0} → List A → Option (List A)
not_empty [] = None
not_empty (x ∷ xs) = Some (x ∷ xs)

abbrev pub array_or_slice : List Word → TypeExpr → TypeExpr
array_or_slice [] x = t.Slice x
array_or_slice (w ∷ ws) x = t.Array (range_of w ws) x

-- what may stand between the brackets of a slice or an array
unfoldable pub may_be_length : List Word → Bool
may_be_length [] = true
may_be_length (w ∷ ws) = is_run (w ∷ ws)

-- a bracket and its closing one, with nothing after
unfoldable pub is_all_bracketed : Word → List Word → Bool
is_all_bracketed w ws = same_mark w.mark m.OpenBracket && is_some (alone m.CloseBracket ws)

-- what may follow a name in an entry with a type: no dot, and no type arguments
unfoldable pub may_be_type : Word → List Word → Bool
may_be_type w ws = not (same_mark w.mark m.Dot) && not (is_all_bracketed w ws)

-- an entry that can only be a name and a type
unfoldable pub looks_named : List Word → Bool
looks_named [] = false
looks_named (w ∷ []) = false
looks_named (w ∷ v ∷ vs) = same_mark w.mark m.Ident && may_be_type v vs

-- an element that begins as a method does
unfoldable pub is_method : Word → List Word → Bool
is_method w [] = false
is_method w (v ∷ vs) = same_mark w.mark m.Ident && same_mark v.mark m.OpenParen

abbrev pub no_names : TypeExpr → List Span × TypeExpr
no_names x = ([], x)

abbrev pub one_name : Span → TypeExpr → List Span × TypeExpr
one_name name x = (name ∷ [], x)

abbrev pub with_name : Span → List Span × TypeExpr → List Span × TypeExpr
with_name name others = (name ∷ others.0, others.1)

abbrev pub field_of : TokenRange → Option Span → List Span × TypeExpr → Field
field_of tokens tag body = field tokens body.0 body.1 tag

module _ (f : List Word → Option TypeExpr) where
  unfoldable pub list : List Word → Option (List TypeExpr)
  list inner = each f (pieces m.Comma inner) >>= not_empty

  unfoldable pub arguments : List Word → Option (List TypeExpr)
  arguments [] = Some []
  arguments (w ∷ ws) = if same_mark w.mark m.OpenBracket then alone m.CloseBracket ws >>= list
      else None

  unfoldable pub named : Option Span → Word → List Word → Option TypeExpr
  named qualifier name ws = if same_mark name.mark m.Ident then t.Name qualifier name.span
      <$> arguments ws else None

  -- after the dot
  abbrev pub qualified : Span → List Word → Option TypeExpr
  qualified first [] = None
  qualified first (name ∷ ws) = named (Some first) name ws

  unfoldable pub name : Word → List Word → Option TypeExpr
  name first [] = named None first []
  name first (w ∷ ws) = if same_mark w.mark m.Dot then qualified first.span ws
      else named None first (w ∷ ws)

  -- after the opening bracket
  abbrev pub bracketed_of : List Word × List Word → Option TypeExpr
  bracketed_of (inner, rest) = if may_be_length inner then array_or_slice inner <$> f rest else None

  unfoldable pub bracketed : List Word → Option TypeExpr
  bracketed ws = enclosed m.CloseBracket ws >>= bracketed_of

  abbrev pub map_of : List Word × List Word → Option TypeExpr
  map_of (inner, rest) = f inner >>= λ key. t.Map key <$> f rest

  unfoldable pub map : List Word → Option TypeExpr
  map [] = None
  map (w ∷ ws) = if same_mark w.mark m.OpenBracket then enclosed m.CloseBracket ws >>= map_of
      else None

  abbrev pub channel_of : ChanDir → List Word → Option TypeExpr
  channel_of dir ws = t.Chan dir <$> f ws

  unfoldable pub channel : List Word → Option TypeExpr
  channel [] = None
  channel (w ∷ ws) = if same_mark w.mark m.Arrow then t.Chan dirs.Send <$> f ws
      else t.Chan dirs.Both <$> f (w ∷ ws)

  unfoldable pub receiving : List Word → Option TypeExpr
  receiving [] = None
  receiving (w ∷ ws) = if same_mark w.mark m.Chan then t.Chan dirs.Receive <$> f ws else None

  -- a type, or three dots and a type where they are allowed
  unfoldable pub typed : Bool → List Word → Option (TypeExpr × Bool)
  typed dots [] = None
  typed dots (w ∷ ws) = if same_mark w.mark m.Ellipsis
      then (if dots then (λ x. (x, true)) <$> f ws else None) else (λ x. (x, false)) <$> f (w ∷ ws)

  -- a name before others
  abbrev pub sharing : Word → List Param → Option (List Param)
  sharing name [] = None
  sharing name (p ∷ ps) = let next = out-Param p in
      if next.variadic then None else Some (sharing_param name.span next.typ ∷ p ∷ ps)

  abbrev pub before_others : Word → List Word → List Param → Option (List Param)
  before_others name [] ps = sharing name ps
  before_others name (w ∷ ws) ps = (λ x. param (Some name.span) x false ∷ ps) <$> f (w ∷ ws)

  abbrev pub last_named : Bool → Word → List Word → Option (List Param)
  last_named dots name ws = (λ x. param (Some name.span) x.0 x.1 ∷ []) <$> typed dots ws

  -- one entry, before those of some parameters
  unfoldable pub named_entry : Bool → List Word → Option (List Param) → Option (List Param)
  named_entry dots [] ps = None
  named_entry dots (name ∷ ws) ps = if same_mark name.mark m.Ident
      then (ps >>= before_others name ws) else None

  unfoldable pub named_last : Bool → List Word → Option (List Param)
  named_last dots [] = None
  named_last dots (name ∷ ws) = if same_mark name.mark m.Ident then last_named dots name ws
      else None

  abbrev pub with_names : Bool → List (List Word) → Option (List Param)
  with_names dots [] = None
  with_names dots (e ∷ []) = named_last dots e
  with_names dots (e ∷ d ∷ es) = named_entry dots e (with_names dots (d ∷ es))

  abbrev pub without_names : Bool → List (List Word) → Option (List Param)
  without_names dots [] = Some []
  without_names dots (e ∷ []) = (λ x. param None x.0 x.1 ∷ []) <$> typed dots e
  without_names dots (e ∷ d ∷ es) = without_names dots (d ∷ es)
      >>= λ ps. (λ x. param None x false ∷ ps) <$> f e

  abbrev pub entries : Bool → List (List Word) → Option (List Param)
  entries dots es = if list_any looks_named es then with_names dots es else without_names dots es

  unfoldable pub params : Bool → List Word → Option (List Param)
  params dots ws = entries dots (pieces m.Comma ws)

  abbrev pub result_of : List Word → Word → List Word → Option (List Param)
  result_of ws v vs = if same_mark v.mark m.OpenParen then (alone m.CloseParen vs >>= params false)
      else (λ x. param None x false ∷ []) <$> f (v ∷ vs)

  abbrev pub results : List Word → Option (List Param)
  results [] = Some []
  results (v ∷ vs) = result_of (v ∷ vs) v vs

  abbrev pub signature_of : List Word × List Word → Option Signature
  signature_of (inner, rest) = params true inner >>= λ ps. signature ps <$> results rest

  unfoldable pub read_signature : List Word → Option Signature
  read_signature [] = None
  read_signature (w ∷ ws) = if same_mark w.mark m.OpenParen then enclosed m.CloseParen ws
      >>= signature_of else None

  -- the names and the type of a field
  abbrev pub declared : List Word → Option (List Span × TypeExpr)
  declared [] = None
  declared (name ∷ []) = None
  declared (name ∷ v ∷ vs) = if same_mark name.mark m.Ident
      then (if same_mark v.mark m.Comma then with_name name.span <$> declared vs
      else one_name name.span <$> f (v ∷ vs)) else None

  abbrev pub embedded : List Word → Option (List Span × TypeExpr)
  embedded ws = no_names <$> f ws

  -- a field without its tag, by its first two words
  unfoldable pub field_body : List Word → Option (List Span × TypeExpr)
  field_body [] = None
  field_body (w ∷ []) = if same_mark w.mark m.Ident then embedded (w ∷ []) else None
  field_body (w ∷ v ∷ vs) = if same_mark w.mark m.Star
      then (if same_mark v.mark m.Ident then embedded (w ∷ v ∷ vs) else None)
      else (if looks_named (w ∷ v ∷ vs) then declared (w ∷ v ∷ vs)
      else (if same_mark w.mark m.Ident then embedded (w ∷ v ∷ vs) else None))

  unfoldable pub read_field : List Word → Option Field
  read_field [] = None
  read_field (w ∷ ws) = field_of (range_of w ws) (split_tag (w ∷ ws)).1
      <$> field_body (split_tag (w ∷ ws)).0

  abbrev pub fields : List Word → Option TypeExpr
  fields inner = t.Struct <$> each read_field (pieces m.Semi inner)

  unfoldable pub structure : List Word → Option TypeExpr
  structure [] = None
  structure (w ∷ ws) = if same_mark w.mark m.OpenBrace then alone m.CloseBrace ws >>= fields
      else None

  unfoldable pub read_term : List Word → Option Term
  read_term [] = None
  read_term (w ∷ ws) = if same_mark w.mark m.Tilde then term true <$> f ws else term false
      <$> f (w ∷ ws)

  unfoldable pub read_terms : List Word → Option (List Term)
  read_terms [] = None
  read_terms (w ∷ ws) = if same_mark (last_of w ws).mark m.Bar then None
      else each read_term (pieces m.Bar (w ∷ ws)) >>= not_empty

  unfoldable pub read_element : List Word → Option Element
  read_element [] = None
  read_element (w ∷ ws) = if is_method w ws then elements.Method (range_of w ws) w.span
      <$> read_signature ws
      else elements.Terms (range_of w ws) <$> read_terms (w ∷ ws)

  abbrev pub elements_of : List Word → Option TypeExpr
  elements_of inner = t.Interface <$> each read_element (pieces m.Semi inner)

  unfoldable pub interface : List Word → Option TypeExpr
  interface [] = None
  interface (w ∷ ws) = if same_mark w.mark m.OpenBrace then alone m.CloseBrace ws >>= elements_of
      else None

  abbrev pub function : List Word → Option TypeExpr
  function ws = t.Func <$> read_signature ws

  abbrev pub pointer : List Word → Option TypeExpr
  pointer ws = t.Pointer <$> f ws

  abbrev pub in_parentheses : List Word → Option TypeExpr
  in_parentheses ws = alone m.CloseParen ws >>= f

  -- by what the first word is
  abbrev pub by_mark : Mark → Word → List Word → Option TypeExpr
  by_mark m.Ident w ws = name w ws
  by_mark m.OpenParen w ws = alone m.CloseParen ws >>= f
  by_mark m.Star w ws = pointer ws
  by_mark m.Func w ws = function ws
  by_mark m.OpenBracket w ws = bracketed ws
  by_mark m.Map w ws = map ws
  by_mark m.Chan w ws = channel ws
  by_mark m.Arrow w ws = receiving ws
  by_mark m.Struct w ws = structure ws
  by_mark m.Interface w ws = interface ws
  by_mark _ w ws = None

  abbrev pub step : List Word → Option TypeExpr
  step [] = None
  step (w ∷ ws) = by_mark w.mark w ws

unfoldable pub type_of : ℕ → List Word → Option TypeExpr
type_of zero ws = None
type_of (suc levels) ws = step (type_of levels) ws
