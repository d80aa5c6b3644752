-- Cited by public clauses. Entries of type parameters, each read with the one after it: the public
-- clauses are those named `read`.
use Rattle.std.specs.Prelude.{List, [], ◌∷◌, Option, Some, None}
use Rattle.std.specs.Prelude.{if◌then◌else◌, slice_get}
use Rattle.go_ast.specs.declared.declaration.TypeParam.{TypeParam}
use Rattle.go_ast.specs.declared.tree.TypeExpr.{TypeExpr}
use Rattle.go_ast.specs.declared.word.Word.{Word}
use Rattle.go_ast.specs.declared.word.Mark.TheVariants as m
use Rattle.go_ast.specs.Cutting.{pieces}
use Rattle.go_ast.specs.Marks.{same_mark}
use Rattle.go_ast.specs.TypeParameters.{type_param, sharing_type_param, is_array_like}
use Rattle.type_parser.specs.Reading.{◌>>=◌, ◌<$>◌, not_empty, read_terms}

abbrev pub sharing : Word → Option TypeParam → Option TypeParam
sharing name None = None
sharing name (Some next) = Some (sharing_type_param name.span next.bound)

module _ (f : List Word → Option TypeExpr) where
  -- a name, and the terms of its bound or the bound of the next
  abbrev pub after_name : Word → List Word → Option TypeParam → Option TypeParam
  after_name name [] next = sharing name next
  after_name name (w ∷ ws) next = type_param name.span <$> read_terms f (w ∷ ws)

  unfoldable pub entry : List Word → Option TypeParam → Option TypeParam
  entry [] next = None
  entry (name ∷ ws) next = if same_mark name.mark m.Ident then after_name name ws next else None

  -- an entry before those of some type parameters
  abbrev pub add_entry : List Word → List TypeParam → Option (List TypeParam)
  add_entry e ps = (λ p. p ∷ ps) <$> entry e (slice_get ps 0)

  abbrev pub entries : List (List Word) → Option (List TypeParam)
  entries [] = Some []
  entries (e ∷ es) = entries es >>= add_entry e

  unfoldable pub read_entries : List Word → Option (List TypeParam)
  read_entries ws = entries (pieces m.Comma ws) >>= not_empty

  -- after the name of a type declaration
  unfoldable pub read_type_params : List Word → Option (List TypeParam)
  read_type_params ws = if is_array_like ws then None else read_entries ws
