-- Cited by private clauses and proofs. Entries of parameters, read from the last to the first.
use Rattle.std.specs.Prelude.{Bool, true, false, List, [], ◌∷◌, ◌++◌, Option, Some, None}
use Rattle.std.specs.Prelude.{if◌then◌else◌}
use Rattle.go_ast.specs.declared.tree.TypeExpr.{TypeExpr}
use Rattle.go_ast.specs.declared.tree.Param.{Param}
use Rattle.go_ast.specs.declared.token.Span.{Span}
use Rattle.go_ast.specs.declared.word.Word.{Word}
use Rattle.go_ast.specs.Types.{param}
use Rattle.type_parser.specs.Reading.{◌>>=◌, ◌<$>◌, is_all_bracketed, may_be_type, named_last}
use Rattle.type_parser.specs.Reading.{named_entry, typed}

abbrev pub are_all_bracketed : List Word → Bool
are_all_bracketed [] = false
are_all_bracketed (w ∷ ws) = is_all_bracketed w ws

abbrev pub may_all_be_type : List Word → Bool
may_all_be_type [] = false
may_all_be_type (w ∷ ws) = may_be_type w ws

-- these names and then those
abbrev pub after_names : List Span → List Span × TypeExpr → List Span × TypeExpr
after_names names body = (names ++ body.0, body.1)

module _ (f : List Word → Option TypeExpr) where
  abbrev pub last_entry : Bool → Bool → List Word → Option (List Param)
  last_entry named dots e = if named then named_last f dots e else (λ x. param None x.0 x.1 ∷ [])
      <$> typed f dots e

  -- an entry before some parameters
  abbrev pub entry_before : Bool → List Word → List Param → Option (List Param)
  entry_before named e ps = if named then named_entry f true e (Some ps)
      else (λ x. param None x false ∷ ps) <$> f e

  abbrev pub from_last : Bool → Bool → List (List Word) → Option (List Param)
  from_last named dots [] = Some []
  from_last named dots (e ∷ []) = last_entry named dots e
  from_last named dots (e ∷ d ∷ es) = from_last named dots (d ∷ es) >>= entry_before named e

  abbrev pub one_result : List Word → Option (List Param)
  one_result ws = (λ x. param None x false ∷ []) <$> f ws
