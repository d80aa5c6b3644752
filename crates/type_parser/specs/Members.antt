-- Cited by private clauses and proofs. The members of structs and interfaces, as the parser reads
-- them.
use Rattle.std.specs.Prelude.{Bool, false, List, [], ◌∷◌, Option}
use Rattle.go_ast.specs.declared.tree.TypeExpr.{TypeExpr}
use Rattle.go_ast.specs.declared.tree.Field.{Field}
use Rattle.go_ast.specs.declared.tree.Term.{Term}
use Rattle.go_ast.specs.declared.tree.Element.{Element}
use Rattle.go_ast.specs.declared.tree.Element.TheVariants as elements
use Rattle.go_ast.specs.declared.word.Word.{Word}
use Rattle.go_ast.specs.declared.word.Mark.TheVariants as m
use Rattle.go_ast.specs.Cutting.{pieces, range_of, last_of}
use Rattle.go_ast.specs.Marks.{same_mark}
use Rattle.type_parser.specs.Reading.{◌<$>◌, each, read_field, read_term, read_element}
use Rattle.type_parser.specs.Reading.{read_signature}

abbrev pub ends_with_bar : List Word → Bool
ends_with_bar [] = false
ends_with_bar (w ∷ ws) = same_mark (last_of w ws).mark m.Bar

module _ (f : List Word → Option TypeExpr) where
  unfoldable pub fields_in : List Word → Option (List Field)
  fields_in ws = each (read_field f) (pieces m.Semi ws)

  unfoldable pub terms_in : List Word → Option (List Term)
  terms_in ws = each (read_term f) (pieces m.Bar ws)

  unfoldable pub elements_in : List Word → Option (List Element)
  elements_in ws = each (read_element f) (pieces m.Semi ws)

  abbrev pub method : Word → List Word → Option Element
  method name ws = elements.Method (range_of name ws) name.span <$> read_signature f ws
