-- The names of each form of a type, from those of its parts.
use Rattle.std.proofs.Common.{◌≡◌, List, [], ◌∷◌, ◌++◌, map, Option, Result, OnOk, refl, sym, ap}
use Rattle.std.proofs.Common.{◌∙◌, append_assoc}
use Rattle.std.specs.List.{flat_map}
use Rattle.std.proofs.lemmas.Result.{on_ok_weaker}
use Rattle.go_ast.specs.declared.token.Span.{Span}
use Rattle.go_ast.specs.declared.token.TokenRange.{TokenRange}
use Rattle.go_ast.specs.declared.tree.TypeExpr.{TypeExpr}
use Rattle.go_ast.specs.declared.tree.TypeExpr.TheVariants as t
use Rattle.go_ast.specs.declared.tree.Signature.{Signature, out-Signature}
use Rattle.go_ast.specs.declared.tree.Field.{Field}
use Rattle.go_ast.specs.declared.tree.Element.{Element}
use Rattle.go_ast.specs.declared.tree.Element.TheVariants as elements
use Rattle.go_ast.specs.declared.tree.Term.{Term}
use Rattle.go_ast.specs.declared.tree.Element.TheOpen.{Element-F, TypeExpr-F}
use Rattle.go_ast.specs.declared.tree.Element.TheFolds.{fold-roll-TypeExpr, fold-roll-Element}
use Rattle.go_ast.specs.declared.tree.Element.TheFolds.{fold_out-Signature}
use Rattle.ident_index.specs.Naming.{Name, all_of, element_step, field_step, names_of_element}
use Rattle.ident_index.specs.Naming.{names_of_field, names_of_param, names_of_signature}
use Rattle.ident_index.specs.Naming.{names_of_term, names_of_type, param_step, signature_step}
use Rattle.ident_index.specs.Naming.{term_step, type_step}

pub all_of-map : {X : Type 0} (f : X → List Name) (xs : List X) → all_of (map f xs) ≡ flat_map f xs
all_of-map f [] = refl
all_of-map f (x ∷ xs) = ap (λ names. f x ++ names) (all_of-map f xs)

pub names_of-Name : (qualifier : Option Span) (name : Span) (args : List TypeExpr)
    → names_of_type (t.Name qualifier name args) ≡ flat_map names_of_type args
names_of-Name qualifier name args =
    ap names_of_type (sym (t.rolls-Name qualifier name args))
    ∙ fold-roll-TypeExpr (List Name) (List Name) (List Name) (List Name) (List Name) (List Name)
    element_step type_step field_step param_step signature_step term_step
    (TypeExpr-F.Name qualifier name args)
    ∙ all_of-map names_of_type args

pub names_of-Map : (key value : TypeExpr) → names_of_type (t.Map key value)
    ≡ names_of_type key ++ names_of_type value
names_of-Map key value =
    ap names_of_type (sym (t.rolls-Map key value))
    ∙ fold-roll-TypeExpr (List Name) (List Name) (List Name) (List Name) (List Name) (List Name)
    element_step type_step field_step param_step signature_step term_step (TypeExpr-F.Map key value)

pub names_of-Struct : (fields : List Field) → names_of_type (t.Struct fields)
    ≡ flat_map names_of_field fields
names_of-Struct fields =
    ap names_of_type (sym (t.rolls-Struct fields))
    ∙ fold-roll-TypeExpr (List Name) (List Name) (List Name) (List Name) (List Name) (List Name)
    element_step type_step field_step param_step signature_step term_step (TypeExpr-F.Struct fields)
    ∙ all_of-map names_of_field fields

pub names_of-Interface : (es : List Element) → names_of_type (t.Interface es)
    ≡ flat_map names_of_element es
names_of-Interface es =
    ap names_of_type (sym (t.rolls-Interface es))
    ∙ fold-roll-TypeExpr (List Name) (List Name) (List Name) (List Name) (List Name) (List Name)
    element_step type_step field_step param_step signature_step term_step (TypeExpr-F.Interface es)
    ∙ all_of-map names_of_element es

pub names_of-Terms : (tokens : TokenRange) (terms : List Term)
    → names_of_element (elements.Terms tokens terms) ≡ flat_map names_of_term terms
names_of-Terms tokens terms =
    ap names_of_element (sym (elements.rolls-Terms tokens terms))
    ∙ fold-roll-Element (List Name) (List Name) (List Name) (List Name) (List Name) (List Name)
    element_step type_step field_step param_step signature_step term_step
    (Element-F.Terms tokens terms)
    ∙ all_of-map names_of_term terms

pub names_of-signature : (sig : Signature) → names_of_signature sig
    ≡ flat_map names_of_param (out-Signature sig).params ++ flat_map names_of_param
    (out-Signature sig).results
names_of-signature sig =
    fold_out-Signature (List Name) (List Name) (List Name) (List Name) (List Name) (List Name)
    element_step type_step field_step param_step signature_step term_step sig
    ∙ ap (λ ns. ns ++ all_of (map names_of_param (out-Signature sig).results))
    (all_of-map names_of_param (out-Signature sig).params)
    ∙ ap (λ ns. flat_map names_of_param (out-Signature sig).params ++ ns)
    (all_of-map names_of_param (out-Signature sig).results)

-- a list to which names were added, once and twice
pub added : {T E : Type 0} (r : Result T E) (old new ns ms : List Name) → ns ≡ ms
    → OnOk r (new ≡ old ++ ns) → OnOk r (new ≡ old ++ ms)
added r old new ns ms same = on_ok_weaker r (λ e. e ∙ ap (λ l. old ++ l) same)

pub added_twice : {T E : Type 0} (r : Result T E) (old middle new ns ms all : List Name) → middle
    ≡ old ++ ns → ns ++ ms ≡ all
    → OnOk r (new ≡ middle ++ ms) → OnOk r (new ≡ old ++ all)
added_twice r old middle new ns ms all first same =
    on_ok_weaker r (λ e. e ∙ ap (λ l. l ++ ms) first ∙ append_assoc old ns ms
    ∙ ap (λ l. old ++ l) same)
