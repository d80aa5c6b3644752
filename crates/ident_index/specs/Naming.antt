-- Cited by public clauses. The names that the declarations of a file declare, each by the offset
-- where it begins and its kind: a case for each alternative of the grammar (The Go Programming
-- Language Specification, "Declarations and scope"). Names in expressions and bodies are in no
-- tree.
use Rattle.std.specs.Prelude.{ℕ, List, [], ◌∷◌, ◌++◌, Option, Some, None, map}
use Rattle.std.specs.Prelude.{if◌then◌else◌}
use Rattle.std.specs.List.{flat_map}
use Rattle.go_ast.specs.declared.token.Span.{Span}
use Rattle.go_ast.specs.declared.tree.TypeExpr.{TypeExpr}
use Rattle.go_ast.specs.declared.tree.Param.{Param}
use Rattle.go_ast.specs.declared.tree.Signature.{Signature}
use Rattle.go_ast.specs.declared.tree.Field.{Field}
use Rattle.go_ast.specs.declared.tree.Element.{Element}
use Rattle.go_ast.specs.declared.tree.Term.{Term}
use Rattle.go_ast.specs.declared.tree.Element.TheOpen.{Element-F, Field-F, Param-F, Signature-F}
use Rattle.go_ast.specs.declared.tree.Element.TheOpen.{Term-F, TypeExpr-F}
use Rattle.go_ast.specs.declared.tree.Element.TheFolds.{fold-TypeExpr, fold-Param, fold-Signature}
use Rattle.go_ast.specs.declared.tree.Element.TheFolds.{fold-Field, fold-Element, fold-Term}
use Rattle.go_ast.specs.declared.declaration.Decl.{Decl}
use Rattle.go_ast.specs.declared.declaration.Decl.TheVariants as decls
use Rattle.go_ast.specs.declared.declaration.File.{File}
use Rattle.go_ast.specs.declared.declaration.FuncDecl.{FuncDecl}
use Rattle.go_ast.specs.declared.declaration.ImportName.{ImportName}
use Rattle.go_ast.specs.declared.declaration.ImportName.TheVariants as imports
use Rattle.go_ast.specs.declared.declaration.ImportSpec.{ImportSpec}
use Rattle.go_ast.specs.declared.declaration.Receiver.{Receiver}
use Rattle.go_ast.specs.declared.declaration.TypeParam.{TypeParam}
use Rattle.go_ast.specs.declared.declaration.TypeSpec.{TypeSpec}
use Rattle.go_ast.specs.declared.declaration.ValueSpec.{ValueSpec}
use Rattle.ident_index.specs.declared.hit.HitKind.{HitKind}
use Rattle.ident_index.specs.declared.hit.HitKind.TheVariants as kinds

-- an offset, and what the name there is
abbrev pub Name : Type 0
Name = ℕ × HitKind

abbrev pub declares : HitKind → Span → Name
declares kind span = (span.start, kind)

-- the names of some parts, one part after another
abbrev pub all_of : List (List Name) → List Name
all_of parts = flat_map (λ part. part) parts

-- Types, with the names of each part in its place: only the fields of a struct that have names and
-- the methods of an interface declare names

abbrev pub type_step : TypeExpr-F (List Name) (List Name) (List Name) (List Name) (List Name)
    (List Name) → List Name
type_step (TypeExpr-F.Name qualifier name args) = all_of args
type_step (TypeExpr-F.Pointer elem) = elem
type_step (TypeExpr-F.Slice elem) = elem
type_step (TypeExpr-F.Array length elem) = elem
type_step (TypeExpr-F.Map key value) = key ++ value
type_step (TypeExpr-F.Chan dir elem) = elem
type_step (TypeExpr-F.Func sig) = sig
type_step (TypeExpr-F.Struct fields) = all_of fields
type_step (TypeExpr-F.Interface elements) = all_of elements

-- names of a type that the next parameter has too come there
abbrev pub param_step : Param-F (List Name) (List Name) (List Name) (List Name) (List Name)
    (List Name) → List Name
param_step param = if param.shares then [] else param.typ

abbrev pub signature_step : Signature-F (List Name) (List Name) (List Name) (List Name) (List Name)
    (List Name) → List Name
signature_step sig = all_of sig.params ++ all_of sig.results

abbrev pub field_step : Field-F (List Name) (List Name) (List Name) (List Name) (List Name)
    (List Name) → List Name
field_step field = map (declares kinds.VarName) field.names ++ field.typ

abbrev pub element_step : Element-F (List Name) (List Name) (List Name) (List Name) (List Name)
    (List Name) → List Name
element_step (Element-F.Method tokens name sig) = declares kinds.MethodName name ∷ sig
element_step (Element-F.Terms tokens terms) = all_of terms

abbrev pub term_step : Term-F (List Name) (List Name) (List Name) (List Name) (List Name)
    (List Name) → List Name
term_step term = term.typ

abbrev pub names_of_type : TypeExpr → List Name
names_of_type =
    fold-TypeExpr (List Name) (List Name) (List Name) (List Name) (List Name) (List Name)
    element_step type_step field_step param_step signature_step term_step

abbrev pub names_of_param : Param → List Name
names_of_param = fold-Param (List Name) (List Name) (List Name) (List Name) (List Name) (List Name)
    element_step type_step field_step param_step signature_step term_step

abbrev pub names_of_signature : Signature → List Name
names_of_signature =
    fold-Signature (List Name) (List Name) (List Name) (List Name) (List Name) (List Name)
    element_step type_step field_step param_step signature_step term_step

abbrev pub names_of_field : Field → List Name
names_of_field = fold-Field (List Name) (List Name) (List Name) (List Name) (List Name) (List Name)
    element_step type_step field_step param_step signature_step term_step

abbrev pub names_of_element : Element → List Name
names_of_element =
    fold-Element (List Name) (List Name) (List Name) (List Name) (List Name) (List Name)
    element_step type_step field_step param_step signature_step term_step

abbrev pub names_of_term : Term → List Name
names_of_term = fold-Term (List Name) (List Name) (List Name) (List Name) (List Name) (List Name)
    element_step type_step field_step param_step signature_step term_step

-- Declarations: type parameters and receivers declare no names, but the types in their bounds may

abbrev pub names_if_any : Option TypeExpr → List Name
names_if_any None = []
names_if_any (Some x) = names_of_type x

abbrev pub names_of_type_param : TypeParam → List Name
names_of_type_param param = if param.shares then [] else flat_map names_of_term param.bound

abbrev pub import_name : ImportName → List Name
import_name (imports.Named name) = declares kinds.ImportName name ∷ []
import_name _ = []

abbrev pub names_of_import : ImportSpec → List Name
names_of_import spec = import_name spec.local

abbrev pub names_of_value : HitKind → ValueSpec → List Name
names_of_value kind spec = map (declares kind) spec.names ++ names_if_any spec.typ

abbrev pub names_of_type_spec : TypeSpec → List Name
names_of_type_spec spec =
    declares kinds.TypeName spec.name ∷ flat_map names_of_type_param spec.params
    ++ names_of_type spec.typ

-- a function with a receiver is a method
abbrev pub func_kind : Option Receiver → HitKind
func_kind None = kinds.FuncName
func_kind (Some receiver) = kinds.MethodName

abbrev pub names_of_func : FuncDecl → List Name
names_of_func func =
    declares (func_kind func.receiver) func.name
    ∷ flat_map names_of_type_param func.params ++ names_of_signature func.sig

abbrev pub names_of_decl : Decl → List Name
names_of_decl (decls.Import group) = flat_map names_of_import group.specs
names_of_decl (decls.Const group) = flat_map (names_of_value kinds.ConstName) group.specs
names_of_decl (decls.Var group) = flat_map (names_of_value kinds.VarName) group.specs
names_of_decl (decls.Types group) = flat_map names_of_type_spec group.specs
names_of_decl (decls.Func func) = names_of_func func

abbrev pub names_of_file : File → List Name
names_of_file file = declares kinds.PackageName file.package ∷ flat_map names_of_decl file.decls
