use Rattle.std.proofs.Common.{rules, ◌≡◌, ◌++◌, sym, ap, ◌∙◌}
use Rattle.std.specs.List.{flat_map}
use Rattle.go_ast.specs.declared.tree.TypeExpr.{TypeExpr}
use Rattle.ident_index.specs.Naming.{names_of_element, names_of_field, names_of_signature}
use Rattle.ident_index.specs.Naming.{names_of_term, names_of_type}
use Rattle.ident_index.proofs.Flattening.{added, added_twice, names_of-Interface, names_of-Map}
use Rattle.ident_index.proofs.Flattening.{names_of-Name, names_of-Struct, names_of-Terms}
use Rattle.ident_index.proofs.Flattening.{names_of-signature}
use Rattle.ident_index.proofs.names.+declaring.Goals as goal

pub element_names-returns-in-Terms : goal.element_names-returns-in-Terms
element_names-returns-in-Terms t c =
    added c.terms_names.result c.args.names.now.items c.terms_names.new.names.items
    (flat_map names_of_term c.in-Terms.terms) (names_of_element c.args.element.now)
    (sym (ap names_of_element c.in-Terms.is ∙ names_of-Terms c.in-Terms.tokens c.in-Terms.terms))
    c.terms_names.ensures

pub signature_names-returns : goal.signature_names-returns
signature_names-returns t c =
    added_twice c.params_names-2.result c.args.names.now.items c.params_names.new.names.items
    c.params_names-2.new.names.items _ _ (names_of_signature c.args.sig.now)
    c.in_ok-params_names.ensures (sym (names_of-signature c.args.sig.now)) c.params_names-2.ensures

pub type_names-returns-in-Name : goal.type_names-returns-in-Name
type_names-returns-in-Name t c =
    added c.types_names.result c.args.names.now.items c.types_names.new.names.items
    (flat_map names_of_type c.in-Name.args) (names_of_type c.args.typ.now)
    (sym (ap names_of_type c.in-Name.is ∙ names_of-Name c.in-Name.qualifier c.in-Name.name
    c.in-Name.args)) c.types_names.ensures

pub type_names-returns-in_ok-type_names-in-Map : goal.type_names-returns-in_ok-type_names-in-Map
type_names-returns-in_ok-type_names-in-Map t c =
    let key : c.get-in-Map.result.now ≡ c.in-Map.key = search rules in
    let value : c.get-in-Map-2.result.now ≡ c.in-Map.value = search rules in
    added_twice c.type_names-in-Map-2.result c.args.names.now.items
    c.type_names-in-Map.new.names.items c.type_names-in-Map-2.new.names.items
    (names_of_type c.get-in-Map.result.now) (names_of_type c.get-in-Map-2.result.now)
    (names_of_type c.args.typ.now)
    c.in_ok-type_names-in-Map.ensures
    (ap (λ (k : TypeExpr). names_of_type k ++ names_of_type c.get-in-Map-2.result.now) key
    ∙ ap (λ (v : TypeExpr). names_of_type c.in-Map.key ++ names_of_type v) value
    ∙ sym (ap names_of_type c.in-Map.is ∙ names_of-Map c.in-Map.key c.in-Map.value))
    c.type_names-in-Map-2.ensures

pub type_names-returns-in-Struct : goal.type_names-returns-in-Struct
type_names-returns-in-Struct t c =
    added c.fields_names.result c.args.names.now.items c.fields_names.new.names.items
    (flat_map names_of_field c.in-Struct.fields) (names_of_type c.args.typ.now)
    (sym (ap names_of_type c.in-Struct.is ∙ names_of-Struct c.in-Struct.fields))
    c.fields_names.ensures

pub type_names-returns-in-Interface : goal.type_names-returns-in-Interface
type_names-returns-in-Interface t c =
    added c.elements_names.result c.args.names.now.items c.elements_names.new.names.items
    (flat_map names_of_element c.in-Interface.elements) (names_of_type c.args.typ.now)
    (sym (ap names_of_type c.in-Interface.is ∙ names_of-Interface c.in-Interface.elements))
    c.elements_names.ensures
