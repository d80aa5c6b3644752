use Rattle.std.proofs.Common.{◌≡◌, ◌++◌, take}
use Rattle.std.specs.List.{flat_map}
use Rattle.ident_index.specs.Naming.{names_of_element, names_of_field, names_of_param}
use Rattle.ident_index.specs.Naming.{names_of_term, names_of_type}
use Rattle.ident_index.proofs.names.+declaring.Given as goal

abbrev pub invariant-types_names-loop-typ : goal.invariant-types_names-loop-typ
invariant-types_names-loop-typ l = l.names.items
    ≡ l.fn.names.items ++ flat_map names_of_type (take l.typ-index l.typ-items)

abbrev pub invariant-params_names-loop-param : goal.invariant-params_names-loop-param
invariant-params_names-loop-param l = l.names.items
    ≡ l.fn.names.items ++ flat_map names_of_param (take l.param-index l.param-items)

abbrev pub invariant-fields_names-loop-field : goal.invariant-fields_names-loop-field
invariant-fields_names-loop-field l = l.names.items
    ≡ l.fn.names.items ++ flat_map names_of_field (take l.field-index l.field-items)

abbrev pub invariant-elements_names-loop-element : goal.invariant-elements_names-loop-element
invariant-elements_names-loop-element l = l.names.items
    ≡ l.fn.names.items ++ flat_map names_of_element (take l.element-index l.element-items)

abbrev pub invariant-terms_names-loop-term : goal.invariant-terms_names-loop-term
invariant-terms_names-loop-term l = l.names.items
    ≡ l.fn.names.items ++ flat_map names_of_term (take l.term-index l.term-items)
