use Rattle.std.proofs.Common.{◌≡◌, ◌++◌, map, drop}
use denote.Shadow.{shadow}
use denote.Text.{Utf8}
use Rattle.doc_order.specs.Documentation.{bases_of, exported_specs, with_bases}
use Rattle.doc_order.proofs.values.bases_of.Given as goal

-- the bases so far, and those that the specifications that are left add
abbrev pub invariant-loop-spec : goal.invariant-loop-spec
invariant-loop-spec l = shadow (Utf8 l.before) × (
    map (λ it. it.now) l.bases.items
    ++ map (λ spec. spec.base)
    (exported_specs (with_bases l.constant l.before (drop l.spec-index l.specs)))
    ≡ bases_of l.fn.constant l.specs)
