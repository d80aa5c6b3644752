use Rattle.std.proofs.Common.{rules, ◌+◌, ◌||◌, suc, drop, add-one, ap, sym, ◌∙◌}
use Rattle.std.proofs.lemmas.List.{take_rest}
use Rattle.std.specs.List.{list_any}
use Rattle.http_wire.specs.Fields.{between_commas, is_close}
use Rattle.http_wire.proofs.FieldLemmas.{commas_at, no_commas, any_of_one}
use Rattle.http_wire.proofs.fields.names_close.Goals as goal

pub returns-then-is_close : goal.returns-then-is_close
returns-then-is_close c =
    let rest = c.loop-comma.rest.now in
    let cut = commas_at rest c.in-Some.comma (search rules) (search rules) (search rules) in
    sym (sym c.loop-comma.invariant ∙ ap (list_any is_close) cut
    ∙ ap (λ b. b || list_any is_close (between_commas (drop (suc c.in-Some.comma) rest)))
    (sym c.is_close.ensures ∙ c.if-is_close.true))

pub loop-comma-preserved : goal.loop-comma-preserved
loop-comma-preserved c =
    let rest = c.loop-comma.rest.now in
    let after = drop (suc c.in-Some.comma) rest in
    let cut = commas_at rest c.in-Some.comma (search rules) (search rules) (search rules) in
    ap (λ w. list_any is_close (between_commas w))
    (take_rest rest (c.in-Some.comma + 1) ∙ ap (λ n. drop n rest) (add-one c.in-Some.comma))
    ∙ sym (ap (list_any is_close) cut
    ∙ ap (λ b. b || list_any is_close (between_commas after))
    (sym c.is_close.ensures ∙ c.if-is_close.false))
    ∙ c.loop-comma.invariant

pub returns : goal.returns
returns c =
    let rest = c.loop-comma.rest.now in
    c.is_close-2.ensures ∙ sym (any_of_one is_close rest)
    ∙ sym (ap (list_any is_close) (no_commas rest (search rules))) ∙ c.loop-comma.invariant
