use Rattle.std.proofs.Common.{◌≡◌, List, ℕ, ap, ◌∙◌, subst, rules}
use Rattle.std.proofs.lemmas.Result.{err_from_is_err_and}
use Rattle.go_ast.specs.declared.fault.Fault.TheVariants as faults
use Rattle.go_ast.specs.declared.fault.Refused.{Refused}
use Rattle.go_ast.specs.Reading.{Reads}
use Rattle.go_scanner.specs.Results.{RefusedFor}
use Rattle.go_scanner.proofs.OneReading.{one_reading, one_fault, not_both}
use Rattle.go_scanner.proofs.Refusals.{only_memory, refused_as, unread}
use Rattle.go_scanner.proofs.Spans.{spans, within, spellings}
use Rattle.go_scanner.proofs.scanner.scan.Goals as goal

-- what is said of the text is said of the source
of_source : (text source : List ℕ) (refused : Refused) → text ≡ source → RefusedFor text refused
    → RefusedFor source refused
of_source text source refused same h = subst (λ l. RefusedFor l refused) same h

pub returns-in-Err-clause-refused : goal.returns-in-Err-clause-refused
returns-in-Err-clause-refused c =
    let place = ap faults.NotUtf8 c.valid_up_to.ensures in
    λ fault known. place
    ∙ one_fault c.args.source.now (faults.NotUtf8 _) fault c.in-Err.ensures.cases.1 known

pub returns-in_err-tokens-clause-found : goal.returns-in_err-tokens-clause-found
returns-in_err-tokens-clause-found c =
    let p = err_from_is_err_and c.from_residual.result c.from_residual.ensures.1 in
    rw (p.1, p.2)
    (only_memory c.args.source.now _
    (of_source _ _ _ c.in-Ok.ensures.cases.0 c.in_err-tokens.ensures.refused))

pub returns-in_err-tokens-clause-refused : goal.returns-in_err-tokens-clause-refused
returns-in_err-tokens-clause-refused c =
    let p = err_from_is_err_and c.from_residual.result c.from_residual.ensures.1 in
    rw (p.1, p.2)
    (refused_as c.args.source.now _
    (of_source _ _ _ c.in-Ok.ensures.cases.0 c.in_err-tokens.ensures.refused))

pub returns-in_err-tokens-clause-unread : goal.returns-in_err-tokens-clause-unread
returns-in_err-tokens-clause-unread c =
    let p = err_from_is_err_and c.from_residual.result c.from_residual.ensures.1 in
    rw (p.1, p.2)
    (λ fault same. unread c.args.source.now _
    (of_source _ _ _ c.in-Ok.ensures.cases.0 c.in_err-tokens.ensures.refused) fault cc)

pub returns-clause-found : goal.returns-clause-found
returns-clause-found c =
    let mine : Reads c.args.source.now c.from_vec.result c.from_vec-2.result = search rules in
    λ tokens comments read. one_reading c.args.source.now _ _ _ _ mine read

pub returns-clause-refused : goal.returns-clause-refused
returns-clause-refused c =
    let mine : Reads c.args.source.now c.from_vec.result c.from_vec-2.result = search rules in
    λ fault known. not_both c.args.source.now _ _ fault mine known

pub returns-clause-spans : goal.returns-clause-spans
returns-clause-spans c =
    let mine : Reads c.args.source.now c.from_vec.result c.from_vec-2.result = search rules in
    spans c.args.source.now _ _ mine

pub returns-clause-within : goal.returns-clause-within
returns-clause-within c =
    let mine : Reads c.args.source.now c.from_vec.result c.from_vec-2.result = search rules in
    within c.args.source.now _ _ mine

pub returns-clause-spelled : goal.returns-clause-spelled
returns-clause-spelled c =
    let mine : Reads c.args.source.now c.from_vec.result c.from_vec-2.result = search rules in
    spellings c.args.source.now _ _ mine
