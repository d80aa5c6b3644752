use Rattle.std.proofs.Common.{◌∙◌, ap}
use Rattle.std.proofs.lemmas.Result.{on_err_weaker, on_ok_weaker}
use Rattle.corpus.specs.Corpora.{hits_in}
use Rattle.ident_index.specs.Postings.{hits_named}
use Rattle.godoc_commands.proofs.FoundLines.{found_stand}
use Rattle.godoc_commands.proofs.Writing.{AddsFound-hits, AddsFoundFront-hits}
use Rattle.godoc_commands.proofs.Writing.{AddsFoundFront-nothing, OnErr-always}
use Rattle.godoc_commands.proofs.find.write_found.Goals as goal

pub write_lines-requires : goal.write_lines-requires
write_lines-requires g c =
    rw c.hits_of.ensures (found_stand c.args.corpus.now c.own_tables.ensures.tables _)

pub returns-in_err-name-clause-front : goal.returns-in_err-name-clause-front
returns-in_err-name-clause-front g c =
    OnErr-always c.from_residual.result
    (AddsFoundFront-nothing c.args.corpus.now c.args.name.now c.own_tables.ensures.tables _)

pub returns-clause-found : goal.returns-clause-found
returns-clause-found g c =
    let corpus = c.args.corpus.now in
    on_ok_weaker c.write_lines.result
    (AddsFound-hits corpus c.args.name.now c.own_tables.ensures.tables _ _ c.hits_of.result.now
    (c.hits_of.ensures
    ∙ ap (λ n. hits_named n (hits_in corpus.tables.files)) c.in_ok-name.ensures))
    c.write_lines.ensures.ok

pub returns-clause-front : goal.returns-clause-front
returns-clause-front g c =
    let corpus = c.args.corpus.now in
    on_err_weaker c.write_lines.result
    (AddsFoundFront-hits corpus c.args.name.now c.own_tables.ensures.tables _ _ c.hits_of.result.now
    (c.hits_of.ensures
    ∙ ap (λ n. hits_named n (hits_in corpus.tables.files)) c.in_ok-name.ensures))
    c.write_lines.ensures.front
