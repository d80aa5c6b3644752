use Rattle.std.proofs.Common.{sym, subst}
use Rattle.ident_index.specs.Postings.{HasNames}
use Rattle.tests_corpus.proofs.identifiers.hits_in.Goals as goal

pub returns : goal.returns
returns g c =
    let bytes = c.as_bytes-source.result.now in
    let hits = c.in_ok-hits.hits in
    let named : HasNames bytes hits =
    subst (HasNames bytes) (sym c.in_ok-hits.ensures)
    (c.names_of_hits.ensures.begin bytes c.in_ok-scanned.scanned.tokens
    c.in_ok-scanned.scanned.comments c.file_of.result c.args.number
    c.in_ok-scanned.ensures.read) in
    subst (λ b. HasNames b hits) c.as_bytes-source.ensures.value named
