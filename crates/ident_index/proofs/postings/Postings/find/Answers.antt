use Rattle.std.proofs.Common.{◌≡◌, sym, ap, ◌∙◌, subst, All, false}
use Rattle.std.specs.Str.{bytes_eq}
use Rattle.ident_index.specs.Postings.{Posting, hits_at}
use Rattle.ident_index.specs.Tables.{IsNamedAt}
use Rattle.ident_index.proofs.Finding.{hits_at_none, hits_at_place}
use Rattle.ident_index.proofs.postings.Postings.find.Goals as goal

pub returns-in-Some-clause-found : goal.returns-in-Some-clause-found
returns-in-Some-clause-found g c =
    let entries = c.self.inside.entries.items in
    let seen = c.new-names.ensures ∙ c.as_slice.ensures.value in
    let named : IsNamedAt c.args.name.now entries c.in-Some.place =
    subst (λ name. IsNamedAt name entries c.in-Some.place) c.as_bytes.ensures.value
    (subst (λ es. IsNamedAt c.as_bytes.result.now es c.in-Some.place) seen c.in-Some.ensures.found)
    in
    c.hits.ensures
    ∙ sym (hits_at_place entries c.args.name.now c.self.invariant.rising c.in-Some.place
    c.index.result.now named (sym c.index.ensures))
    ∙ ap (λ ps. hits_at ps c.args.name.now) c.self.view_is

pub returns-in-None-clause-found : goal.returns-in-None-clause-found
returns-in-None-clause-found g c =
    let entries = c.self.inside.entries.items in
    let none : All (λ e. bytes_eq c.args.name.now e.name ≡ false) entries =
    subst (λ name. All (λ (e : Posting). bytes_eq name e.name ≡ false) entries)
    c.as_bytes.ensures.value
    (subst (All (λ (e : Posting). bytes_eq c.as_bytes.result.now e.name ≡ false))
    (c.new-names.ensures ∙ c.as_slice.ensures.value) c.in-None.ensures.found) in
    sym (hits_at_none entries c.args.name.now none)
    ∙ ap (λ ps. hits_at ps c.args.name.now) c.self.view_is
