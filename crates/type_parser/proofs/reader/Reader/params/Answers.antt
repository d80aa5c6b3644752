use Rattle.std.proofs.Common.{◌≡◌, ◌∙◌, ap, subst, IfOk}
use Rattle.std.specs.List.{list_any}
use Rattle.type_parser.specs.Reading.{type_of, params, entries, looks_named}
use Rattle.type_parser.specs.Entries.{from_last}
use Rattle.type_parser.proofs.EntryLists.{from-last-is}
use Rattle.type_parser.proofs.reader.Reader.params.Goals as goal

pub returns : goal.returns
unfolding params
returns g c =
    let f = type_of c.args.self.now.levels in
    let found = c.in_ok-entries.entries.items in
    let same = ap (λ es. from_last f c.some_looks_named-named.result c.args.dots es)
    c.deref-2.ensures.value
    ∙ ap (λ b. from_last f b c.args.dots found)
    (c.some_looks_named-named.ensures ∙ ap (list_any looks_named) c.deref.ensures.value)
    ∙ from-last-is f c.args.dots found ∙ ap (entries f c.args.dots) c.in_ok-entries.ensures in
    subst (λ x. IfOk c.entries.result (λ o. o ≡ x)) same c.entries.ensures
