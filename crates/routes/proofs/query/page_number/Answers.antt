use Rattle.std.proofs.Common.{◌≡◌, true, rules}
use Rattle.std.specs.List.{list_all}
use Rattle.std.specs.Char.{is_ascii_digit}
use Rattle.routes.proofs.TextLemmas.{page_parsed, page_not_parsed}
use Rattle.routes.proofs.query.page_number.Goals as goal

pub returns-in-Ok : goal.returns-in-Ok
returns-in-Ok c =
    let parsed = rw c.in-Ok.is at c.parse.ensures.value in
    let all : list_all is_ascii_digit c.args.text.now ≡ true = search rules in
    page_parsed c.args.text.now c.in-Ok.page parsed.0
    (search rules) all c.if-page-ge-FIRST_PAGE.true

pub returns-in_default-2 : goal.returns-in_default-2
returns-in_default-2 c =
    let parsed = rw c.in_default.is at c.parse.ensures.value in
    let all : list_all is_ascii_digit c.args.text.now ≡ true = search rules in
    page_not_parsed c.args.text.now parsed.0 (search rules) all
