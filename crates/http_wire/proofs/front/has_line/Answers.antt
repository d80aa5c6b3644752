use Rattle.std.proofs.Common.{rules, refl, ◌∙◌, sym, ap}
use Rattle.std.proofs.lemmas.List.{take_rest}
use Rattle.std.specs.List.{list_any}
use Rattle.http_wire.specs.Requests.{is_line_feed}
use Rattle.http_wire.proofs.LineLemmas.{from_other_at, no_other_byte}
use Rattle.http_wire.proofs.front.has_line.Goals as goal

pub returns-in-Some : goal.returns-in-Some
returns-in-Some c =
    c.has_line_feed.ensures ∙ ap (list_any is_line_feed) (take_rest c.args.bytes.now c.in-Some.start
    ∙ sym (from_other_at c.args.bytes.now c.in-Some.start (search rules) (search rules) (search rules)))

pub returns-in-None : goal.returns-in-None
returns-in-None c = rw (no_other_byte c.args.bytes.now (search rules)) refl
