use Rattle.std.proofs.Common.{◌∙◌, sym, refl, true≢false}
use Rattle.type_parser.proofs.Options.{not_empty-is}
use Rattle.type_parser.proofs.reader.not_empty.Goals as goal

pub returns-then-is_empty : goal.returns-then-is_empty
returns-then-is_empty g c = rw (c.is_empty.ensures.0 c.if-is_empty.true) refl

pub returns-else-is_empty : goal.returns-else-is_empty
returns-else-is_empty g c =
    sym (not_empty-is c.args.items
    (λ e. true≢false (sym (c.is_empty.ensures.1 e) ∙ c.if-is_empty.false)))
