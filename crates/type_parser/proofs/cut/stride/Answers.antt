use Rattle.std.proofs.Common.{◌∙◌, ◌+◌, ap, sym, arith}
use Rattle.type_parser.proofs.Cuts.{stride-opened, rest-count}
use Rattle.type_parser.proofs.cut.stride.Goals as goal

pub returns-in-len1-up-clause-value : goal.returns-in-len1-up-clause-value
returns-in-len1-up-clause-value c =
    ap (λ n. n + 1) c.min.ensures
    ∙ stride-opened c.args.items.now _ _ _ c.requires.matched c.in-len1-up.len_at_least
    (sym c.opens.ensures ∙ c.if-opens.true) c.min-inside.ensures
    (omega (arith, rest-count c.args.items.now))
