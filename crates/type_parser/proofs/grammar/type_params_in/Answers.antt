use Rattle.std.proofs.Common.{◌≡◌, ◌∙◌, sym, subst, IfOk}
use Rattle.type_parser.proofs.TypeParamLaws.{array-reads, entries-read}
use Rattle.type_parser.proofs.grammar.type_params_in.Goals as goal

pub returns-then-is_array_like-clause-read : goal.returns-then-is_array_like-clause-read
returns-then-is_array_like-clause-read c = sym (array-reads c.args.words.now
    (sym c.is_array_like.ensures ∙ c.if-is_array_like.true))

pub returns-else-is_array_like-clause-read : goal.returns-else-is_array_like-clause-read
returns-else-is_array_like-clause-read c =
    subst (λ o. IfOk c.entries_in.result (λ found. found ≡ o))
    (sym (entries-read c.args.words.now (sym c.is_array_like.ensures ∙ c.if-is_array_like.false)))
    c.entries_in.ensures.read
