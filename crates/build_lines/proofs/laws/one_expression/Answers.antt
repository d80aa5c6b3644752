use Rattle.std.proofs.Common.{sym, ◌∙◌, ap, subst}
use Rattle.std.specs.Str.{chars}
use Rattle.std.proofs.lemmas.Str.{chars-encodes}
use Rattle.build_lines.specs.Expressions.{IsSpelled}
use Rattle.build_lines.proofs.SpacedText.{spelled_once}
use Rattle.build_lines.proofs.laws.one_expression.Goals as goal

pub returns : goal.returns
returns c =
    λ bytes expression other (text, scalars, split, spelled) (text', scalars', split', spelled').
    let same = sym (chars-encodes text scalars) ∙ ap chars (sym split ∙ split')
    ∙ chars-encodes text' scalars' in
    spelled_once text' expression other (subst (λ l. IsSpelled l expression) same spelled) spelled'
