use Rattle.std.proofs.Common.{arith}
use Rattle.std.proofs.lemmas.Map.Text.{text_keys}
use Rattle.std.proofs.lemmas.Grind.{text_groups}
use Rattle.ident_index.proofs.groups.add_hit.Goals as goal

pub returns-clause-hits : goal.returns-clause-hits
returns-clause-hits c = λ q. grind (arith, text_groups)

pub returns-clause-names : goal.returns-clause-names
returns-clause-names c = λ q. grind (arith, text_keys)
