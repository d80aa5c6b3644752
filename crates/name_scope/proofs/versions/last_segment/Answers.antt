use Rattle.std.proofs.Common.{List, ℕ, Option, ap, sym, arith}
use Rattle.std.specs.Option.{option_map_or}
use Rattle.plain_data.proofs.LastOf.{split_found, split_missed}
use Rattle.name_scope.proofs.versions.last_segment.Goals as goal

pub returns-in-Some : goal.returns-in-Some
returns-in-Some c =
    sym (ap (λ (o : Option (List ℕ × List ℕ)). option_map_or (λ split. split.1) o c.args.path.now)
    (split_found 47 (omega arith) c.args.path.now c.rsplit_once.result _ c.rsplit_once.ensures.cases
    c.in-Some.is))

pub returns-in-None : goal.returns-in-None
returns-in-None c =
    sym (ap (λ (o : Option (List ℕ × List ℕ)). option_map_or (λ split. split.1) o c.args.path.now)
    (split_missed 47 (omega arith) c.args.path.now c.rsplit_once.result c.rsplit_once.ensures.cases
    c.in-None.is))
