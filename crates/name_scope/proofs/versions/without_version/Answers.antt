use Rattle.std.proofs.Common.{List, ℕ, Option, Bool, cond, ap, sym, ◌∙◌, arith}
use Rattle.std.specs.Option.{option_map_or}
use Rattle.name_scope.specs.Scopes.{is_version}
use Rattle.plain_data.proofs.LastOf.{split_found, split_missed}
use Rattle.name_scope.proofs.versions.without_version.Goals as goal

pub returns-then-is_version : goal.returns-then-is_version
returns-then-is_version c =
    let split = split_found 46 (omega arith) c.args.segment.now c.rsplit_once.result _
    c.rsplit_once.ensures.cases c.in-Some.is in
    let version = ap is_version (sym c.as_bytes.ensures.value) ∙ sym c.is_version.ensures
    ∙ c.if-is_version.true in
    sym (ap (λ (b : Bool). cond b c.in-Some.front.now c.args.segment.now) version)
    ∙ sym (ap (λ (o : Option (List ℕ × List ℕ)). option_map_or
    (λ split. cond (is_version split.1) split.0 c.args.segment.now) o c.args.segment.now) split)

pub returns-else-is_version : goal.returns-else-is_version
returns-else-is_version c =
    let split = split_found 46 (omega arith) c.args.segment.now c.rsplit_once.result _
    c.rsplit_once.ensures.cases c.in-Some.is in
    let version = ap is_version (sym c.as_bytes.ensures.value) ∙ sym c.is_version.ensures
    ∙ c.if-is_version.false in
    sym (ap (λ (b : Bool). cond b c.in-Some.front.now c.args.segment.now) version)
    ∙ sym (ap (λ (o : Option (List ℕ × List ℕ)). option_map_or
    (λ split. cond (is_version split.1) split.0 c.args.segment.now) o c.args.segment.now) split)

pub returns-in-None : goal.returns-in-None
returns-in-None c =
    sym (ap (λ (o : Option (List ℕ × List ℕ)). option_map_or
    (λ split. cond (is_version split.1) split.0 c.args.segment.now) o c.args.segment.now)
    (split_missed 46 (omega arith) c.args.segment.now c.rsplit_once.result
    c.rsplit_once.ensures.cases c.in-None.is))
