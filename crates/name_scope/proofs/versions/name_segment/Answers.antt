use Rattle.std.proofs.Common.{List, ℕ, Option, Bool, cond, ap, sym, ◌∙◌, arith}
use Rattle.std.specs.Option.{option_map_or}
use Rattle.name_scope.specs.Scopes.{is_version, last_segment}
use Rattle.plain_data.proofs.LastOf.{split_found, split_missed}
use Rattle.name_scope.proofs.versions.name_segment.Goals as goal

pub returns-then-is_version : goal.returns-then-is_version
returns-then-is_version c =
    let split = split_found 47 (omega arith) c.args.path.now c.rsplit_once.result _
    c.rsplit_once.ensures.cases c.in-Some.is in
    let version = ap is_version (sym c.as_bytes.ensures.value) ∙ sym c.is_version.ensures
    ∙ c.if-is_version.true in
    c.last_segment.ensures
    ∙ sym (ap (λ (b : Bool). cond b (last_segment c.in-Some.front.now) c.in-Some.last.now)
    version)
    ∙ sym (ap (λ (o : Option (List ℕ × List ℕ)). option_map_or
    (λ split. cond (is_version split.1) (last_segment split.0) split.1) o c.args.path.now)
    split)

pub returns-else-is_version : goal.returns-else-is_version
returns-else-is_version c =
    let split = split_found 47 (omega arith) c.args.path.now c.rsplit_once.result _
    c.rsplit_once.ensures.cases c.in-Some.is in
    let version = ap is_version (sym c.as_bytes.ensures.value) ∙ sym c.is_version.ensures
    ∙ c.if-is_version.false in
    sym (ap (λ (b : Bool). cond b (last_segment c.in-Some.front.now) c.in-Some.last.now) version)
    ∙ sym (ap (λ (o : Option (List ℕ × List ℕ)). option_map_or
    (λ split. cond (is_version split.1) (last_segment split.0) split.1) o c.args.path.now)
    split)

pub returns-in-None : goal.returns-in-None
returns-in-None c =
    sym (ap (λ (o : Option (List ℕ × List ℕ)). option_map_or
    (λ split. cond (is_version split.1) (last_segment split.0) split.1) o c.args.path.now)
    (split_missed 47 (omega arith) c.args.path.now c.rsplit_once.result c.rsplit_once.ensures.cases
    c.in-None.is))
