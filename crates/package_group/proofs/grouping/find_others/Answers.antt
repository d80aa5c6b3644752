use Rattle.std.proofs.Common.{◌≡◌, ◌∙◌, sym, ap, List, ℕ, string_bytes, String, Global}
use Rattle.std.specs.BTreeMap.{get_by_text}
use Rattle.std.specs.Option.{option_map}
use Rattle.package_group.specs.Steps.{is_beside, Lent}
use Rattle.package_group.proofs.Lists.{kept_more, left_more}
use Rattle.package_group.proofs.grouping.find_others.Goals as goal
use Rattle.package_group.proofs.grouping.find_others.Goals.{then-is_beside+in_ok-push}
use Rattle.package_group.proofs.grouping.find_others.Goals.{else-is_beside}

pub loop-path-preserved : goal.loop-path-preserved
loop-path-preserved c =
    let test = λ (p : String Global × Lent). is_beside
    (option_map string_bytes (get_by_text c.args.names.now (string_bytes p.0))) p.1.1.now in
    let said = ap (λ o. is_beside (option_map string_bytes o) c.loop-path-item.result.1.1.now)
    (c.get.ensures.value ∙ ap (λ (path : List ℕ). get_by_text c.args.names.now path)
    c.as_str.ensures.value) in
    let test_is : test c.loop-path-item.result
    ≡ c.is_beside.result = sym (c.is_beside.ensures ∙ said) in
    elim c.if-is_beside.branch [
      | then-is_beside+in_ok-push w ↦
          w.others-is ∙ w.in_ok-push.ensures.ok
          ∙ kept_more (λ (p : String Global × Lent). p.1.0) test c.args.placed.now
          c.loop-path.path-index c.loop-path-item.result c.loop-path.others c.loop-path-test.true
          c.loop-path-item.is c.loop-path.invariant (test_is ∙ w.if-is_beside.true)
      | else-is_beside w ↦
          w.others-is
          ∙ left_more (λ (p : String Global × Lent). p.1.0) test c.args.placed.now
          c.loop-path.path-index c.loop-path-item.result c.loop-path.others c.loop-path-test.true
          c.loop-path-item.is c.loop-path.invariant (test_is ∙ w.if-is_beside.false)
    ]
