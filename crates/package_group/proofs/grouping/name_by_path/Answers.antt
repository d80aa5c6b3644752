use Rattle.std.proofs.Common.{List, ℕ, Some, string_bytes, ◌∙◌}
use Rattle.std.specs.BTreeMap.{get_by_text}
use Rattle.std.proofs.lemmas.Map.Text.{btree_map_updates_text}
use Rattle.package_group.proofs.Lookups.{named_more}
use Rattle.package_group.proofs.grouping.name_by_path.Goals as goal

pub loop-package-preserved : goal.loop-package-preserved
loop-package-preserved c =
    let more = λ (q : List ℕ). named_more string_bytes c.in_ok-name.name
    (get_by_text c.loop-package.names q) (get_by_text c.insert.new.self q) q
    (string_bytes c.in_ok-path.path)
    c.args.packages.now c.loop-package.package-index c.package-item.result c.loop-package-test.true
    c.package-item.is
    (c.in_ok-path.ensures.ok ∙ c.as_str.ensures.text)
    (c.in_ok-name.ensures.ok ∙ c.as_str-in-loop-package.ensures.text)
    (btree_map_updates_text (string_bytes c.in_ok-path.path) c.loop-package.names c.insert.new.self
    (Some c.in_ok-name.name) c.in_ok-insert.ensures.updates q)
    (c.loop-package.invariant.0 q) (c.loop-package.invariant.1 q) in
    (λ q. (more q).0, λ q. (more q).1)
