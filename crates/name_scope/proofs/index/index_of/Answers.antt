use Rattle.std.proofs.Common.{rules, ◌≡◌, ◌+◌, List, ℕ, [], ◌∷◌, ◌++◌, Some, cond, map, length}
use Rattle.std.proofs.Common.{string_bytes, ap, ◌∙◌, append_assoc, length-append}
use Rattle.std.specs.BTreeMap.{get_by_text}
use Rattle.std.specs.List.{position_from}
use Rattle.std.specs.Str.{bytes_eq}
use Rattle.std.proofs.lemmas.List.{map-append}
use Rattle.std.proofs.lemmas.Map.Text.{btree_map_updates_text}
use Rattle.name_scope.proofs.Lists.{bytes_eq-sym}
use Rattle.name_scope.proofs.index.index_of.Goals as goal

pub loop-name-preserved : goal.loop-name-preserved
loop-name-preserved c =
    let done = c.loop-name.invariant.0 in
    let name = string_bytes c.in-Some.name in
    let rest = c.pop.new.self.items in
    let place = c.len-place.result in
    let number : place ≡ length rest = search rules in
    let one : length c.loop-name.names.items ≡ length rest + 1 = ap length c.in-Some.ensures.items
    ∙ length-append rest (c.in-Some.name ∷ []) in (
      name ∷ done,
      c.loop-name.invariant.1
          ∙ ap (λ (l : List (List ℕ)). l ++ done) (ap (map string_bytes) c.in-Some.ensures.items
          ∙ map-append string_bytes rest (c.in-Some.name ∷ []))
          ∙ append_assoc (map string_bytes rest) (name ∷ []) done,
      λ q. btree_map_updates_text name c.loop-name.places c.insert.new.self (Some place)
          c.in_ok-insert.ensures.updates q
          ∙ ap (λ b. cond b (Some place) (get_by_text c.loop-name.places q)) (bytes_eq-sym name q)
          ∙ ap (λ n. cond (bytes_eq q name) (Some n) (get_by_text c.loop-name.places q)) number
          ∙ ap (λ o. cond (bytes_eq q name) (Some (length rest)) o) (c.loop-name.invariant.2 q
          ∙ ap (λ n. position_from (bytes_eq q) n done) one),
    )
