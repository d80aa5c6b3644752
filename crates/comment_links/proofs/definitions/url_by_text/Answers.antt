use Rattle.std.proofs.Common.{◌≡◌, ℕ, List, Some, Option, string_bytes, sym, ◌∙◌, ap, if◌then◌else◌}
use Rattle.std.proofs.Common.{Bor}
use Rattle.std.specs.BTreeMap.{get_by_text}
use Rattle.std.specs.Option.{option_map}
use Rattle.std.specs.Str.{bytes_eq}
use Rattle.std.proofs.lemmas.Map.Text.{btree_map_updates_text}
use Rattle.comment_links.specs.Marks.{url_of}
use Rattle.comment_links.specs.InlineSteps.{url_or}
use Rattle.comment_links.proofs.Spaces.{map_choice, url_behind}
use Rattle.comment_links.proofs.definitions.url_by_text.Goals as goal

pub loop-link-preserved : goal.loop-link-preserved
loop-link-preserved c = λ text.
    let link = c.in-Some.link.now in
    let before = c.in-Some.before.now in
    let shown : Option (Bor (List ℕ)) → Option (List ℕ) =
    option_map (λ (url : Bor (List ℕ)). url.now) in
    let old = get_by_text c.loop-link.urls text in
    let key : string_bytes c.in_ok-from_str.field-0 ≡ link.text =
    c.in_ok-from_str.ensures.ok ∙ c.as_str.ensures.text in
    let new : get_by_text c.insert.new.self text
    ≡ (if bytes_eq (string_bytes c.in_ok-from_str.field-0) text
    then Some c.as_str-in-Some.result else old) =
    btree_map_updates_text (string_bytes c.in_ok-from_str.field-0) c.loop-link.urls
    c.insert.new.self (Some c.as_str-in-Some.result) c.in_ok-insert.ensures.updates text in
    ap (λ o. url_or (url_of before text) (shown o)) new
    ∙ ap (url_or (url_of before text)) (map_choice
    (bytes_eq (string_bytes c.in_ok-from_str.field-0) text) c.as_str-in-Some.result old)
    ∙ ap (λ t. url_or (url_of before text) (if bytes_eq t text
    then Some c.as_str-in-Some.result.now else shown old)) key
    ∙ ap (λ t. url_or (url_of before text) (if bytes_eq link.text text then Some t else shown old))
    c.as_str-in-Some.ensures.text
    ∙ sym (url_behind before link text (shown old))
    ∙ ap (λ links. url_or (url_of links text) (shown old)) (sym c.in-Some.ensures.cases.0)
    ∙ c.loop-link.invariant text
