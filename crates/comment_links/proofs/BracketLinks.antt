-- Links in brackets: the plain program finds exactly those of the rules.
use Rattle.std.proofs.Common.{◌≡◌, ℕ, ◌+◌, true, false, List, [], ◌∷◌, ◌++◌, length, map}
use Rattle.std.proofs.Common.{take, drop, Option, Some, None, refl, sym, ◌∙◌, ap, subst, ⊎_elim}
use Rattle.std.proofs.Common.{◌||◌}
use Rattle.std.specs.List.{list_any, prefix_len}
use Rattle.std.proofs.lemmas.Bool.{cases_Bool, cond-false, cond-true, eqb-true, or_from, or_parts}
use Rattle.std.proofs.lemmas.List.{take_at, drop_at, take-append-drop}
use Rattle.comment_blocks.specs.declared.block.LinkDef.{LinkDef}
use Rattle.comment_blocks.specs.Kinds.{is_bracket, is_in_brackets}
use Rattle.comment_links.specs.declared.found.Found.{Found}
use Rattle.comment_links.specs.declared.part.Inline.TheVariants as inlines
use Rattle.comment_links.specs.Marks.{IsDefinedLink, IsDocLink, as_space, begins_in_name}
use Rattle.comment_links.specs.Marks.{ends_in_name, is_closing, url_of, without_star}
use Rattle.comment_links.specs.InlinesOf.{bracket_link, defined_behind, defined_link, doc_behind}
use Rattle.comment_links.specs.InlinesOf.{doc_link, doc_with, is_inside}
use Rattle.comment_links.specs.InlineSteps.{mark_of}
use Rattle.comment_links.proofs.Halves.{bracket_back, bracket_front, front_free, stop_at}

-- a link with an address
link_is : (text url : List ℕ) (o : Option (List ℕ)) → o ≡ Some url
    → bracket_link text o ≡ Some (record { inline = inlines.Link text url; len = length text + 2 })
link_is text url o is = ap (bracket_link text) is

-- a text that is defined, in brackets
pub defined_found : (links : List LinkDef) (text url after : List ℕ)
    → list_any is_bracket text ≡ false → url_of links (map as_space text) ≡ Some url
    → defined_link links (text ++ 93 ∷ after)
    ≡ Some (record { inline = inlines.Link text url; len = length text + 2 })
defined_found links text url after free is =
    let len : prefix_len is_in_brackets (text ++ 93 ∷ after) ≡ length text =
    stop_at is_bracket text 93 after free refl in
    ap (λ n. defined_behind links (take n (text ++ 93 ∷ after)) (drop n (text ++ 93 ∷ after))) len
    ∙ ap (λ t. defined_behind links t (drop (length text) (text ++ 93 ∷ after)))
    (take_at text (93 ∷ after) (length text) refl)
    ∙ ap (λ t. defined_behind links text t) (drop_at text (93 ∷ after) (length text) refl)
    ∙ link_is text url (url_of links (map as_space text)) is

defined_with_url : (links : List LinkDef) (before text after : List ℕ) (o : Option (List ℕ))
    (found : Found) → list_any is_bracket text ≡ false → url_of links (map as_space text) ≡ o
    → bracket_link text o ≡ Some found
    → IsDefinedLink links (mark_of before (91 ∷ (text ++ 93 ∷ after)) found)
defined_with_url links before text after None found free is answer = cc
defined_with_url links before text after (Some url) found free is answer =
    let same : record { inline = inlines.Link text url; len = length text + 2 } ≡ found = cc in
    subst (λ f. IsDefinedLink links (mark_of before (91 ∷ (text ++ 93 ∷ after)) f)) same
    (record {
      text = text;
      url = url;
      written = bracket_front text after;
      no_bracket = free;
      defined = is;
      inline = refl;
    })

defined_with_rest : (links : List LinkDef) (before text rest : List ℕ) (found : Found)
    → list_any is_bracket text ≡ false → defined_behind links text rest ≡ Some found
    → IsDefinedLink links (mark_of before (91 ∷ (text ++ rest)) found)
defined_with_rest links before text [] found free answer = cc
defined_with_rest links before text (b ∷ after) found free answer = ⊎_elim
    (λ (yes : is_closing b ≡ true).
    let here : b ≡ 93 = eqb-true b 93 yes in
    let link = cond-true (is_closing b) (bracket_link text (url_of links (map as_space text))) None
    yes in
    subst (λ n. IsDefinedLink links (mark_of before (91 ∷ (text ++ n ∷ after)) found)) (sym here)
    (defined_with_url links before text after (url_of links (map as_space text)) found free refl
    (sym link ∙ answer)))
    (λ (no : is_closing b ≡ false).
    let none = cond-false (is_closing b) (bracket_link text (url_of links (map as_space text))) None
    no in
    let nothing : ◌≡◌ {A = Option Found} None (Some found) = sym none ∙ answer in cc)
    (cases_Bool (is_closing b))

-- what is found as a defined link is one
pub defined_sound : (links : List LinkDef) (before tail : List ℕ) (found : Found)
    → defined_link links tail ≡ Some found
    → IsDefinedLink links (mark_of before (91 ∷ tail) found)
defined_sound links before tail found answer =
    let n = prefix_len is_in_brackets tail in
    subst (λ t. IsDefinedLink links (mark_of before (91 ∷ t) found)) (take-append-drop n tail)
    (defined_with_rest links before (take n tail) (drop n tail) found (front_free is_bracket tail)
    answer)

-- a body with an address, in brackets
pub doc_found : (address_of : List ℕ → Option (List ℕ)) (before body href after : List ℕ)
    → list_any is_closing body ≡ false → ends_in_name before ≡ false
    → begins_in_name after ≡ false → address_of (without_star body) ≡ Some href
    → doc_link address_of before (body ++ 93 ∷ after)
    ≡ Some (record { inline = inlines.Link body href; len = length body + 2 })
doc_found address_of before body href after free free_before free_after is =
    let len : prefix_len is_inside (body ++ 93 ∷ after) ≡ length body =
    stop_at is_closing body 93 after free refl in
    ap (λ n. doc_behind address_of before (take n (body ++ 93 ∷ after))
    (drop n (body ++ 93 ∷ after))) len
    ∙ ap (λ t. doc_behind address_of before t (drop (length body) (body ++ 93 ∷ after)))
    (take_at body (93 ∷ after) (length body) refl)
    ∙ ap (λ t. doc_behind address_of before body t) (drop_at body (93 ∷ after) (length body) refl)
    ∙ cond-false (ends_in_name before || begins_in_name after) None
    (bracket_link body (address_of (without_star body)))
    (or_from (ends_in_name before) (begins_in_name after) free_before free_after)
    ∙ link_is body href (address_of (without_star body)) is

doc_with_address : (address_of : List ℕ → Option (List ℕ)) (before body after : List ℕ)
    (o : Option (List ℕ)) (found : Found) → list_any is_closing body ≡ false
    → ends_in_name before ≡ false → begins_in_name after ≡ false
    → address_of (without_star body) ≡ o → bracket_link body o ≡ Some found
    → IsDocLink address_of (mark_of before (91 ∷ (body ++ 93 ∷ after)) found)
doc_with_address address_of before body after None found free free_before free_after is answer = cc
doc_with_address address_of before body after (Some href) found free free_before free_after is
    answer =
    let same : record { inline = inlines.Link body href; len = length body + 2 } ≡ found = cc in
    subst (λ f. IsDocLink address_of (mark_of before (91 ∷ (body ++ 93 ∷ after)) f)) same
    (record {
      body = body;
      href = href;
      written = bracket_front body after;
      no_closing = free;
      free_before = free_before;
      free_after = subst (λ t. begins_in_name t ≡ false) (sym (bracket_back body after)) free_after;
      address = is;
      inline = refl;
    })

doc_with_sides : (address_of : List ℕ → Option (List ℕ)) (before body after : List ℕ)
    (found : Found) → list_any is_closing body ≡ false
    → doc_with address_of before body after ≡ Some found
    → IsDocLink address_of (mark_of before (91 ∷ (body ++ 93 ∷ after)) found)
doc_with_sides address_of before body after found free answer =
    let sides = ends_in_name before || begins_in_name after in
    let link = bracket_link body (address_of (without_star body)) in
    ⊎_elim
    (λ (yes : sides ≡ true).
    let nothing : ◌≡◌ {A = Option Found} None (Some found) =
    sym (cond-true sides None link yes) ∙ answer in cc)
    (λ (no : sides ≡ false).
    let parts = or_parts (ends_in_name before) (begins_in_name after) no in
    doc_with_address address_of before body after (address_of (without_star body)) found free
    parts.0
    parts.1 refl (sym (cond-false sides None link no) ∙ answer))
    (cases_Bool sides)

doc_with_rest : (address_of : List ℕ → Option (List ℕ)) (before body rest : List ℕ)
    (found : Found) → list_any is_closing body ≡ false
    → doc_behind address_of before body rest ≡ Some found
    → IsDocLink address_of (mark_of before (91 ∷ (body ++ rest)) found)
doc_with_rest address_of before body [] found free answer = cc
doc_with_rest address_of before body (b ∷ after) found free answer = ⊎_elim
    (λ (yes : is_closing b ≡ true).
    let here : b ≡ 93 = eqb-true b 93 yes in
    subst (λ n. IsDocLink address_of (mark_of before (91 ∷ (body ++ n ∷ after)) found)) (sym here)
    (doc_with_sides address_of before body after found free
    (sym (cond-true (is_closing b) (doc_with address_of before body after) None yes) ∙ answer)))
    (λ (no : is_closing b ≡ false).
    let nothing : ◌≡◌ {A = Option Found} None (Some found) =
    sym (cond-false (is_closing b) (doc_with address_of before body after) None no) ∙ answer in cc)
    (cases_Bool (is_closing b))

-- what is found as a doc link is one
pub doc_sound : (address_of : List ℕ → Option (List ℕ)) (before tail : List ℕ) (found : Found)
    → doc_link address_of before tail ≡ Some found
    → IsDocLink address_of (mark_of before (91 ∷ tail) found)
doc_sound address_of before tail found answer =
    let n = prefix_len is_inside tail in
    subst (λ t. IsDocLink address_of (mark_of before (91 ∷ t) found)) (take-append-drop n tail)
    (doc_with_rest address_of before (take n tail) (drop n tail) found (front_free is_closing tail)
    answer)
