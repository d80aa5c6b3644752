-- Addresses with their schemes: the plain program finds exactly those of the rule.
use Rattle.std.proofs.Common.{◌≡◌, ℕ, zero, suc, ◌+◌, true, false, List, []}
use Rattle.std.proofs.Common.{◌∷◌, ◌++◌, length, take, drop, Option, Some, None, refl, sym}
use Rattle.std.proofs.Common.{◌∙◌, ap, subst, ⊎_elim, arith, ◌==◌, codes}
use Rattle.std.specs.Prelude.{nat_eq}
use Rattle.std.specs.List.{last_or, list_all, starts_with}
use Rattle.std.proofs.lemmas.Bool.{cases_Bool, cond-false, cond-true, ne_eqb}
use Rattle.std.proofs.lemmas.Bool.Decides.{Decides-eqb}
use Rattle.std.proofs.lemmas.Slice.Eq.{starts_is}
use Rattle.std.proofs.lemmas.List.{take_at, drop_at, length-append}
use Rattle.std.proofs.lemmas.List.{length-take-le}
use Rattle.comment_links.specs.declared.found.Found.{Found}
use Rattle.comment_links.specs.declared.part.Inline.TheVariants as inlines
use Rattle.comment_links.specs.Marks.{IsAddress, IsScheme, address_run, ends_in_name}
use Rattle.comment_links.specs.Marks.{is_address_byte, is_address_end, is_final}
use Rattle.comment_links.specs.InlinesOf.{address_at, address_by, address_len, address_of_len}
use Rattle.comment_links.specs.InlinesOf.{or_else, self_link}
use Rattle.comment_links.specs.InlineSteps.{mark_of}
use Rattle.comment_links.proofs.Addresses.{len_at, run_at}

pub some_is : (f g : Found) → Some f ≡ Some g → f ≡ g
some_is f g same = cc

-- a scheme and so many bytes after it
take_both : (scheme rest : List ℕ) (n : ℕ) → take (length scheme + n) (scheme ++ rest)
    ≡ scheme ++ take n rest
take_both [] rest n = ap (λ m. take m rest) (omega arith)
take_both (s ∷ scheme) rest n =
    let next : suc (length scheme) + n ≡ suc (length scheme + n) = omega arith in
    ap (λ m. take m (s ∷ (scheme ++ rest))) next ∙ ap (λ t. s ∷ t) (take_both scheme rest n)

drop_both : (scheme rest : List ℕ) (n : ℕ) → drop (length scheme + n) (scheme ++ rest)
    ≡ drop n rest
drop_both [] rest n = ap (λ m. drop m rest) (omega arith)
drop_both (s ∷ scheme) rest n =
    let next : suc (length scheme) + n ≡ suc (length scheme + n) = omega arith in
    ap (λ m. drop m (s ∷ (scheme ++ rest))) next ∙ drop_both scheme rest n

-- a scheme, and the bytes of an address after it
pub address_there : (scheme rest after : List ℕ) → list_all is_address_byte rest ≡ true
    → is_address_end (last_or None rest) ≡ true → list_all is_final (address_run after) ≡ true
    → address_by scheme (scheme ++ (rest ++ after)) ≡ Some (self_link (scheme ++ rest))
address_there scheme [] after all last ends = cc
address_there scheme (x ∷ xs) after all last ends =
    let rest = x ∷ xs in
    let text = scheme ++ (rest ++ after) in
    let starts = (starts_is Decides-eqb text scheme (starts_with nat_eq text scheme) refl).1
    (rest ++ after) refl in
    let len = len_at rest after all last ends in
    cond-true (starts_with nat_eq text scheme)
    (address_of_len (length scheme) (address_len (drop (length scheme) text)) text) None starts
    ∙ ap (λ t. address_of_len (length scheme) (address_len t) text)
    (drop_at scheme (rest ++ after) (length scheme) refl)
    ∙ ap (λ n. address_of_len (length scheme) n text) len
    ∙ cond-false (length rest == 0) None
    (Some (self_link (take (length scheme + length rest) text)))
    (ne_eqb (length rest) 0 (λ is. absurd (omega arith)))
    ∙ ap (λ t. Some (self_link t))
    (take_both scheme (rest ++ after) (length rest)
    ∙ ap (λ t. scheme ++ t) (take_at rest after (length rest) refl))

address_from_run : (scheme before rest : List ℕ) (found : Found) (n : ℕ) → IsScheme scheme
    → ends_in_name before ≡ false → address_len rest ≡ n
    → address_of_len (length scheme) n (scheme ++ rest) ≡ Some found
    → IsAddress (mark_of before (scheme ++ rest) found)
address_from_run scheme before rest found zero known free len answer = cc
address_from_run scheme before rest found (suc n) known free len answer =
    let run = run_at rest n len in
    let text = scheme ++ rest in
    let written = take_both scheme rest (suc n) in
    let same = some_is (self_link (take (length scheme + suc n) text)) found
    (sym (cond-false (suc n == 0) None (Some (self_link (take (length scheme + suc n) text)))
    (ne_eqb (suc n) 0 (λ is. absurd (omega arith)))) ∙ answer) in
    let address = scheme ++ take (suc n) rest in
    let link : self_link address ≡ found = ap self_link (sym written) ∙ same in
    let size : length address ≡ length scheme + suc n =
    length-append scheme (take (suc n) rest)
    ∙ ap (λ m. length scheme + m) (length-take-le (suc n) rest (omega (arith, run.fits))) in
    let front : take (length address) text ≡ address = ap (λ m. take m text) size ∙ written in
    let back : drop (length address) text ≡ drop (suc n) rest =
    ap (λ m. drop m text) size ∙ drop_both scheme rest (suc n) in
    subst (λ f. IsAddress (mark_of before text f)) link
    (record {
      scheme = scheme;
      rest = take (suc n) rest;
      known = known;
      written = front;
      free_before = free;
      within = run.all;
      last = run.last;
      longest = subst (λ t. list_all is_final (address_run t) ≡ true) (sym back) run.longest;
      inline = ap (λ t. inlines.Link t t) (sym front);
    })

address_with_scheme : (scheme before text : List ℕ) (found : Found) → IsScheme scheme
    → ends_in_name before ≡ false → address_by scheme text ≡ Some found
    → IsAddress (mark_of before text found)
address_with_scheme scheme before text found known free answer =
    let starts = starts_with nat_eq text scheme in
    let link = address_of_len (length scheme) (address_len (drop (length scheme) text)) text in
    ⊎_elim
    (λ (yes : starts ≡ true).
    let whole = (starts_is Decides-eqb text scheme starts refl).0 yes in
    let rest = drop (length scheme) text in
    subst (λ t. IsAddress (mark_of before t found)) (sym whole)
    (address_from_run scheme before rest found (address_len rest) known free refl
    (ap (λ t. address_of_len (length scheme) (address_len rest) t) (sym whole)
    ∙ sym (cond-true starts link None yes) ∙ answer)))
    (λ (no : starts ≡ false).
    let nothing : ◌≡◌ {A = Option Found} None (Some found) =
    sym (cond-false starts link None no) ∙ answer in cc)
    (cases_Bool starts)

-- what the first of two gives, or the second
pub either_found : (first second : Option Found) (found : Found) (P : Type 0)
    → or_else first second ≡ Some found → (first ≡ Some found → P)
    → (first ≡ None → second ≡ Some found → P) → P
either_found None second found P answer one other = other refl answer
either_found (Some first) second found P answer one other = one answer

-- what is found as an address is one
pub address_sound : (before text : List ℕ) (found : Found) → address_at before text ≡ Some found
    → IsAddress (mark_of before text found)
address_sound before text found answer =
    let http = address_by (codes "http://") text in
    let https = address_by (codes "https://") text in
    let ftp = address_by (codes "ftp://") text in
    let P = IsAddress (mark_of before text found) in
    ⊎_elim
    (λ (yes : ends_in_name before ≡ true).
    let nothing : ◌≡◌ {A = Option Found} None (Some found) =
    sym (cond-true (ends_in_name before) None (or_else http (or_else https ftp)) yes)
    ∙ answer in cc)
    (λ (no : ends_in_name before ≡ false).
    either_found http (or_else https ftp) found P
    (sym (cond-false (ends_in_name before) None (or_else http (or_else https ftp)) no) ∙ answer)
    (address_with_scheme (codes "http://") before text found (IsScheme.http refl) no)
    (λ none more. either_found https ftp found P more
    (address_with_scheme (codes "https://") before text found (IsScheme.https refl) no)
    (λ none_again. address_with_scheme (codes "ftp://") before text found (IsScheme.ftp refl) no)))
    (cases_Bool (ends_in_name before))

address_first : (before text : List ℕ) (found : Found) → ends_in_name before ≡ false
    → or_else (address_by (codes "http://") text)
    (or_else (address_by (codes "https://") text) (address_by (codes "ftp://") text)) ≡ Some found
    → address_at before text ≡ Some found
address_first before text found free is =
    cond-false (ends_in_name before) None (or_else (address_by (codes "http://") text)
    (or_else (address_by (codes "https://") text) (address_by (codes "ftp://") text))) free ∙ is

-- an address with its scheme
pub http_found : (before rest after : List ℕ) → ends_in_name before ≡ false
    → list_all is_address_byte rest ≡ true → is_address_end (last_or None rest) ≡ true
    → list_all is_final (address_run after) ≡ true
    → address_at before (codes "http://" ++ (rest ++ after))
    ≡ Some (self_link (codes "http://" ++ rest))
http_found before rest after free all last ends =
    let text = codes "http://" ++ (rest ++ after) in
    address_first before text (self_link (codes "http://" ++ rest)) free
    (ap (λ o. or_else o (or_else (address_by (codes "https://") text)
    (address_by (codes "ftp://") text))) (address_there (codes "http://") rest after all last ends))

pub https_found : (before rest after : List ℕ) → ends_in_name before ≡ false
    → list_all is_address_byte rest ≡ true → is_address_end (last_or None rest) ≡ true
    → list_all is_final (address_run after) ≡ true
    → address_at before (codes "https://" ++ (rest ++ after))
    ≡ Some (self_link (codes "https://" ++ rest))
https_found before rest after free all last ends =
    let text = codes "https://" ++ (rest ++ after) in
    let other : address_by (codes "http://") text ≡ None = refl in
    address_first before text (self_link (codes "https://" ++ rest)) free
    (ap (λ o. or_else o (or_else (address_by (codes "https://") text)
    (address_by (codes "ftp://") text))) other
    ∙ ap (λ o. or_else o (address_by (codes "ftp://") text))
    (address_there (codes "https://") rest after all last ends))

pub ftp_found : (before rest after : List ℕ) → ends_in_name before ≡ false
    → list_all is_address_byte rest ≡ true → is_address_end (last_or None rest) ≡ true
    → list_all is_final (address_run after) ≡ true
    → address_at before (codes "ftp://" ++ (rest ++ after))
    ≡ Some (self_link (codes "ftp://" ++ rest))
ftp_found before rest after free all last ends =
    let text = codes "ftp://" ++ (rest ++ after) in
    let http : address_by (codes "http://") text ≡ None = refl in
    let https : address_by (codes "https://") text ≡ None = refl in
    address_first before text (self_link (codes "ftp://" ++ rest)) free
    (ap (λ o. or_else o (or_else (address_by (codes "https://") text)
    (address_by (codes "ftp://") text))) http
    ∙ ap (λ o. or_else o (address_by (codes "ftp://") text)) https
    ∙ address_there (codes "ftp://") rest after all last ends)
