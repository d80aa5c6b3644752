-- What a session wrote, by the requests of its stream.
use Rattle.std.proofs.Common.{◌≡◌, ℕ, ◌+◌, ◌-◌, ◌<◌, ◌≤◌, ◌⊎◌, Bool, true, false, cond, ◌||◌, ◌&&◌}
use Rattle.std.proofs.Common.{not, eqb, ltb, List, [], ◌∷◌, ◌++◌, length, take, refl, sym, ap, ◌∙◌}
use Rattle.std.proofs.Common.{subst, arith, append_assoc, append-nil, length-append, inl, inr}
use Rattle.std.proofs.Common.{⊎_elim}
use Rattle.std.specs.List.{concat}
use Rattle.std.proofs.lemmas.Bool.{false≢true}
use Rattle.std.proofs.lemmas.Bool.Decides.{nat_tests}
use Rattle.std.proofs.lemmas.List.Folds.{list_any-append}
use Rattle.http_wire.specs.declared.request.Request.{Request}
use Rattle.http_wire.specs.Reply.{bad_reply_bytes}
use Rattle.http_wire.specs.Requests.{StreamEnd}
use Rattle.publication.specs.View.{StartsWith}
use Rattle.session.specs.declared.session_end.SessionEnd.{SessionEnd}
use Rattle.session.specs.declared.session_end.SessionEnd.TheVariants as ends
use Rattle.session.specs.Text.{Replier, is_last, answerable, some_closes, is_bad, refusal}
use Rattle.session.specs.Text.{session_text, first_replies, end_at, end_of}
use Rattle.session.specs.Session.{IsAnswered}
use Rattle.session.proofs.Counted.{answerable_from, answerable-counted, replies_from}
use Rattle.session.proofs.Counted.{replies-counted}
use Rattle.session.proofs.TextLemmas.{replies-front, answerable-open, answerable-last}
use Rattle.session.proofs.TextLemmas.{answerable-full}

-- ---- the requests that are answered begin with those that were given

pub answerable-begins : (given more : List Request) → some_closes given ≡ false → length given
    < 1000
    → answerable (given ++ more) ≡ given ++ answerable_from (1 + length given) more
answerable-begins given more none room =
    sym (answerable-counted (given ++ more)) ∙ answerable-open 1 given more none (omega arith)

pub answerable-next : (given : List Request) (request : Request) (more : List Request)
    → some_closes given ≡ false → length given < 1000
    → (tail : List Request) × (answerable (given ++ request ∷ more) ≡ (given ++ request ∷ [])
    ++ tail)
answerable-next given request more none room = (
  cond (is_last (1 + length given) request) [] (answerable_from ((1 + length given) + 1) more),
  answerable-begins given (request ∷ more) none room
      ∙ sym (append_assoc given (request ∷ []) (cond (is_last (1 + length given) request) []
      (answerable_from ((1 + length given) + 1) more))),
)

pub answerable-closed : (given : List Request) (request : Request) (more : List Request)
    → some_closes given ≡ false → length given < 1000
    → is_last (1 + length given) request ≡ true → answerable (given ++ request ∷ more) ≡ given
    ++ request ∷ []
answerable-closed given request more none room last =
    answerable-begins given (request ∷ more) none room ∙ ap (λ w. given ++ w)
    (answerable-last (1 + length given) request more last)

pub answerable-all : (given : List Request) → some_closes given ≡ false → length given < 1000
    → answerable given ≡ given
answerable-all given none room =
    ap answerable (sym (append-nil given)) ∙ answerable-begins given [] none room ∙ append-nil given

pub answerable-limit : (given more : List Request) → some_closes given ≡ false → length given ≡ 1000
    → answerable (given ++ more) ≡ given
answerable-limit [] more none room = absurd (omega arith)
answerable-limit (request ∷ given) more none room =
    sym (answerable-counted ((request ∷ given) ++ more))
    ∙ answerable-full 1 request given more none (omega arith)

pub some_closes-append : (given more : List Request) → some_closes (given ++ more)
    ≡ (some_closes given || some_closes more)
some_closes-append given more = list_any-append (λ (request : Request). request.close) given more

-- ---- the bad reply, and the end of a session

same_is_eqb : (a b : ℕ) → a ≡ b → eqb a b ≡ true
same_is_eqb a b e = grind (arith, nat_tests)

below_is_ltb : (a b : ℕ) → a < b → ltb a b ≡ true
below_is_ltb a b e = grind (arith, nat_tests)

above_is_not_ltb : (a b : ℕ) → b ≤ a → ltb a b ≡ false
above_is_not_ltb a b e = grind (arith, nat_tests)

pub refusal-at_end : (given : List Request) (end : StreamEnd) (count : ℕ) → some_closes given
    ≡ false → count ≡ length given → count < 1000
    → refusal given end count ≡ cond (is_bad end) bad_reply_bytes []
refusal-at_end given end count none same room =
    let counted = same_is_eqb count (length given) same in
    let below = below_is_ltb count 1000 room in
    let due : (eqb count (length given) && not (some_closes given) && ltb count 1000 && is_bad end)
    ≡ is_bad end =
    by_parts (eqb count (length given)) (some_closes given) (ltb count 1000) (is_bad end) counted
    none below in
    ap (λ w. cond w bad_reply_bytes []) due
  where
    by_parts : (a b c d : Bool) → a ≡ true → b ≡ false → c ≡ true → (a && not b && c && d) ≡ d
    by_parts true false true d p q r = refl
    by_parts false b c d p q r = absurd (false≢true p)
    by_parts true true c d p q r = absurd (false≢true (sym q))
    by_parts true false false d p q r = absurd (false≢true r)

pub refusal-closed : (requests : List Request) (end : StreamEnd) (count : ℕ) → some_closes requests
    ≡ true → refusal requests end count ≡ []
refusal-closed requests end count some =
    ap (λ w. cond w bad_reply_bytes []) (by_parts (eqb count (length requests))
    (some_closes requests) (ltb count 1000) (is_bad end) some)
  where
    by_parts : (a b c d : Bool) → b ≡ true → (a && not b && c && d) ≡ false
    by_parts true true c d p = refl
    by_parts false true c d p = refl
    by_parts a false c d p = absurd (false≢true p)

pub refusal-full : (requests : List Request) (end : StreamEnd) (count : ℕ) → 1000 ≤ count
    → refusal requests end count ≡ []
refusal-full requests end count full =
    ap (λ w. cond w bad_reply_bytes [])
    (by_parts (eqb count (length requests)) (not (some_closes requests)) (ltb count 1000)
    (is_bad end) (above_is_not_ltb count 1000 full))
  where
    by_parts : (a b c d : Bool) → c ≡ false → (a && b && c && d) ≡ false
    by_parts true true false d p = refl
    by_parts true false false d p = refl
    by_parts false b false d p = refl
    by_parts a b true d p = absurd (false≢true (sym p))

pub end_of-at_end : (given : List Request) (end : StreamEnd) → some_closes given ≡ false
    → length given < 1000 → end_of given end ≡ end_at end
end_of-at_end given end none room =
    let all : some_closes (answerable given) ≡ false = ap some_closes
    (answerable-all given none room) ∙ none in
    let below = below_is_ltb (length given) 1000 room in
    ap (λ w. cond w ends.Closed (cond (ltb (length given) 1000) (end_at end) ends.Full)) all
    ∙ ap (λ w. cond w (end_at end) ends.Full) below

pub end_of-closed : (requests : List Request) (end : StreamEnd) → some_closes (answerable requests)
    ≡ true → end_of requests end ≡ ends.Closed
end_of-closed requests end some = ap (λ w. cond w ends.Closed (cond (ltb (length requests) 1000)
    (end_at end) ends.Full)) some

pub end_of-full : (requests : List Request) (end : StreamEnd) → some_closes (answerable requests)
    ≡ false → 1000 ≤ length requests → end_of requests end ≡ ends.Full
end_of-full requests end none many =
    ap (λ w. cond w ends.Closed (cond (ltb (length requests) 1000) (end_at end) ends.Full)) none
    ∙ ap (λ w. cond w (end_at end) ends.Full) (above_is_not_ltb (length requests) 1000 many)

-- ---- the facts on what was written

module _ {E : Type 0} (reply : Replier E) (history : List E) (requests : List Request)
    (end : StreamEnd) (front tail : List Request) (entries written : List ℕ) where
  pub first_replies-front : (count : ℕ) → answerable requests ≡ front ++ tail → length entries
      ≤ length front
      → first_replies count reply history requests entries ≡ concat
      (take count (replies_from reply history 1 front entries))
  first_replies-front count begins short =
      ap (λ w. concat (take count w))
      (sym (replies-counted reply history (answerable requests) entries))
      ∙ ap (λ w. concat (take count (replies_from reply history 1 w entries))) begins
      ∙ ap (λ w. concat (take count w)) (replies-front reply history 1 front tail entries short)

  session_text-front : answerable requests ≡ front ++ tail → length entries ≤ length front
      → session_text reply history requests end entries ≡ concat
      (replies_from reply history 1 front entries) ++ refusal requests end (length entries)
  session_text-front begins short =
      ap (λ w. concat w ++ refusal requests end (length entries))
      (sym (replies-counted reply history (answerable requests) entries))
      ∙ ap (λ w. concat (replies_from reply history 1 w entries) ++ refusal requests end
      (length entries)) begins
      ∙ ap (λ w. concat w ++ refusal requests end (length entries))
      (replies-front reply history 1 front tail entries short)

  within_front : answerable requests ≡ front ++ tail → length entries ≤ length front
      → length entries ≤ length (answerable requests)
  within_front begins short = rw begins (simp length-append (omega arith))

  pub answered_no_memory : answerable requests ≡ front ++ tail → length entries ≤ length front
      → (written ≡ concat (take (length entries) (replies_from reply history 1 front entries)))
      ⊎ (written ≡ concat (take (length entries - 1)
      (replies_from reply history 1 front entries)))
      → IsAnswered reply history requests end entries written ends.NoMemory
  answered_no_memory begins short is = record {
    within = within_front begins short;
    each = λ whole. absurd (whole.1 refl);
    text = λ whole. absurd (whole.1 refl);
    exact = λ whole. absurd (whole.1 refl);
    begun = λ e. cc;
    shorter = λ e. cc;
    whole_replies = λ e. cc;
    no_memory = λ _. ⊎_elim
        (λ all. inl (all ∙ sym (first_replies-front (length entries) begins short)))
        (λ most. inr (most ∙ sym (first_replies-front (length entries - 1) begins short))) is;
  }

  pub answered_cut : answerable requests ≡ front ++ tail → length entries ≤ length front
      → (begun : StartsWith (concat (replies_from reply history 1 front entries)
      ++ refusal requests end (length entries)) written)
      → 0 < length begun.0
      → StartsWith written (concat (take (length entries - 1)
      (replies_from reply history 1 front entries)))
      → IsAnswered reply history requests end entries written ends.WriteFault
  answered_cut begins short begun some whole_replies = record {
    within = within_front begins short;
    each = λ whole. absurd (whole.0 refl);
    text = λ whole. absurd (whole.0 refl);
    exact = λ whole. absurd (whole.0 refl);
    begun = λ _. (begun.0, session_text-front begins short ∙ begun.1);
    shorter = λ _. subst (λ (w : List ℕ). length written < length w)
        (sym (session_text-front begins short ∙ begun.1)) (simp length-append (omega arith));
    whole_replies = λ _. (
      whole_replies.0,
      whole_replies.1 ∙ ap (λ w. w ++ whole_replies.0)
          (sym (first_replies-front (length entries - 1) begins short)),
    );
    no_memory = λ e. cc;
  }

  pub answered_whole : (result : SessionEnd) → answerable requests ≡ front → length entries
      ≡ length front
      → written ≡ concat (replies_from reply history 1 front entries) ++ refusal requests end
      (length entries)
      → result ≡ end_of requests end → (result ≡ ends.WriteFault → ⊥) → (result ≡ ends.NoMemory → ⊥)
      → IsAnswered reply history requests end entries written result
  answered_whole result all same is exact no_fault memory = record {
    within = rw all (omega arith);
    each = λ _. same ∙ ap length (sym all);
    text = λ _. is ∙ ap (λ w. concat (replies_from reply history 1 w entries) ++ refusal requests
        end (length entries)) (sym all)
        ∙ ap (λ w. concat w ++ refusal requests end (length entries))
        (replies-counted reply history (answerable requests) entries);
    exact = λ _. exact;
    begun = λ e. absurd (no_fault e);
    shorter = λ e. absurd (no_fault e);
    whole_replies = λ e. absurd (no_fault e);
    no_memory = λ e. absurd (memory e);
  }
