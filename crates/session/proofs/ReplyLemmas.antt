-- The newest edition that a view has seen, and the reply by it.
use Rattle.std.proofs.Common.{◌≡◌, ℕ, zero, suc, ◌<◌, ◌≤◌, Bool, List, [], ◌∷◌, ◌++◌, length}
use Rattle.std.proofs.Common.{Option, Some, refl, sym, ap, ◌∙◌, subst, arith, append_assoc}
use Rattle.std.proofs.Common.{length-append, get_or}
use Rattle.std.specs.Prelude.{slice_get, IsSome}
use Rattle.std.specs.Option.{option_map_or}
use Rattle.std.proofs.lemmas.List.{append-nil, get_or_push}
use Rattle.http_wire.specs.declared.request.Request.{Request}
use Rattle.publication.specs.View.{View, EndsWith, StartsWith, GainsEntry, IsView, OnlySees}
use Rattle.session.specs.Text.{Replier, edition_at, reply_by}

-- the view gained one entry, that of the newest edition that it has seen, which is as new as what
-- it was told
pub record Enters {E : Type 0} (old new : View E) : Type 0 where
  pub entry : GainsEntry old new
  pub known : IsSome (edition_at new.seen (length new.seen))
  pub informed : StartsWith new.seen old.told
  pub told : new.told ≡ old.told

-- the reply of the newest edition that the view has seen
abbrev pub newest_reply : {E : Type 0} → Replier E → View E → Request → Bool → List ℕ
newest_reply reply view request last = reply_by reply view.seen (length view.seen) request last

pub StartsWith-then : {E : Type 0} (first second third : List E) → StartsWith second first
    → StartsWith third second → StartsWith third first
StartsWith-then {E} first second third x y =
    (x.0 ++ y.0, y.1 ∙ ap (λ (w : List E). w ++ y.0) x.1 ∙ append_assoc first x.0 y.0)

pub OnlySees-none : {E : Type 0} (view : View E) → IsView view → OnlySees view view
OnlySees-none view is = record {
  opening = refl;
  later = ([], sym (append-nil view.seen));
  told = refl;
  closed = refl;
  view = is;
}

pub OnlySees-then : {E : Type 0} (old mid new : View E) → OnlySees old mid → OnlySees mid new
    → OnlySees old new
OnlySees-then old mid new x y = record {
  opening = y.opening ∙ x.opening;
  later = StartsWith-then old.seen mid.seen new.seen x.later y.later;
  told = y.told ∙ x.told;
  closed = y.closed ∙ x.closed;
  view = y.view;
}

slice_get-push : {E : Type 0} (front : List E) (last : E) → slice_get (front ++ last ∷ [])
    (length front) ≡ Some last
slice_get-push [] last = refl
slice_get-push (x ∷ front) last = slice_get-push front last

pub edition_at-newest : {E : Type 0} (history : List E) (newest : E) → EndsWith history newest
    → edition_at history (length history) ≡ Some newest
edition_at-newest {E} history newest ends =
    let counted : length (ends.0 ++ newest ∷ []) ≡ suc (length ends.0) = simp length-append
    (omega arith) in
    let here : edition_at (ends.0 ++ newest ∷ []) (length (ends.0 ++ newest ∷ [])) ≡ Some newest =
    ap (edition_at (ends.0 ++ newest ∷ [])) counted ∙ slice_get-push ends.0 newest in
    subst (λ (w : List E). edition_at w (length w) ≡ Some newest) (sym ends.1) here

pub edition_at-within : {E : Type 0} (history : List E) (entry : ℕ) → 1 ≤ entry
    → entry ≤ length history → IsSome (edition_at history entry)
edition_at-within history zero some few = absurd (omega arith)
edition_at-within [] (suc place) some few = absurd (omega arith)
edition_at-within (x ∷ history) (suc zero) some few = refl
edition_at-within (x ∷ history) (suc (suc place)) some few =
    edition_at-within history (suc place) (omega arith) (omega arith)

-- the entry that a view gained last is the number of an edition
pub known_entry : {E : Type 0} (old new : View E) → IsView new → GainsEntry old new
    → StartsWith new.seen old.told → new.told ≡ old.told → Enters old new
known_entry {E} old new view gains informed told =
    let n = length new.seen in
    let entries : List ℕ = old.entries in
    let at_last : get_or new.entries (length entries) n ≡ n = rw gains (get_or_push entries n n
    (length entries) refl) in
    let place : length entries < length new.entries = rw gains (simp length-append (omega arith)) in
    let known = view.known (length entries) n place in
    record {
      entry = gains;
      known = edition_at-within new.seen n (subst (λ (w : ℕ). 1 ≤ w) at_last known.0)
          (subst (λ (w : ℕ). w ≤ length new.seen) at_last known.1);
      informed = informed;
      told = told;
    }

pub newest_reply-is : {E : Type 0} (reply : Replier E) (view : View E) (request : Request)
    (last : Bool) (newest : E)
    → EndsWith view.seen newest → newest_reply reply view request last ≡ reply (length view.seen)
    newest request last
newest_reply-is {E} reply view request last newest ends =
    ap (λ (w : Option E). option_map_or (λ (edition : E). reply (length view.seen) edition request
    last) w [])
    (edition_at-newest view.seen newest ends)

-- the reply that is made for the entry is the reply by it
pub newest_reply-made : {E : Type 0} (reply : Replier E) (view : View E) (request : Request)
    (last : Bool) (number : ℕ) (newest : E)
    → EndsWith view.seen newest → number ≡ length view.seen → reply number newest request last
    ≡ newest_reply reply view request last
newest_reply-made {E} reply view request last number newest ends number_is =
    ap (λ (w : ℕ). reply w newest request last) number_is
    ∙ sym (newest_reply-is reply view request last newest ends)
