-- How far a session has come, and one request more.
use Rattle.std.proofs.Common.{◌≡◌, ℕ, ◌+◌, ◌-◌, ◌≤◌, Bool, true, false, ◌||◌, List, [], ◌∷◌, ◌++◌}
use Rattle.std.proofs.Common.{length, take, Option, Ok, refl, sym, ap, ◌∙◌, subst, arith}
use Rattle.std.proofs.Common.{append_assoc, append-nil, length-append}
use Rattle.std.specs.Prelude.{IsSome, All}
use Rattle.std.specs.List.{concat}
use Rattle.std.proofs.lemmas.Bool.{false≢true}
use Rattle.std.proofs.lemmas.List.{take_at}
use Rattle.std.proofs.lemmas.List.Elements.{All-nil, All-push, All-weaker}
use Rattle.http_wire.specs.declared.request.Request.{Request}
use Rattle.http_wire.specs.declared.heads.Next.TheVariants as answers
use Rattle.http_wire.specs.Reading.{Reading}
use Rattle.http_wire.specs.Requests.{HasGiven, none_yet}
use Rattle.link_io.specs.Streams.{Takes, Adds}
use Rattle.link_io.proofs.Laws.{Takes-then, Takes-none, Adds-then, Adds-none}
use Rattle.publication.specs.View.{View, StartsWith}
use Rattle.session.specs.Incoming.{Hears}
use Rattle.session.specs.Pace.{IsPaced}
use Rattle.session.specs.Text.{Replier, is_last, edition_at, some_closes}
use Rattle.session.proofs.AnsweredLemmas.{some_closes-append}
use Rattle.session.proofs.Counted.{replies_from}
use Rattle.session.proofs.PaceLemmas.{IsPaced-nothing, IsPaced-weaker}
use Rattle.session.proofs.ReplyLemmas.{Enters, newest_reply, StartsWith-then}
use Rattle.session.proofs.TextLemmas.{edition_at-grown, replies-grown, replies-push, length-replies}
use Rattle.session.proofs.TextLemmas.{concat-push}

-- `count` requests were answered, none of them closes, and nothing was read since the last reply
pub record Progress {E : Type 0} (reply : Replier E) (left left_after held held_after : Option
    (List ℕ)) (old new : View E) (rest : List ℕ) (count : ℕ) : Type 0 where
  pub read : List ℕ
  pub written : List ℕ
  pub given : List Request
  pub entries : List ℕ
  pub takes : Takes left read left_after
  pub adds : Adds held written held_after
  pub gains : new.entries ≡ old.entries ++ entries
  pub known : All (λ entry. IsSome (edition_at new.seen entry)) entries
  pub later : StartsWith new.seen old.seen
  pub told : new.told ≡ old.told
  pub fresh : All (λ entry. (length old.seen ≤ entry) × (length old.told ≤ entry)) entries
  pub has_given : HasGiven read given rest
  pub none_closes : some_closes given ≡ false
  pub counted : length given ≡ count
  pub each : length entries ≡ count
  pub text : written ≡ concat (replies_from reply new.seen 1 given entries)
  pub paced : IsPaced read (count - 1)

pub Progress-nothing : {E : Type 0} (reply : Replier E) (left held : Option (List ℕ))
    (view : View E)
    → Progress reply left left held held view view [] 0
Progress-nothing reply left held view = record {
  read = [];
  written = [];
  given = [];
  entries = [];
  takes = Takes-none left;
  adds = Adds-none held;
  gains = sym (append-nil view.entries);
  known = All-nil _;
  later = ([], sym (append-nil view.seen));
  told = refl;
  fresh = All-nil _;
  has_given = none_yet;
  none_closes = refl;
  counted = refl;
  each = refl;
  text = refl;
  paced = IsPaced-nothing;
}

-- ---- one request more

module _ {E : Type 0} {reply : Replier E} {left left_now held held_now : Option (List ℕ)}
    {old view : View E} {rest : List ℕ} {count : ℕ} (so_far : Progress reply left left_now held
    held_now old view rest count) where
  -- what was read since the last reply was read while nothing was decided
  pub paced_after : (bytes : List ℕ) → (IsPaced so_far.read (length so_far.given)
      → IsPaced (so_far.read ++ bytes) (length so_far.given))
      → IsPaced (so_far.read ++ bytes) (length so_far.given)
  paced_after bytes step = step (IsPaced-weaker so_far.read (count - 1) (length so_far.given)
      (omega (arith, so_far.counted)) so_far.paced)

  known_grown : (more seen : List E) → seen ≡ view.seen ++ more
      → All (λ entry. IsSome (edition_at seen entry)) so_far.entries
  known_grown more seen is =
      All-weaker (λ entry. IsSome (edition_at view.seen entry))
      (λ entry. IsSome (edition_at seen entry))
      (λ entry known. subst (λ (w : Option E). IsSome w)
      (sym (ap (λ (w : List E). edition_at w entry) is ∙ edition_at-grown view.seen more entry
      known)) known)
      so_far.entries so_far.known

  replies_kept : (more seen : List E) → seen ≡ view.seen ++ more
      → replies_from reply seen 1 so_far.given so_far.entries ≡ replies_from reply view.seen 1
      so_far.given so_far.entries
  replies_kept more seen is =
      ap (λ (w : List E). replies_from reply w 1 so_far.given so_far.entries) is
      ∙ replies-grown reply view.seen more 1 so_far.given so_far.entries so_far.known

  -- the entry of one request more, and its reply
  module _ (new : View E) (request : Request) (last : Bool) (enters : Enters view new)
      (later : StartsWith new.seen view.seen) (last_is : last ≡ is_last (count + 1) request) where
    entries_with : List ℕ
    entries_with = so_far.entries ++ length new.seen ∷ []

    replies_with : replies_from reply new.seen 1 (so_far.given ++ request ∷ [])
        (so_far.entries ++ length new.seen ∷ [])
        ≡ replies_from reply view.seen 1 so_far.given so_far.entries ++ newest_reply reply new
        request last ∷ []
    replies_with =
        let number : 1 + length so_far.given ≡ count + 1 = omega (arith, so_far.counted) in
        let same : length so_far.entries ≡ length so_far.given = so_far.each ∙ sym so_far.counted in
        replies-push reply new.seen 1 so_far.given so_far.entries request (length new.seen) same
        ∙ ap (λ (w : List (List ℕ)). w ++ newest_reply reply new request
        (is_last (1 + length so_far.given) request) ∷ [])
        (replies_kept later.0 new.seen later.1)
        ∙ ap (λ (w : Bool). replies_from reply view.seen 1 so_far.given so_far.entries
        ++ newest_reply reply new request w ∷ []) (ap (λ (w : ℕ). is_last w request) number
        ∙ sym last_is)

    pub known_with : All (λ entry. IsSome (edition_at new.seen entry))
        (so_far.entries ++ length new.seen ∷ [])
    known_with =
        All-push (λ entry. IsSome (edition_at new.seen entry)) so_far.entries (length new.seen)
        (known_grown later.0 new.seen later.1) enters.known

    pub later_with : StartsWith new.seen old.seen
    later_with = StartsWith-then old.seen view.seen new.seen so_far.later later

    pub told_with : new.told ≡ old.told
    told_with = enters.told ∙ so_far.told

    pub fresh_with : All (λ entry. (length old.seen ≤ entry) × (length old.told ≤ entry))
        (so_far.entries ++ length new.seen ∷ [])
    fresh_with =
        let all = later_with in
        let more : StartsWith new.seen old.told = subst (λ (l : List E). StartsWith new.seen l)
        so_far.told enters.informed in
        All-push (λ entry. (length old.seen ≤ entry) × (length old.told ≤ entry)) so_far.entries
        (length new.seen) so_far.fresh
        (rw all.1 (simp length-append (omega arith)), rw more.1 (simp length-append (omega arith)))

    pub gains_with : new.entries ≡ old.entries ++ (so_far.entries ++ length new.seen ∷ [])
    gains_with =
        enters.entry ∙ ap (λ (w : List ℕ). w ++ length new.seen ∷ []) so_far.gains
        ∙ append_assoc old.entries so_far.entries (length new.seen ∷ [])

    -- the replies so far are all but the last
    pub most_replies : so_far.written ≡ concat
        (take (length (so_far.entries ++ length new.seen ∷ []) - 1) (replies_from reply new.seen 1
        (so_far.given ++ request ∷ []) (so_far.entries ++ length new.seen ∷ [])))
    most_replies =
        let before : List (List ℕ) = replies_from reply view.seen 1 so_far.given so_far.entries in
        let long : length before ≡ length so_far.entries = length-replies reply view.seen 1
        so_far.given so_far.entries (omega (arith, so_far.each, so_far.counted)) in
        let fewer : length before ≡ length (so_far.entries ++ length new.seen ∷ []) - 1 =
        simp length-append (omega arith) in
        so_far.text ∙ ap concat (sym (take_at before (newest_reply reply new request last ∷ [])
        (length (so_far.entries ++ length new.seen ∷ []) - 1) fewer))
        ∙ ap (λ (w : List (List ℕ)). concat
        (take (length (so_far.entries ++ length new.seen ∷ []) - 1) w)) (sym replies_with)

    pub text_with : so_far.written ++ newest_reply reply new request last ≡ concat
        (replies_from reply new.seen 1 (so_far.given ++ request ∷ [])
        (so_far.entries ++ length new.seen ∷ []))
    text_with =
        ap (λ (w : List ℕ). w ++ newest_reply reply new request last) so_far.text
        ∙ sym (concat-push (replies_from reply view.seen 1 so_far.given so_far.entries)
        (newest_reply reply new request last))
        ∙ ap concat (sym replies_with)

-- the session continues after a reply
pub Progress-more : {E : Type 0} (reply : Replier E) (left middle after held held_now held_after :
    Option (List ℕ)) (old view new : View E) (reading now : Reading) (count : ℕ) (request : Request)
    (last : Bool)
    → Progress reply left middle held held_now old view reading.rest count
    → Hears middle after reading now (Ok (answers.Head request))
    → Enters view new → StartsWith new.seen view.seen → last ≡ is_last (count + 1) request
    → Adds held_now (newest_reply reply new request last) held_after
    → request.close ≡ false → Progress reply left after held held_after old new now.rest (count + 1)
Progress-more reply left middle after held held_now held_after old view new reading now count
    request last so_far hears enters later last_is adds goes_on = record {
      read = so_far.read ++ hears.bytes;
      written = so_far.written ++ newest_reply reply new request last;
      given = so_far.given ++ request ∷ [];
      entries = so_far.entries ++ length new.seen ∷ [];
      takes = Takes-then left middle after so_far.read hears.bytes so_far.takes hears.takes;
      adds = Adds-then held held_now held_after so_far.written (newest_reply reply new request last)
          so_far.adds adds;
      gains = gains_with so_far new request last enters later last_is;
      known = known_with so_far new request last enters later last_is;
      later = later_with so_far new request last enters later last_is;
      told = told_with so_far new request last enters later last_is;
      fresh = fresh_with so_far new request last enters later last_is;
      has_given = hears.comes so_far.read so_far.given so_far.has_given;
      none_closes = some_closes-append so_far.given (request ∷ [])
          ∙ by_parts (some_closes so_far.given)
          request.close so_far.none_closes goes_on;
      counted = simp length-append (omega (arith, so_far.counted));
      each = simp length-append (omega (arith, so_far.each));
      text = text_with so_far new request last enters later last_is;
      paced = IsPaced-weaker (so_far.read ++ hears.bytes) (length so_far.given) ((count + 1) - 1)
          (omega (arith, so_far.counted)) (paced_after so_far hears.bytes
          (hears.paced so_far.read so_far.given so_far.has_given));
    }
  where
    by_parts : (a b : Bool) → a ≡ false → b ≡ false → (a || (b || false)) ≡ false
    by_parts false false p q = refl
    by_parts true b p q = absurd (false≢true (sym p))
    by_parts false true p q = absurd (false≢true (sym q))
