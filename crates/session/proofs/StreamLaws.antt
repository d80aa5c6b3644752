-- The requests of a stream: those that were given come first.
use Rattle.std.proofs.Common.{◌≡◌, ℕ, Bool, true, false, List, [], ◌∷◌, ◌++◌, refl, sym, ap, ◌∙◌}
use Rattle.std.proofs.Common.{subst, append_assoc, append-nil}
use Rattle.http_wire.specs.declared.request.Request.{Request}
use Rattle.http_wire.specs.Requests.{BeginsWith, StreamEnd, Clean, Bad, Unfinished, Requests, next}
use Rattle.http_wire.specs.Requests.{refused, ends, waits, HasGiven, none_yet, one_more}
use Rattle.http_wire.proofs.RequestLaws.{BeginsWith_unique, HasNoHead-not_begins, no_head_at_end}
use Rattle.http_wire.proofs.RequestLaws.{Requests-append_bad}

-- ---- the requests that were given come first

after_head : (rest : List ℕ) (ended : Bool) (requests : List Request) (end : StreamEnd)
    (request : Request) (after : List ℕ)
    → Requests rest ended requests end → BeginsWith rest request after
    → (more : List Request) × (requests ≡ request ∷ more) × Requests after ended more end
after_head rest ended _ end request after (next _ _ found behind requests _ begins all) x =
    let same = BeginsWith_unique rest found request behind after begins x in
    (requests, ap (λ w. w ∷ requests) same.0, subst (λ w. Requests w ended requests end) same.1 all)
after_head rest ended _ _ request after (refused _ _ none why) x =
    absurd (HasNoHead-not_begins rest request after none x)
after_head rest _ _ _ request after (ends _ clean) x =
    absurd (HasNoHead-not_begins rest request after
    (no_head_at_end rest true Clean (ends rest clean)) x)
after_head rest _ _ _ request after (waits _ awaits) x =
    absurd (HasNoHead-not_begins rest request after
    (no_head_at_end rest false Unfinished (waits rest awaits)) x)

pub Requests-split : (fed rest : List ℕ) (ended : Bool) (given requests : List Request)
    (end : StreamEnd)
    → HasGiven fed given rest → Requests fed ended requests end
    → (more : List Request) × (requests ≡ given ++ more) × Requests rest ended more end
Requests-split fed _ ended _ requests end none_yet all = (requests, refl, all)
Requests-split fed _ ended _ requests end (one_more given rest request after before x) all =
    let first = Requests-split fed rest ended given requests end before all in
    let second = after_head rest ended first.0 end request after first.2 x in (
      second.0,
      first.1 ∙ ap (λ w. given ++ w) second.1
          ∙ sym (append_assoc given (request ∷ []) second.0),
      second.2,
    )

-- ---- the end of a stream

pub ended_where_clean : (rest : List ℕ) (ended : Bool) (requests : List Request) (end : StreamEnd)
    → Requests rest ended requests end → end ≡ Clean → ended ≡ true
ended_where_clean rest ended _ end (next _ _ request after requests _ begins all) is =
    ended_where_clean after ended requests end all is
ended_where_clean rest ended _ _ (refused _ _ none why) is = cc
ended_where_clean rest _ _ _ (ends _ clean) is = refl
ended_where_clean rest _ _ _ (waits _ awaits) is = cc

pub open_where_unfinished : (rest : List ℕ) (ended : Bool) (requests : List Request)
    (end : StreamEnd)
    → Requests rest ended requests end → end ≡ Unfinished → ended ≡ false
open_where_unfinished rest ended _ end (next _ _ request after requests _ begins all) is =
    open_where_unfinished after ended requests end all is
open_where_unfinished rest ended _ _ (refused _ _ none why) is = cc
open_where_unfinished rest _ _ _ (ends _ clean) is = cc
open_where_unfinished rest _ _ _ (waits _ awaits) is = refl

-- what is refused stays refused when the input ends
pub bad_at_end : (fed : List ℕ) (before now : Bool) (requests : List Request)
    → (before ≡ true → now ≡ true)
    → Requests fed before requests Bad → Requests fed now requests Bad
bad_at_end fed true now requests later all = subst (λ w. Requests fed w requests Bad)
    (sym (later refl)) all
bad_at_end fed false now requests later all =
    subst (λ w. Requests w now requests Bad) (append-nil fed)
    (Requests-append_bad fed [] now requests all)
