-- What is known of a stream while it is read.
use Rattle.std.proofs.Common.{◌≡◌, ℕ, ◌-◌, ◌≤◌, Bool, false, cond, List, ◌++◌, length, Option, refl}
use Rattle.std.proofs.Common.{sym, ap, ◌∙◌, subst, arith, append_assoc}
use Rattle.http_wire.specs.declared.request.Request.{Request}
use Rattle.http_wire.specs.declared.heads.Next.{Next}
use Rattle.http_wire.specs.declared.heads.Next.TheVariants as answers
use Rattle.http_wire.specs.Reading.{Reading, Answers, AnswersOfAll}
use Rattle.http_wire.specs.Requests.{HasGiven, Requests, Unfinished}
use Rattle.http_wire.proofs.RequestLaws.{HasGiven-append}
use Rattle.link_io.specs.Streams.{Takes}
use Rattle.link_io.proofs.Laws.{Takes-then}
use Rattle.session.specs.Pace.{IsPaced}
use Rattle.session.proofs.StreamLaws.{open_where_unfinished}

-- some bytes were read and fed, each piece where nothing was decided, and no request was given of
-- them yet
pub record HasHeard (left left_after : Option (List ℕ)) (old new : Reading) : Type 0 where
  pub bytes : List ℕ
  pub takes : Takes left bytes left_after
  pub given : (fed : List ℕ) (given : List Request) → HasGiven fed given old.rest
      → HasGiven (fed ++ bytes) given new.rest
  pub paced : (fed : List ℕ) (given : List Request) → HasGiven fed given old.rest
      → IsPaced fed (length given) → IsPaced (fed ++ bytes) (length given)

-- a further piece was read and fed
pub HasHeard-more : (left middle after : Option (List ℕ)) (old now new : Reading)
    (rest bytes : List ℕ)
    → HasHeard left middle old now → rest ≡ now.rest → Takes middle bytes after → new.rest ≡ rest
    ++ bytes
    → length bytes ≤ 4096
    → ((fed : List ℕ) (given : List Request) → HasGiven fed given now.rest
    → Requests fed false given Unfinished)
    → HasHeard left after old new
HasHeard-more left middle after old now new rest bytes heard same takes fed_is short undecided =
    record {
      bytes = heard.bytes ++ bytes;
      takes = Takes-then left middle after heard.bytes bytes heard.takes takes;
      given = λ fed given before.
          let grown : HasGiven ((fed ++ heard.bytes) ++ bytes) given (now.rest ++ bytes) =
          HasGiven-append (fed ++ heard.bytes) bytes now.rest given
          (heard.given fed given before) in
          let rest_is : now.rest ++ bytes ≡ new.rest = ap (λ w. w ++ bytes) (sym same)
          ∙ sym fed_is in
          subst (λ w. HasGiven w given new.rest) (append_assoc fed heard.bytes bytes)
          (subst (HasGiven ((fed ++ heard.bytes) ++ bytes) given) rest_is grown);
      paced = λ fed given before paced. record {
        before = fed ++ heard.bytes;
        last = bytes;
        all = sym (append_assoc fed heard.bytes bytes);
        short = short;
        requests = given;
        undecided = undecided (fed ++ heard.bytes) given (heard.given fed given before);
        few = omega arith;
      };
    }

-- where the reader of heads needs more, nothing is decided of what was fed
pub undecided_after_more : (ended : Bool) (next : Next) (left rest : List ℕ)
    → next ≡ answers.More
    → ((fed : List ℕ) (given : List Request) → HasGiven fed given rest
    → AnswersOfAll fed given ended next left)
    → (fed : List ℕ) (given : List Request) → HasGiven fed given rest
    → Requests fed false given Unfinished
undecided_after_more ended next left rest is stream fed given before =
    let more : AnswersOfAll fed given ended answers.More left =
    subst (λ w. AnswersOfAll fed given ended w left) is (stream fed given before) in
    subst (λ w. Requests fed w given Unfinished)
    (open_where_unfinished fed ended given Unfinished more.1 refl) more.1

pub rest_after_more : (old : Reading) (next : Next) (left : List ℕ) → Answers old next left
    → next ≡ answers.More
    → left ≡ old.rest
rest_after_more old next left answer is =
    let more : Answers old answers.More left = subst (λ w. Answers old w left) is answer in more.0

-- what is left to do before something is decided
abbrev pub remaining : Reading → ℕ
remaining reading = cond reading.ended 0 (16385 - length reading.rest)
