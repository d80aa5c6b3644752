-- Cited by public clauses. What a reader of heads gives of the bytes that it was fed.
use Rattle.std.specs.Prelude.{◌≡◌, ℕ, Bool, List, [], ◌∷◌, ◌++◌}
use Rattle.http_wire.specs.declared.request.Request.{Request}
use Rattle.http_wire.specs.declared.heads.Next.{Next}
use Rattle.http_wire.specs.declared.heads.Next.TheVariants as answers
use Rattle.http_wire.specs.Requests.{BeginsWith, Requests, HasGiven}
use Rattle.http_wire.specs.Requests.{StreamEnd, Clean, Bad, Unfinished}

-- the most bytes that a reader holds
abbrev pub rest_limit : ℕ
rest_limit = 16384

-- the bytes fed that stand in no head given, and whether the input ended
pub record Reading : Type 0 where
  pub rest : List ℕ
  pub ended : Bool

-- the same from its parts
abbrev pub reading : List ℕ → Bool → Reading
reading rest ended = record { rest = rest; ended = ended }

-- no head is given, and the stream ends so
abbrev pub EndsIn : StreamEnd → Reading → List ℕ → Type 0
EndsIn end old remaining = (remaining ≡ old.rest) × Requests old.rest old.ended [] end

-- what the result says of the bytes in no head given, and which of them remain
abbrev pub Answers : Reading → Next → List ℕ → Type 0
Answers old (answers.Head request) remaining = BeginsWith old.rest request remaining
Answers old answers.More remaining = EndsIn Unfinished old remaining
Answers old answers.Clean remaining = EndsIn Clean old remaining
Answers old answers.Bad remaining = EndsIn Bad old remaining

-- the result where the stream ends so
abbrev pub answer_of : StreamEnd → Next
answer_of Clean = answers.Clean
answer_of Bad = answers.Bad
answer_of Unfinished = answers.More

-- these requests and no more are given of what was fed, and the stream ends so
abbrev pub EndsAllIn : StreamEnd → List ℕ → List Request → Bool → List ℕ → Type 0
EndsAllIn end fed given ended remaining =
    HasGiven fed given remaining × Requests fed ended given end

-- what the result says of all that was fed, of which these requests were given before
abbrev pub AnswersOfAll : List ℕ → List Request → Bool → Next → List ℕ → Type 0
AnswersOfAll fed given ended (answers.Head request) remaining =
    HasGiven fed (given ++ request ∷ []) remaining
AnswersOfAll fed given ended answers.More remaining = EndsAllIn Unfinished fed given ended remaining
AnswersOfAll fed given ended answers.Clean remaining = EndsAllIn Clean fed given ended remaining
AnswersOfAll fed given ended answers.Bad remaining = EndsAllIn Bad fed given ended remaining
