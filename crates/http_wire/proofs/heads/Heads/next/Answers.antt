use Rattle.std.proofs.Common.{◌≡◌, ◌+◌, drop, ap, Ok, arith}
use Rattle.std.proofs.lemmas.Grind.{common_steps}
use Rattle.http_wire.specs.declared.heads.Next.TheVariants as answers
use Rattle.http_wire.specs.Reading.{Answers}
use Rattle.http_wire.specs.Requests.{StandsHead}
use Rattle.http_wire.proofs.ReadingLemmas.{answers_of_all, short_after_more, answer_is, no_end_at_head}
use Rattle.http_wire.proofs.heads.Heads.next.Goals as goal

pub returns-clause-stream : goal.returns-clause-stream
returns-clause-stream c =
    let left = drop (c.self.inside.start + c.in_ok-next.len) c.self.inside.bytes.items in
    let answer : Answers c.args.self.now c.in_ok-next.next left = grind (arith, common_steps) in
    λ fed given before. answers_of_all c.args.self.now c.in_ok-next.next left fed given answer before

pub returns-clause-room : goal.returns-clause-room
returns-clause-room c =
    let left = drop (c.self.inside.start + c.in_ok-next.len) c.self.inside.bytes.items in
    let answer : Answers c.args.self.now c.in_ok-next.next left = grind (arith, common_steps) in
    λ is. let more : c.in_ok-next.next ≡ answers.More = cc (is) in
    short_after_more c.args.self.now c.in_ok-next.next left answer more

pub returns-clause-exact : goal.returns-clause-exact
returns-clause-exact c =
    let left = drop (c.self.inside.start + c.in_ok-next.len) c.self.inside.bytes.items in
    let answer : Answers c.args.self.now c.in_ok-next.next left = grind (arith, common_steps) in
    λ end all. ap Ok (answer_is c.args.self.now c.in_ok-next.next left end answer all)

pub returns-in_err-next-clause-exact : goal.returns-in_err-next-clause-exact
returns-in_err-next-clause-exact c =
    let stands : StandsHead c.args.self.now.rest = grind (arith, common_steps) in
    λ end all. absurd (no_end_at_head c.args.self.now.rest c.args.self.now.ended end stands all)
