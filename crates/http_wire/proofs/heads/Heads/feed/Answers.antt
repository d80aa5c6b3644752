use Rattle.std.proofs.Common.{◌≡◌, ◌++◌, take, drop, arith}
use Rattle.std.proofs.lemmas.Grind.{common_steps}
use Rattle.http_wire.proofs.StreamLemmas.{HasGiven-append}
use Rattle.http_wire.proofs.heads.Heads.feed.Goals as goal

pub returns-clause-given : goal.returns-clause-given
returns-clause-given c =
    let grown : drop c.if-capacity-len.self-inside.start c.extend_from_slice.new.self.items
    ≡ c.args.self.now.rest ++ take c.min-taken.result c.args.piece.now = grind (arith, common_steps) in
    λ fed given before. rw grown (HasGiven-append fed (take c.min-taken.result c.args.piece.now) c.args.self.now.rest given before)
