use Rattle.std.proofs.Common.{◌∙◌}
use Rattle.tests_serving.proofs.Pairs.{put_back}
use Rattle.tests_serving.proofs.workers.two_seats_claim_three_numbers.Goals as goal

pub close-requires : goal.close-requires
close-requires g c =
    put_back 3 c.in_ok-seats.seats c.pop.new.self c.pop-2.new.self c.push.new.self c.push-2.new.self
    c.in-Some-Some.a c.in-Some-Some.b c.claim-5.new.self c.claim-4.new.self
    c.in_ok-seats.ensures c.in-Some-Some.ensures c.in-Some-Some.ensures'
    (c.claim-5.ensures.word ∙ c.claim-3.ensures.word ∙ c.claim.ensures.word)
    (c.claim-4.ensures.word ∙ c.claim-2.ensures.word)
    c.in_ok-push.ensures.ok c.in_ok-push-2.ensures.ok
