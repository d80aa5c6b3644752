use Rattle.std.proofs.Common.{◌≡◌, ◌∙◌, ap, string_bytes}
use Rattle.std.specs.Str.Iter.{chars_rest}
use Rattle.synopsis_notes.specs.declared.sentence.Sentence.{Sentence}
use Rattle.synopsis_notes.specs.Synopses.{first_sentence}
use Rattle.synopsis_notes.proofs.Sentences.{ends_at, goes_past, stops_at}
use Rattle.synopsis_notes.proofs.sentence.first_sentence.Goals as goal
use Rattle.synopsis_notes.proofs.sentence.first_sentence.Goals.{in_default}
use Rattle.synopsis_notes.proofs.sentence.first_sentence.Goals.{in-Some+in_ok-take+then-not-branch}

pub loop-c-preserved : goal.loop-c-preserved
loop-c-preserved c =
    goes_past (chars_rest c.loop-c.characters) (chars_rest c.next.new.self) c.as_str.result.now
    c.in-Some.c c.loop-c.sentence c.take.new.self _ c.in_ok-take.field-0 c.loop-c.invariant
    c.in-Some.ensures.steps.0 c.as_str.ensures c.if-not-branch.false c.in_ok-take.ensures

pub returns : goal.returns
returns c =
    let same : string_bytes c.match-next.sentence.text ≡ first_sentence c.args.text.now =
    elim c.match-next.branch as (λ _. string_bytes c.match-next.sentence.text
    ≡ first_sentence c.args.text.now) [
      | in-Some+in_ok-take+then-not-branch w ↦
          ap (λ (s : Sentence). string_bytes s.text) w.sentence-is
          ∙ stops_at (chars_rest c.loop-c.characters) (chars_rest c.next.new.self)
          w.as_str.result.now w.in-Some.c c.loop-c.sentence w.take.new.self _ w.in_ok-take.field-0
          c.loop-c.invariant w.in-Some.ensures.steps.0 w.as_str.ensures w.if-not-branch.true
          w.in_ok-take.ensures
      | in_default w ↦
          ap (λ (s : Sentence). string_bytes s.text) w.sentence-is
          ∙ ends_at (chars_rest c.loop-c.characters) c.loop-c.sentence _ c.loop-c.invariant
          w.in_default.ensures.steps.0.0
    ] in
    c.from_string.ensures ∙ same
