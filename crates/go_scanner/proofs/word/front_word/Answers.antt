use Rattle.std.proofs.Common.{◌≡◌, ◌-◌, take, sym, ◌∙◌, ap, subst, arith}
use Rattle.std.specs.Str.{IsCharBoundary}
use Rattle.std.proofs.lemmas.List.{take_at}
use Rattle.go_scanner.specs.FrontWords.{word_at}
use Rattle.go_scanner.proofs.Standing.Names.{front_boundary, front_split}
use Rattle.go_scanner.proofs.word.front_word.Goals as goal

pub range-requires-clause-end_boundary : goal.range-requires-clause-end_boundary
range-requires-clause-end_boundary c =
    subst (IsCharBoundary c.args.text.now) (sym c.word_length.ensures)
    (front_boundary c.args.text.now c.utf8.text)

pub returns : goal.returns
returns c =
    let split = front_split c.args.text.now c.utf8.text in
    let whole : c.word_length.result - 0 ≡ c.word_length.result = omega arith in
    c.range.ensures.value ∙ ap (λ n. take n c.args.text.now) whole
    ∙ ap (take c.word_length.result) split.1
    ∙ take_at (word_at c.args.text.now) split.0 c.word_length.result (sym c.word_length.ensures)
