use Rattle.std.proofs.Common.{◌≡◌, subst, refl, ◌+◌, suc, reverse, drop, get_or}
use Rattle.std.proofs.Common.{Bool, true, false, MatchBool}
use Rattle.go_ast.specs.Chunks.{IsUnbalancedAt}
use Rattle.go_ast.specs.Marks.{word_of, words_from}
use Rattle.type_parser.proofs.GrammarLaws.{from-place}
use Rattle.go_parser.specs.Cutter.{Reached}
use Rattle.go_parser.proofs.Segments.{finished}
use Rattle.go_parser.proofs.Steps.{drop-all}
use Rattle.go_parser.proofs.chunks.chunks_of.Goals as goal

fails-is : (b : Bool) (P Q : Type 0) → b ≡ false → MatchBool b P Q → Q
fails-is true P Q e h = absurd (cc e)
fails-is false P Q e h = h

pub returns-then-not-branch : goal.returns-then-not-branch
returns-then-not-branch c =
    let source = c.args.source.now in
    let tokens = c.args.tokens.now in
    let at = c.loop-token.token-index in
    let was = c.loop-token.invariant in
    let token = get_or tokens at _ in
    let words = words_from source 0 tokens in
    let w = word_of source c.loop-token.place token in
    let rest = words_from source (c.loop-token.place + 1) (drop (suc at) tokens) in
    let reached = subst (λ us. Reached words (words_from source c.loop-token.place us)
    c.loop-token.place c.loop-token.cutter.chunks.items
    (reverse c.loop-token.cutter.brackets.items) c.loop-token.cutter.first
    c.loop-token.cutter.opened) (from-place tokens at _ c.loop-token-test.true) was.reached in
    record {
      word = w;
      unbalanced = fails-is c.in_ok-take.field-0 _ (IsUnbalancedAt words w) c.if-not-branch.true
          (c.in_ok-take.ensures words rest w refl refl c.cutting_mark-mark.ensures reached);
      begins = refl;
    }

pub returns : goal.returns
returns c =
    let source = c.args.source.now in
    let tokens = c.args.tokens.now in
    finished source tokens c.finish.result c.loop-token.place _ _ _ _ c.finish.ensures
    (subst (λ us. Reached (words_from source 0 tokens) (words_from source c.loop-token.place us)
    c.loop-token.place c.loop-token.cutter.chunks.items
    (reverse c.loop-token.cutter.brackets.items) c.loop-token.cutter.first
    c.loop-token.cutter.opened) (drop-all tokens c.loop-token.token-index c.loop-token-test.false)
    c.loop-token.invariant.reached)
