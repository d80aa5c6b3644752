use Rattle.std.proofs.Common.{◌≡◌, ◌+◌, length, arith, ap, sym, subst, ◌∙◌, ◌<◌, drop, get_or, Vec}
use Rattle.std.proofs.Common.{Global}
use Rattle.go_ast.specs.declared.token.Token.{Token}
use Rattle.go_ast.specs.declared.token.TokenKind.TheVariants.{Ident}
use Rattle.go_ast.specs.Position.{line_of, line_starts}
use Rattle.go_ast.specs.Tokens.{is_ident}
use Rattle.ident_index.specs.Hits.{hit_of, kind_at}
use Rattle.ident_index.specs.declared.hit.Hit.{Hit}
use Rattle.ident_index.specs.Places.{AreLinesTo, AreNamesBefore}
use Rattle.ident_index.proofs.Passing.{ident_test, line_counted, lines_few, lines_on, names_on}
use Rattle.ident_index.proofs.Passing.{next_in_order, order_within, passed, passing}
use Rattle.ident_index.proofs.hits.hits_of.Goals as goal
use Rattle.ident_index.proofs.hits.hits_of.Goals.{then-eq+in_ok-push, else-eq}

-- src/hits.rt:116:23
pub overflow_cast-passed : goal.overflow_cast-passed
overflow_cast-passed c =
    omega (
      arith,
      c.lines_to.ensures.so_many.within,
      ap length
          (c.as_slice-starts.ensures ∙ c.requires.lines),
      lines_few c.args.source.now,
      c.requires.size,
    )

-- src/hits.rt:106:5
pub loop-token-preserved : goal.loop-token-preserved
loop-token-preserved c =
    let source = c.args.source.now in
    let tokens = c.as_slice-token-items.result.now in
    let i = c.loop-token.token-index in
    let d : Token = record { kind = Ident; span = record { start = 0; end = 0 } } in
    let from = c.loop-token.invariant.0 in
    let next = next_in_order tokens i from (length source) d c.loop-token-test.true
    c.loop-token.invariant.1 in
    let token = get_or tokens i d in
    let test : is_ident token.kind ≡ c.eq.result = sym (c.eq.ensures ∙ ident_test token.kind) in
    let hit : Token → Hit = hit_of source c.args.file.now c.args.number in
    let starts = c.as_slice-starts.result.now in
    let names = c.in_ok-names.names.items in
    elim c.if-eq.branch [
      | then-eq+in_ok-push w ↦
          let start = token.span.start in
          let lines : AreLinesTo starts start w.lines_to.result = w.lines_to.ensures.so_many in
          let before : AreNamesBefore names start w.names_before.result =
          subst (λ l. AreNamesBefore l start w.names_before.result) w.as_slice.ensures.value
          w.names_before.ensures.so_many in
          let first : starts ≡ line_starts source = c.as_slice-starts.ensures
          ∙ c.requires.lines in (
            token.span.end,
            next.left,
            subst (λ p. AreLinesTo starts token.span.end p.lines) (sym w.passed-is)
                (lines_on starts start token.span.end w.lines_to.result next.ends lines),
            subst (λ p. AreNamesBefore names token.span.end p.names) (sym w.passed-is)
                (names_on names start token.span.end w.names_before.result next.ends before),
            ap (λ (v : Vec Hit Global). v.items) w.hits-is ∙ w.in_ok-push.ensures.items
                ∙ passing hit (λ token. is_ident token.kind) tokens i d c.loop-token.hits.items
                c.loop-token-test.true c.loop-token.invariant.4 _ (test ∙ w.if-eq.true)
                (ap (λ n. record {
                  file = c.args.number;
                  offset = start;
                  line = n;
                  kind =
                      w.kind_at.result;
                })
                (line_counted source start w.lines_to.result
                (omega (
                  arith,
                  next.ends,
                  order_within (drop (i + 1) tokens) token.span.end
                      (length source) next.left,
                ))
                (subst (λ l. AreLinesTo l start w.lines_to.result) first lines)
                (subst (λ l. w.lines_to.result < length l → start < get_or l w.lines_to.result 0)
                first w.lines_to.ensures.no_more))
                ∙ ap (λ k. record {
                  file = c.args.number;
                  offset = start;
                  line = line_of source
                      start;
                  kind = k;
                })
                (w.kind_at.ensures ∙ ap (λ ns. kind_at ns start) w.as_slice-then-eq.ensures.value
                ∙ c.in_ok-names.ensures.same start)),
          )
      | else-eq w ↦ (
        token.span.end,
        next.left,
        subst (λ p. AreLinesTo starts token.span.end p.lines) (sym w.passed-is)
            (lines_on starts from token.span.end c.loop-token.passed.lines
            (omega (arith, next.begins, next.ends)) c.loop-token.invariant.2),
        subst (λ p. AreNamesBefore names token.span.end p.names) (sym w.passed-is)
            (names_on names from token.span.end c.loop-token.passed.names
            (omega (arith, next.begins, next.ends)) c.loop-token.invariant.3),
        ap (λ (v : Vec Hit Global). v.items) w.hits-is
            ∙ passed hit (λ token. is_ident token.kind) tokens i d c.loop-token.hits.items
            c.loop-token-test.true c.loop-token.invariant.4 (test ∙ w.if-eq.false),
      )
    ]
