use Rattle.std.proofs.Common.{◌≡◌, ◌<◌, ◌≤◌, ◌+◌, ◌++◌, ◌∷◌, [], true, false, Some, None, length}
use Rattle.std.proofs.Common.{drop, sym, ◌∙◌, ap, subst, refl, arith, append-nil}
use Rattle.std.proofs.lemmas.Str.{IsCharBoundary-from_drop}
use Rattle.std.proofs.lemmas.List.{take_rest}
use Rattle.go_ast.specs.Reading.{Reads, ScanFault, token_of}
use Rattle.go_scanner.specs.declared.shape.Shape.TheVariants.{Blank, LineEnd, Comment, General}
use Rattle.go_scanner.specs.declared.shape.Shape.TheVariants.{Token}
use Rattle.std.specs.List.{prefix_len}
use Rattle.go_scanner.specs.Classes.{is_blank}
use Rattle.go_scanner.specs.Steps.{mark_length, comment_of, pending_of}
use Rattle.go_scanner.specs.Shapes.{item_shape, length_of, fault_at}
use Rattle.go_scanner.proofs.Progress.{past_blanks, begin, goes_on, goes_on_some, same_reached}
use Rattle.go_scanner.proofs.Progress.{item_here}
use Rattle.go_scanner.proofs.Progress.{stuck, finish}
use Rattle.go_scanner.proofs.Faults.{fault_found}
use Rattle.go_scanner.proofs.scanner.read.Goals as goal

pub loop-at-init : goal.loop-at-init
loop-at-init c =
    let start : c.mark_length.result ≡ mark_length c.args.text.now =
    c.mark_length.ensures ∙ ap mark_length c.as_bytes-source.ensures.value in
    same_reached c.args.text.now _ _ _ _ _ _ _ _
    (past_blanks c.args.text.now _ _ _ _ (begin c.args.text.now c.utf8.text))
    (c.past_blanks-at.ensures
    ∙ ap (λ l. c.mark_length.result + prefix_len is_blank (drop c.mark_length.result l))
    c.as_bytes-source.ensures.value
    ∙ ap (λ n. n + prefix_len is_blank (drop n c.args.text.now)) start) refl
    c.in_ok-tokens.ensures c.new-comments.ensures.items

pub range_from-requires : goal.range_from-requires
range_from-requires c =
    λ some. IsCharBoundary-from_drop c.args.text.now c.loop-at.at
    c.loop-at.invariant.progress.within c.loop-at.invariant.progress.utf8

pub returns-in_default-clause-refused : goal.returns-in_default-clause-refused
returns-in_default-clause-refused c =
    let text = c.args.text.now in
    let at = c.loop-at.at in
    let here =
    item_here text at c.loop-at.pending c.loop-at.tokens.items c.loop-at.comments.items
    c.loop-at.invariant in
    let nothing : item_shape (drop at text) ≡ None =
    sym (c.item_shape.ensures ∙ ap item_shape c.range_from.ensures.value) ∙ c.in_default.is in
    let more : at < length text = omega (arith, c.as_bytes-source.ensures.len) in
    let place =
    stuck text at c.loop-at.pending c.loop-at.tokens.items c.loop-at.comments.items
    c.loop-at.invariant.progress more (here ∙ nothing) in
    let told : c.fault_at.result ≡ fault_at at (drop at text) =
    c.fault_at.ensures
    ∙ ap (fault_at at)
    (take_rest c.as_bytes-source.result.now at
    ∙ ap (drop at) c.as_bytes-source.ensures.value) in
    subst (ScanFault text) (sym told) (fault_found text at c.utf8.text place (here ∙ nothing))

pub overflow_add-after : goal.overflow_add-after
overflow_add-after c =
    let found = c.in-Some.ensures ∙ ap item_shape c.range_from.ensures.value in
    let next =
    goes_on c.args.text.now c.loop-at.at c.loop-at.pending c.loop-at.tokens.items
    c.loop-at.comments.items c.in-Some.shape c.loop-at.invariant found in
    let high : c.loop-at.at + c.length.result ≤ 4194304 =
    omega (arith, next.progress.within, c.length.ensures, c.requires) in
    omega arith

pub overflow_cast-end : goal.overflow_cast-end
overflow_cast-end c =
    let found = c.in-Some.ensures ∙ ap item_shape c.range_from.ensures.value in
    let next =
    goes_on c.args.text.now c.loop-at.at c.loop-at.pending c.loop-at.tokens.items
    c.loop-at.comments.items c.in-Some.shape c.loop-at.invariant found in
    let high : c.loop-at.at + c.length.result ≤ 4194304 =
    omega (arith, next.progress.within, c.length.ensures, c.requires) in
    omega arith

pub past_blanks-at-requires-in-loop-at-clause-place :
    goal.past_blanks-at-requires-in-loop-at-clause-place
past_blanks-at-requires-in-loop-at-clause-place c =
    let found = c.in-Some.ensures ∙ ap item_shape c.range_from.ensures.value in
    let next =
    goes_on c.args.text.now c.loop-at.at c.loop-at.pending c.loop-at.tokens.items
    c.loop-at.comments.items c.in-Some.shape c.loop-at.invariant found in
    omega (arith, next.progress.within, c.length.ensures, c.as_bytes-source.ensures.len)

pub loop-at-smaller-in-Blank : goal.loop-at-smaller-in-Blank
loop-at-smaller-in-Blank c =
    let found = c.in-Some.ensures ∙ ap item_shape c.range_from.ensures.value in
    let some : 0 < c.length.result =
    omega (
      arith,
      goes_on_some c.args.text.now c.loop-at.at c.loop-at.pending c.loop-at.tokens.items
          c.loop-at.comments.items c.in-Some.shape c.loop-at.invariant found,
      c.length.ensures,
    ) in
    omega (arith, c.loop-at-test.true, c.past_blanks-at-in-loop-at.ensures)

pub loop-at-smaller-in-Continue-branch-4 : goal.loop-at-smaller-in-Continue-branch-4
loop-at-smaller-in-Continue-branch-4 c =
    let found = c.in-Some.ensures ∙ ap item_shape c.range_from.ensures.value in
    let some : 0 < c.length.result =
    omega (
      arith,
      goes_on_some c.args.text.now c.loop-at.at c.loop-at.pending c.loop-at.tokens.items
          c.loop-at.comments.items c.in-Some.shape c.loop-at.invariant found,
      c.length.ensures,
    ) in
    omega (arith, c.loop-at-test.true, c.past_blanks-at-in-loop-at.ensures)

pub loop-at-smaller-in-Continue-branch-6 : goal.loop-at-smaller-in-Continue-branch-6
loop-at-smaller-in-Continue-branch-6 c =
    let found = c.in-Some.ensures ∙ ap item_shape c.range_from.ensures.value in
    let some : 0 < c.length.result =
    omega (
      arith,
      goes_on_some c.args.text.now c.loop-at.at c.loop-at.pending c.loop-at.tokens.items
          c.loop-at.comments.items c.in-Some.shape c.loop-at.invariant found,
      c.length.ensures,
    ) in
    omega (arith, c.loop-at-test.true, c.past_blanks-at-in-loop-at.ensures)

pub loop-at-smaller : goal.loop-at-smaller
loop-at-smaller c =
    let found = c.in-Some.ensures ∙ ap item_shape c.range_from.ensures.value in
    let some : 0 < c.length.result =
    omega (
      arith,
      goes_on_some c.args.text.now c.loop-at.at c.loop-at.pending c.loop-at.tokens.items
          c.loop-at.comments.items c.in-Some.shape c.loop-at.invariant found,
      c.length.ensures,
    ) in
    omega (arith, c.loop-at-test.true, c.past_blanks-at-in-loop-at.ensures)

pub loop-at-preserved-in-Blank : goal.loop-at-preserved-in-Blank
loop-at-preserved-in-Blank c =
    let at = c.loop-at.at in
    let shape = Blank c.in-Blank.field-0 in
    let found : Some shape ≡ item_shape (drop at c.args.text.now) = ap Some (sym c.in-Blank.is)
    ∙ c.in-Some.ensures ∙ ap item_shape c.range_from.ensures.value in
    let size : c.length.result ≡ length_of shape =
    c.length.ensures ∙ ap length_of c.in-Blank.is in
    let next =
    goes_on c.args.text.now at c.loop-at.pending c.loop-at.tokens.items c.loop-at.comments.items
    shape c.loop-at.invariant found in
    same_reached c.args.text.now _ _ _ _ _ _ _ _
    (past_blanks c.args.text.now _ _ _ _ next)
    (c.past_blanks-at-in-loop-at.ensures
    ∙ ap (λ l. at + c.length.result + prefix_len is_blank (drop (at + c.length.result) l))
    c.as_bytes-source.ensures.value
    ∙ ap (λ k. at + k + prefix_len is_blank (drop (at + k) c.args.text.now)) size)
    (refl)
    (sym (append-nil c.loop-at.tokens.items))
    (sym (append-nil c.loop-at.comments.items))

pub loop-at-preserved-in-LineEnd : goal.loop-at-preserved-in-LineEnd
loop-at-preserved-in-LineEnd c =
    let at = c.loop-at.at in
    let shape = LineEnd in
    let found : Some shape ≡ item_shape (drop at c.args.text.now) = ap Some (sym c.in-LineEnd.is)
    ∙ c.in-Some.ensures ∙ ap item_shape c.range_from.ensures.value in
    let size : c.length.result ≡ length_of shape =
    c.length.ensures ∙ ap length_of c.in-LineEnd.is in
    let next =
    goes_on c.args.text.now at c.loop-at.pending c.loop-at.tokens.items c.loop-at.comments.items
    shape c.loop-at.invariant found in
    same_reached c.args.text.now _ _ _ _ _ _ _ _
    (past_blanks c.args.text.now _ _ _ _ next)
    (c.past_blanks-at-in-loop-at.ensures
    ∙ ap (λ l. at + c.length.result + prefix_len is_blank (drop (at + c.length.result) l))
    c.as_bytes-source.ensures.value
    ∙ ap (λ k. at + k + prefix_len is_blank (drop (at + k) c.args.text.now)) size)
    (c.in_ok-pending-in-LineEnd.ensures.pending)
    (c.in_ok-pending-in-LineEnd.ensures.tokens)
    (sym (append-nil c.loop-at.comments.items))

pub loop-at-preserved-in-Continue-branch-4 : goal.loop-at-preserved-in-Continue-branch-4
loop-at-preserved-in-Continue-branch-4 c =
    let at = c.loop-at.at in
    let shape = Comment c.in-Comment.field-0 in
    let found : Some shape ≡ item_shape (drop at c.args.text.now) = ap Some (sym c.in-Comment.is)
    ∙ c.in-Some.ensures ∙ ap item_shape c.range_from.ensures.value in
    let size : c.length.result ≡ length_of shape =
    c.length.ensures ∙ ap length_of c.in-Comment.is in
    let next =
    goes_on c.args.text.now at c.loop-at.pending c.loop-at.tokens.items c.loop-at.comments.items
    shape c.loop-at.invariant found in
    same_reached c.args.text.now _ _ _ _ _ _ _ _
    (past_blanks c.args.text.now _ _ _ _ next)
    (c.past_blanks-at-in-loop-at.ensures
    ∙ ap (λ l. at + c.length.result + prefix_len is_blank (drop (at + c.length.result) l))
    c.as_bytes-source.ensures.value
    ∙ ap (λ k. at + k + prefix_len is_blank (drop (at + k) c.args.text.now)) size)
    (c.in_ok-pending-in-Comment.ensures.pending)
    (c.in_ok-pending-in-Comment.ensures.tokens)
    (c.in_ok-push_comment-in-Comment.ensures
    ∙ ap (λ k. c.loop-at.comments.items ++ comment_of false at (at + k) ∷ []) size)

pub loop-at-preserved-in-Continue-branch-6 : goal.loop-at-preserved-in-Continue-branch-6
loop-at-preserved-in-Continue-branch-6 c =
    let at = c.loop-at.at in
    let shape = General c.in-General.field-0 c.in-General.lines in
    let found : Some shape ≡ item_shape (drop at c.args.text.now) = ap Some (sym c.in-General.is)
    ∙ c.in-Some.ensures ∙ ap item_shape c.range_from.ensures.value in
    let size : c.length.result ≡ length_of shape =
    c.length.ensures ∙ ap length_of c.in-General.is in
    let next =
    goes_on c.args.text.now at c.loop-at.pending c.loop-at.tokens.items c.loop-at.comments.items
    shape c.loop-at.invariant found in
    same_reached c.args.text.now _ _ _ _ _ _ _ _
    (past_blanks c.args.text.now _ _ _ _ next)
    (c.past_blanks-at-in-loop-at.ensures
    ∙ ap (λ l. at + c.length.result + prefix_len is_blank (drop (at + c.length.result) l))
    c.as_bytes-source.ensures.value
    ∙ ap (λ k. at + k + prefix_len is_blank (drop (at + k) c.args.text.now)) size)
    (c.in_ok-pending-in-General.ensures.pending)
    (c.in_ok-pending-in-General.ensures.tokens)
    (c.in_ok-push_comment-in-General.ensures
    ∙ ap (λ k. c.loop-at.comments.items ++ comment_of true at (at + k) ∷ []) size)

pub loop-at-preserved : goal.loop-at-preserved
loop-at-preserved c =
    let at = c.loop-at.at in
    let shape = Token c.in-Token.kind c.in-Token.takes c.in-Token.field-2 in
    let found : Some shape ≡ item_shape (drop at c.args.text.now) = ap Some (sym c.in-Token.is)
    ∙ c.in-Some.ensures ∙ ap item_shape c.range_from.ensures.value in
    let size : c.length.result ≡ length_of shape =
    c.length.ensures ∙ ap length_of c.in-Token.is in
    let next =
    goes_on c.args.text.now at c.loop-at.pending c.loop-at.tokens.items c.loop-at.comments.items
    shape c.loop-at.invariant found in
    same_reached c.args.text.now _ _ _ _ _ _ _ _
    (past_blanks c.args.text.now _ _ _ _ next)
    (c.past_blanks-at-in-loop-at.ensures
    ∙ ap (λ l. at + c.length.result + prefix_len is_blank (drop (at + c.length.result) l))
    c.as_bytes-source.ensures.value
    ∙ ap (λ k. at + k + prefix_len is_blank (drop (at + k) c.args.text.now)) size)
    (c.pending_of-pending.ensures ∙ ap (λ k. pending_of c.in-Token.takes (at + k)) size)
    (c.in_ok-push_token-in-Token.ensures
    ∙ ap (λ k. c.loop-at.tokens.items ++ token_of c.in-Token.kind at (at + k) ∷ []) size)
    (sym (append-nil c.loop-at.comments.items))

pub returns-clause-read : goal.returns-clause-read
returns-clause-read c =
    let past : length c.args.text.now ≤ c.loop-at.at =
    omega (arith, c.as_bytes-source.ensures.len) in
    subst (λ l. Reads c.args.text.now l c.loop-at.comments.items)
    (sym c.in_ok-end_line.ensures.tokens)
    (finish c.args.text.now c.loop-at.at c.loop-at.pending c.loop-at.tokens.items
    c.loop-at.comments.items c.utf8.text c.loop-at.invariant.progress past)
