use Rattle.std.proofs.Common.{◌≡◌, ◌<◌, List, ℕ, get_or, ◌∙◌, ap, subst, arith}
use Rattle.std.specs.List.{prefix_len}
use Rattle.std.proofs.lemmas.Bool.Decides.{nat_tests}
use Rattle.go_scanner.specs.Classes.{is_word_byte}
use Rattle.go_scanner.proofs.Words.{ascii_word}
use Rattle.go_scanner.proofs.word.word_length.Goals.{}
use Rattle.go_scanner.proofs.word.word_length.Goals.{else-end-bytes-via-then-end-bytes+else-not-is_ascii}
use Rattle.go_scanner.proofs.word.word_length.Goals.{else-end-bytes-via-else-end-bytes}
use Rattle.go_scanner.proofs.word.word_length.Goals as goal

pub returns-else-end-bytes : goal.returns-else-end-bytes
returns-else-end-bytes c =
    let text = c.args.text.now in
    let found : c.ascii_length-end.result ≡ prefix_len is_word_byte text =
    c.ascii_length-end.ensures ∙ ap (prefix_len is_word_byte) c.as_bytes-bytes.ensures.value in
    elim c.else-end-bytes.branch [
      | else-end-bytes-via-then-end-bytes+else-not-is_ascii w ↦
          let P : List ℕ → Type 0 = λ l. get_or l c.ascii_length-end.result 0 < 128 in
          let low = subst P c.as_bytes-bytes.ensures.value
          (grind (arith, nat_tests, w.is_ascii.ensures, w.if-not-is_ascii)) in
          ascii_word text c.utf8.text c.ascii_length-end.result found (λ within. low)
      | else-end-bytes-via-else-end-bytes w ↦
          ascii_word text c.utf8.text c.ascii_length-end.result found
          (λ within. omega (arith, w.if-end-bytes, c.as_bytes-bytes.ensures.len))
    ]
