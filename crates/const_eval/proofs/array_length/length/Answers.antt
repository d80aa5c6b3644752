use Rattle.std.proofs.Common.{◌≡◌, ◌∙◌, sym, ap}
use Rattle.std.specs.BTreeMap.{get_by_text}
use Rattle.std.specs.Str.Lossy.{utf8_lossy}
use Rattle.const_eval.specs.Lengths.{texts_of, tokens_in, joined}
use Rattle.const_eval.specs.Progress.{natural, run_value}
use Rattle.const_eval.proofs.Finding.{length_known, length_none}
use Rattle.const_eval.proofs.array_length.length.Goals as goal

pub returns-in-Some : goal.returns-in-Some
returns-in-Some c =
    let e : c.tokens_in-tokens.result.now ≡ tokens_in c.args.run c.args.scanned.now.tokens
    = c.tokens_in-tokens.ensures ∙ ap (tokens_in c.args.run) c.as_slice.ensures in
    length_known (get_by_text c.args.consts.now.values)
    (texts_of c.args.source.now (tokens_in c.args.run c.args.scanned.now.tokens))
    c.in-Some.number
    (ap (λ t. natural
    (run_value (get_by_text c.args.consts.now.values) (texts_of c.args.source.now t))) (sym e)
    ∙ ap natural (sym c.in_ok-found.ensures) ∙ sym c.natural.ensures ∙ c.in-Some.is)

pub returns-in_ok-text-in-None : goal.returns-in_ok-text-in-None
returns-in_ok-text-in-None c =
    let e : c.tokens_in-tokens.result.now ≡ tokens_in c.args.run c.args.scanned.now.tokens
    = c.tokens_in-tokens.ensures ∙ ap (tokens_in c.args.run) c.as_slice.ensures in (
      length_none (get_by_text c.args.consts.now.values)
          (texts_of c.args.source.now (tokens_in c.args.run c.args.scanned.now.tokens))
          (ap (λ t. natural
          (run_value (get_by_text c.args.consts.now.values) (texts_of c.args.source.now t)))
          (sym e)
          ∙ ap natural (sym c.in_ok-found.ensures) ∙ sym c.natural.ensures ∙ c.in-None.is),
      c.from_string.ensures ∙ c.in_ok-text-in-None.ensures.lossy
          ∙ ap utf8_lossy (c.as_slice-in-None.ensures.value ∙ c.in_ok-bytes-in-None.ensures)
          ∙ ap (λ t. utf8_lossy (joined (texts_of c.args.source.now t))) e,
    )
