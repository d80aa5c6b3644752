use Rattle.std.proofs.Common.{◌<◌, length, refl, sym, ap, ◌∙◌, arith}
use Rattle.std.specs.List.{slice_get}
use Rattle.std.proofs.lemmas.Option.{slice_get_read}
use Rattle.corpus.specs.Corpora.{Edition}
use Rattle.corpus.proofs.Inputs.{length-files}
use Rattle.corpus.proofs.corpus.Corpus.piece.Goals as goal

pub bounds-as_slice-number : goal.bounds-as_slice-number
bounds-as_slice-number c =
    let sources = ap (λ (e : Edition). length e.sources.entries) c.self.view_is in
    omega (
      arith,
      length-files c.self.inside.snapshot c.self.inside.tables.files
          c.self.invariant.tables.files,
      ap length c.as_slice.ensures,
      sources,
      c.requires,
    )

pub returns : goal.returns
returns c =
    let sources = ap (λ (e : Edition). length e.sources.entries) c.self.view_is in
    let within : c.args.number < length c.as_slice.result.now =
    omega (
      arith,
      length-files c.self.inside.snapshot c.self.inside.tables.files
          c.self.invariant.tables.files,
      ap length c.as_slice.ensures,
      sources,
      c.requires,
    ) in
    ap (λ l. slice_get l c.args.number) (sym (c.as_slice.ensures ∙ ap
    (λ (e : Edition). e.tables.files) c.self.view_is))
    ∙ slice_get_read c.as_slice.result.now (length c.as_slice.result.now) c.args.number
    c.index-as_slice-number.result refl within c.index-as_slice-number.is
