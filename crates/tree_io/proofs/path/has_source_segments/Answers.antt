use Rattle.std.proofs.Common.{Some, None, subst, sym, refl, rules, lit<}
use Rattle.std.proofs.lemmas.Bool.{false≢true}
use Rattle.tree_io.specs.Path.{segments_of}
use Rattle.tree_io.proofs.Segments.{AreSource, AreSource-cons, AreSource-head, AreSource-tail}
use Rattle.tree_io.proofs.Segments.{AreSource-one, length-segments_of, segments_of-split}
use Rattle.tree_io.proofs.path.has_source_segments.Goals as goal

pub returns-then-not-is_source_folder : goal.returns-then-not-is_source_folder
returns-then-not-is_source_folder c =
    let cut = segments_of-split _ (Some (c.in-Some.folder, c.in-Some.after)) c.in-Some.ensures.cases
    in (
      λ wrong. absurd (false≢true wrong),
      λ all. let whole : AreSource (segments_of c.args.path.now) = record
          { plain = all.0; folders = all.1 } in
          let head = AreSource-head _ _ (length-segments_of c.in-Some.after.now)
          (subst AreSource cut.0 (c.loop-folder.invariant.1.0 whole)) in
          c.if-not-is_source_folder.ensures.1 head,
    )

pub loop-folder-preserved : goal.loop-folder-preserved
loop-folder-preserved c =
    let cut = segments_of-split _ (Some (c.in-Some.folder, c.in-Some.after)) c.in-Some.ensures.cases
    in
    let some = length-segments_of c.in-Some.after.now in
    let folder = c.if-not-is_source_folder.ensures.0 refl in (
      search rules,
      (
        λ whole. AreSource-tail _ _ some (subst AreSource cut.0
            (c.loop-folder.invariant.1.0 whole)),
        λ rest. c.loop-folder.invariant.1.1 (subst AreSource (sym cut.0)
            (AreSource-cons _ _ some folder.0 folder.1 rest)),
      ),
    )

pub returns : goal.returns
returns c =
    let cut = segments_of-split _ None c.in_default.ensures.cases in (
      λ yes. let whole = c.loop-folder.invariant.1.1
          (subst AreSource (sym cut) (AreSource-one _ (c.is_plain_segment.ensures.0 yes))) in
          (whole.plain, whole.folders),
      λ all. let whole : AreSource (segments_of c.args.path.now) = record
          { plain = all.0; folders = all.1 } in
          let last = subst AreSource cut (c.loop-folder.invariant.1.0 whole) in
          c.is_plain_segment.ensures.1 (last.plain 0 c.loop-folder.rest.now (lit< tt)),
    )
