use Rattle.std.proofs.Common.{◌+◌, ◌∷◌, [], ◌++◌, ◌∙◌, ap, sym, arith, append_assoc}
use Rattle.std.specs.Vec.Iter.{into_iter_items}
use Rattle.corpus.specs.Snapshots.{bytes_of}
use Rattle.tree_io.proofs.Laws.{IsReadSoFar-append}
use Rattle.godoc_commands.proofs.Scanning.{bytes_of-push, known_between, pass_here}
use Rattle.godoc_commands.proofs.scan.read_files.Goals as goal

pub read_entry-requires : goal.read_entry-requires
read_entry-requires g c =
    let kept = c.loop-path.invariant in
    let cut = ap (λ l. c.loop-path.yielded ++ l) (sym c.in-Some.ensures.steps.0) ∙ kept.all in
    rw (c.as_str.ensures.text, kept.same_scans)
    (known_between _ c.args.paths c.loop-path.yielded c.in-Some.path
    (into_iter_items c.next.new.self) cut c.requires)

pub returns-then-bytes-gt-MAX_SCAN_BYTES-clause-refused :
    goal.returns-then-bytes-gt-MAX_SCAN_BYTES-clause-refused
returns-then-bytes-gt-MAX_SCAN_BYTES-clause-refused g c =
    let kept = c.loop-path.invariant in
    let path = c.in-Some.path in
    let entry = c.in_ok-entry.entry in
    let sources = c.loop-path.sources in
    let cut = ap (λ l. c.loop-path.yielded ++ l) (sym c.in-Some.ensures.steps.0) ∙ kept.all in
    let read = IsReadSoFar-append _ c.loop-path.yielded (path ∷ []) sources ((path, entry) ∷ []) _
    _ _ kept.read (rw (c.as_str.ensures.text, kept.same_scans) at c.in_ok-entry.ensures.read) in
    pass_here _ c.args.paths c.loop-path.yielded path (into_iter_items c.next.new.self) sources
    entry _ _ _ cut read (rw (sym kept.bytes_are) kept.within)
    ((λ j. kept.bytes_are j + c.entry_size-bytes.ensures j)
    ∙ sym (bytes_of-push sources path entry))
    (omega arith)

pub loop-path-preserved : goal.loop-path-preserved
loop-path-preserved g c =
    let kept = c.loop-path.invariant in
    let path = c.in-Some.path in
    let entry = c.in_ok-entry.entry in
    let ends = c.in_ok-entry.ensures in
    let sources = c.loop-path.sources in
    let rest = into_iter_items c.next.new.self in
    let cut = ap (λ l. c.loop-path.yielded ++ l) (sym c.in-Some.ensures.steps.0) ∙ kept.all in
    let pushed = c.in_ok-push.ensures.ok in record {
      all = append_assoc c.loop-path.yielded (path ∷ []) rest ∙ cut;
      read = rw pushed
          (IsReadSoFar-append _ c.loop-path.yielded (path ∷ []) sources ((path, entry) ∷ []) _ _ _
          kept.read (rw (c.as_str.ensures.text, kept.same_scans) at ends.read));
      bytes_are =
          (λ j. kept.bytes_are j + c.entry_size-bytes.ensures j)
          ∙ sym (bytes_of-push sources path entry)
          ∙ ap bytes_of (sym pushed);
      within = omega arith;
      later = omega (arith, ends.cause.later, kept.later);
      same_scans = cc (ends.same_scans, kept.same_scans);
      same_list_faults = cc (ends.same_list_faults, kept.same_list_faults);
    }
