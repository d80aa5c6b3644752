use Rattle.std.proofs.Common.{◌≡◌, ◌+◌, ℕ, List, [], ◌∷◌, ◌++◌, take, sym, subst, refl, ap, ◌∙◌}
use Rattle.std.proofs.lemmas.List.{take_more}
use Rattle.tree_io.specs.Scans.{IsKnown, IsListed, IsReadAs}
use Rattle.tree_io.proofs.Reading.{IsKnown-listed, IsReadAs-same, IsReadSoFar-read}
use Rattle.tree_io.proofs.Reading.{IsReadSoFar-failed}
use Rattle.tests_data.proofs.trees.scan.Goals as goal
use Rattle.tests_data.proofs.trees.scan.Goals.{in-Ok, in-Err-Failed}

pub read-requires : goal.read-requires
read-requires g c =
    let scans = g.T.Tree.scans c.list.new.self in
    let now = g.T.Tree.scans c.loop-path.tree in
    let listed : IsListed scans c.as_slice-path-items.result.now = rw
    (c.as_slice-path-items.ensures, c.in_ok-paths.ensures.same_scans) c.in_ok-paths.ensures.told
    in
    subst (IsKnown now) (sym c.as_str.ensures.text)
    (IsKnown-listed scans now _ _ c.path-item.result c.loop-path.invariant.same_scans listed
    c.loop-path-test.true c.path-item.is)

pub loop-path-preserved : goal.loop-path-preserved
loop-path-preserved g c =
    let scans = g.T.Tree.scans c.list.new.self in
    let now = g.T.Tree.scans c.loop-path.tree in
    let items = c.as_slice-path-items.result.now in
    let i = c.loop-path.path-index in
    let path = c.path-item.result in
    let listed : IsListed scans items = rw (
      c.as_slice-path-items.ensures,
      c.in_ok-paths.ensures.same_scans,
    ) c.in_ok-paths.ensures.told in
    let known : IsKnown scans path = IsKnown-listed scans scans items i path refl listed
    c.loop-path-test.true c.path-item.is in
    let paths : take (i + 1) items ≡ take i items ++ path ∷ [] = take_more items i path
    c.loop-path-test.true ∙ ap (λ (p : List ℕ). take i items ++ p ∷ []) (sym c.path-item.is) in
    let sources : c.push.new.self ≡ c.loop-path.sources ++ (path, c.match-read.entry) ∷ [] =
    c.in_ok-push.ensures.ok ∙ ap (λ (p : List ℕ). c.loop-path.sources ++ (p, c.match-read.entry) ∷
    []) (c.in_ok-from_str.ensures ∙ c.as_str-in-loop-path.ensures.text) in
    record {
      same_scans = c.read.ensures.same_scans ∙ c.loop-path.invariant.same_scans;
      so_far = rw (paths, sources) (elim c.match-read.branch [
        | in-Ok w ↦
            let told = subst (λ (p : List ℕ). IsReadAs now p w.in-Ok.entry) c.as_str.ensures.text
            w.in-Ok.ensures.told in
            rw w.entry-is (IsReadSoFar-read scans _ _ _ _ _ path w.in-Ok.entry
            c.loop-path.invariant.so_far w.in-Ok.ensures.cause.kept known
            w.in-Ok.ensures.readable
            (IsReadAs-same scans now path w.in-Ok.entry c.loop-path.invariant.same_scans told))
        | in-Err-Failed w ↦ rw w.entry-is (IsReadSoFar-failed scans _ _ _ _ _ path
            c.loop-path.invariant.so_far (w.in-Err-Failed.ensures.cause.failed (cc)))
      ]);
    }
