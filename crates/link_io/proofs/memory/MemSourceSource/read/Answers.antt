-- A read leaves the bytes and the cuts after those that it moved.
use Rattle.std.proofs.Common.{rules, ◌≡◌, ◌∷◌, length, drop, min, sym, subst}
use Rattle.std.proofs.lemmas.List.{length-drop}
use Rattle.std.specs.List.{fold}
use Rattle.link_io.specs.Memory.{IsLeastOf, cuts_after}
use Rattle.link_io.proofs.LeastLemmas.{fold_least, least_with}
use Rattle.link_io.proofs.Stops.{cuts_after-more, drop-more}
use Rattle.link_io.proofs.memory.MemSourceSource.read.Goals as goal

pub returns-clause-reads : goal.returns-clause-reads
returns-clause-reads c =
    let bytes = c.self.inside.bytes.items in
    let position = c.self.inside.position in
    let n = c.move_bytes-count.result in
    let room = length c.args.buf.now in
    let left = length (drop position bytes) in
    let stops = cuts_after position c.self.inside.cuts.items in
    let counted = length-drop position bytes in
    let known : n ≡ min room (fold min left stops) = search (rules, counted) in
    let least : IsLeastOf (room ∷ left ∷ stops) n =
    subst (IsLeastOf (room ∷ left ∷ stops)) (sym known)
    (least_with room _ (fold min left stops) (fold_least stops left)) in
    let rest = drop-more bytes position n in
    let cuts = cuts_after-more c.self.inside.cuts.items position n in
    record {
      fails = search rules;
      count = search (rules, least);
      moved = search rules;
      ok = search (rules, rest, cuts);
      err = search rules;
      same_buffer = search rules;
    }
