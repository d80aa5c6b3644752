use Rattle.std.proofs.Common.{◌≡◌, ◌∙◌, ap, sym, subst, inl, inr, length, List, ◌||◌, rules}
use Rattle.publication.specs.View.{StartsWith}
use Rattle.publication.specs.Chronicle.{IsOpen}
use Rattle.publication.proofs.Logs.{begins_of, starts_then}
use Rattle.publication.proofs.Joining.{Meet, Longer, longer_mine, longer_other, longer_mine_last, longer_other_last, longer_last, longer_begins, longer_unclosed, longer_number}
use Rattle.publication.proofs.knowledge.joined.Goals as goal
use Rattle.publication.proofs.knowledge.joined.Goals.{then-mine-other, else-mine-other, then-mine, else-mine, Joined-mine}

meet : (g : _) (c : Joined-mine g) → Meet c.args.mine.now c.args.other.now c.learn.new.self.log
meet g c = record {
  mine_told = c.requires.mine;
  other_told = c.requires.other;
  mine_all = subst (λ (l : List _). StartsWith c.learn.new.self.log l)
      (ap (λ s. s.log) c.again-all.ensures) (begins_of _ _ c.learn.ensures.2);
  other_all = begins_of _ _ c.learn.ensures.3;
  settled = c.learn.ensures.4.1.settled;
}

longer : (g : _) (c : Joined-mine g) → Longer c.args.mine.now c.args.other.now c.again-2.result.log
    c.if-mine-other.longer.now.number
longer g c =
    elim c.if-mine-other.branch [
      | then-mine-other w ↦ inl (
        w.if-mine-other.true,
        ap (λ s. s.log) c.again-2.ensures
            ∙ ap (λ k. k.now.told.log) w.longer-is,
        ap (λ k. k.now.number) w.longer-is,
      )
      | else-mine-other w ↦ inr (
        w.if-mine-other.false,
        ap (λ s. s.log) c.again-2.ensures
            ∙ ap (λ k. k.now.told.log) w.longer-is,
        ap (λ k. k.now.number) w.longer-is,
      )
    ]

books : (g : _) (c : Joined-mine g) → c.again-2.result.book ≡ c.args.mine.now.origin.book
books g c =
    elim c.if-mine-other.branch [
      | then-mine-other w ↦ ap (λ s. s.book) c.again-2.ensures ∙ ap (λ k. k.now.told.book)
          w.longer-is ∙ c.requires.other.told_book ∙ c.requires.same
      | else-mine-other w ↦ ap (λ s. s.book) c.again-2.ensures ∙ ap (λ k. k.now.told.book)
          w.longer-is ∙ c.requires.mine.told_book
    ]

closed : (g : _) (c : Joined-mine g) → c.if-mine.result
    ≡ (c.args.mine.now.closed || c.args.other.now.closed)
closed g c = search rules

pub returns-clause-told : goal.returns-clause-told
returns-clause-told g c =
    let m = meet g c in
    let l = longer g c in
    let log = c.again-2.result.log in
    let number = c.if-mine-other.longer.now.number in
    let all = c.learn.new.self.log in
    let origin = c.again.ensures in
    let mine = longer_mine c.args.mine.now c.args.other.now all log number m l in record {
      told_book = books g c ∙ ap (λ s. s.book) (sym origin);
      all_book = c.learn.ensures.0 ∙ ap (λ s. s.book) c.again-all.ensures ∙ c.requires.mine.all_book
          ∙ ap (λ s. s.book) (sym origin);
      one = ap (λ s. length s.log) origin ∙ c.requires.mine.one;
      first = subst (λ s. IsOpen s.log) (sym origin) c.requires.mine.first;
      number = longer_number c.args.mine.now c.args.other.now all log number m l;
      informed = subst (λ s. StartsWith log s.log) (sym origin)
          (starts_then c.args.mine.now.origin.log c.args.mine.now.told.log log
          c.requires.mine.informed mine);
      unclosed = longer_unclosed c.args.mine.now c.args.other.now all log number m l;
      begins = longer_begins c.args.mine.now c.args.other.now all log number m l;
      last = λ h. longer_last c.args.mine.now c.args.other.now all log number m l (sym (closed g c)
          ∙ h);
    }

pub returns-clause-kept : goal.returns-clause-kept
returns-clause-kept g c = (meet g c).mine_all

pub returns-clause-mine : goal.returns-clause-mine
returns-clause-mine g c = longer_mine c.args.mine.now c.args.other.now c.learn.new.self.log
    c.again-2.result.log _ (meet g c) (longer g c)

pub returns-clause-other : goal.returns-clause-other
returns-clause-other g c = longer_other c.args.mine.now c.args.other.now c.learn.new.self.log
    c.again-2.result.log _ (meet g c) (longer g c)

pub returns-clause-mine_last : goal.returns-clause-mine_last
returns-clause-mine_last g c = longer_mine_last c.args.mine.now c.args.other.now
    c.learn.new.self.log c.again-2.result.log _ (meet g c) (longer g c)

pub returns-clause-other_last : goal.returns-clause-other_last
returns-clause-other_last g c = longer_other_last c.args.mine.now c.args.other.now
    c.learn.new.self.log c.again-2.result.log _ (meet g c) (longer g c)
