use Rattle.doc_order.specs.Documentation.{type_of}
use Rattle.doc_order.proofs.LawLemmas.{methods_under_types, stands_once, stands_somewhere}
use Rattle.doc_order.proofs.LawLemmas.{type_is_listed}
use Rattle.doc_order.proofs.laws.shown_members_stand_in_one_list.Goals as goal

pub returns : goal.returns
returns c =
    let types = type_of c.args.members.now in
    record {
      somewhere = stands_somewhere types c.args.member.now;
      once = stands_once types c.args.member.now;
      methods = methods_under_types types c.args.member.now;
      listed = type_is_listed c.args.members.now c.args.member.now;
    }
