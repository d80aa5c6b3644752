use Rattle.std.proofs.Common.{rules, ◌≡◌, ◌<◌, ◌≤◌, length, true, false, arith, ◌∙◌, sym, get_or}
use Rattle.std.proofs.Common.{subst}
use Rattle.std.proofs.lemmas.Bool.Decides.{nat_tests}
use Rattle.std.specs.Str.{bytes_eq}
use Rattle.std.specs.List.Sorted.{IsPartitionPoint}
use Rattle.std.proofs.lemmas.List.Sorted.{IsPartitionPoint-from_clause}
use Rattle.doc_order.proofs.NameLemmas.{below, names_parted, slot-found, slot-none, slot-past}
use Rattle.doc_order.proofs.names.slot_of.Goals as goal

pub returns-in-Some : goal.returns-in-Some
returns-in-Some c =
    let point : IsPartitionPoint (λ y. below c.args.name.now y ≡ true)
    (λ y. below c.args.name.now y ≡ false) c.args.names.now c.partition_point-place.result =
    IsPartitionPoint-from_clause (below c.args.name.now) _ _
    c.partition_point-place.ensures.partitioned
    (names_parted c.args.name.now c.args.names.now c.requires) (λ a r q k. search rules) in
    let within : c.partition_point-place.result < length c.args.names.now =
    grind (arith, nat_tests, c.in-Some.ensures.lookup.0) in
    let same : bytes_eq (get_or c.args.names.now c.partition_point-place.result
    c.in-Some.other.now).now c.args.name.now ≡ true =
    rw (← c.in-Some.ensures.lookup.1) (sym c.eq.ensures ∙ c.if-eq.true) in
    sym (slot-found c.args.name.now c.args.names.now c.partition_point-place.result
    c.in-Some.other.now within same point.0)

pub returns-in_default : goal.returns-in_default
returns-in_default c =
    let point : IsPartitionPoint (λ y. below c.args.name.now y ≡ true)
    (λ y. below c.args.name.now y ≡ false) c.args.names.now c.partition_point-place.result =
    IsPartitionPoint-from_clause (below c.args.name.now) _ _
    c.partition_point-place.ensures.partitioned
    (names_parted c.args.name.now c.args.names.now c.requires) (λ a r q k. search rules) in
    let within : c.partition_point-place.result < length c.args.names.now =
    grind (arith, nat_tests, c.in-Some.ensures.lookup.0) in
    let unlike : bytes_eq (get_or c.args.names.now c.partition_point-place.result
    c.in-Some.other.now).now c.args.name.now ≡ false =
    rw (← c.in-Some.ensures.lookup.1) (sym c.eq.ensures ∙ c.if-eq.false) in
    sym (slot-none c.args.name.now c.args.names.now c.partition_point-place.result c.requires
    c.in-Some.other.now within unlike point)

pub returns-in_default-2 : goal.returns-in_default-2
returns-in_default-2 c =
    let point : IsPartitionPoint (λ y. below c.args.name.now y ≡ true)
    (λ y. below c.args.name.now y ≡ false) c.args.names.now c.partition_point-place.result =
    IsPartitionPoint-from_clause (below c.args.name.now) _ _
    c.partition_point-place.ensures.partitioned
    (names_parted c.args.name.now c.args.names.now c.requires) (λ a r q k. search rules) in
    let past : length c.args.names.now ≤ c.partition_point-place.result =
    grind (arith, nat_tests, c.get.ensures.lookup.0, c.in_default.is) in
    sym (slot-past c.args.name.now c.args.names.now c.partition_point-place.result past point.0)
