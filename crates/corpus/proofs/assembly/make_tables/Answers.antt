use Rattle.std.proofs.Common.{◌∙◌, ap, map, sym, subst}
use Rattle.go_ast.specs.declared.config.Config.{Config}
use Rattle.package_group.specs.Groups.{IsGrouping}
use Rattle.corpus.specs.Corpora.{fact_of}
use Rattle.corpus.specs.Steps.{AreBeside, seen}
use Rattle.corpus.proofs.Assembling.{belong, borrowed_beside, few, have_hits, have_names}
use Rattle.corpus.proofs.Assembling.{have_places, is_corpus, others_places}
use Rattle.corpus.proofs.assembly.make_tables.Goals as goal

pub group_files-requires-clause-few : goal.group_files-requires-clause-few
group_files-requires-clause-few c =
    let same = ap (map seen) c.as_slice-files.ensures.value ∙ c.in_ok-files.ensures.accepted in
    few c.args.snapshot.now c.args.pieces.now c.requires c.as_slice-files.result.now same
    c.in_ok-files.ensures.valid

pub group_files-requires-clause-belong : goal.group_files-requires-clause-belong
group_files-requires-clause-belong c =
    let same = ap (map seen) c.as_slice-files.ensures.value ∙ c.in_ok-files.ensures.accepted in
    belong c.args.snapshot.now c.args.pieces.now c.requires c.as_slice-files.result.now same
    c.in_ok-files.ensures.valid

pub group_files-requires-clause-names : goal.group_files-requires-clause-names
group_files-requires-clause-names c =
    let same = ap (map seen) c.as_slice-files.ensures.value ∙ c.in_ok-files.ensures.accepted in
    have_names c.args.pieces.now c.as_slice-files.result.now same c.in_ok-files.ensures.judged

pub numbers_of-beside-requires : goal.numbers_of-beside-requires
numbers_of-beside-requires c =
    let same = ap (map seen) c.as_slice-files.ensures.value ∙ c.in_ok-files.ensures.accepted in
    others_places c.args.pieces.now c.as_slice-files.result.now same c.as_str-prefix.result.now
    c.in_ok-packages.field-0 c.in_ok-packages.ensures

pub packages_of-requires : goal.packages_of-requires
packages_of-requires c =
    let same = ap (map seen) c.as_slice-files.ensures.value ∙ c.in_ok-files.ensures.accepted in
    have_places c.args.pieces.now c.as_slice-files.result.now same c.as_str-prefix.result.now
    c.in_ok-packages.field-0 c.in_ok-packages.ensures

pub faults_of-requires-clause-beside : goal.faults_of-requires-clause-beside
faults_of-requires-clause-beside c =
    let same = ap (map seen) c.as_slice-files.ensures.value ∙ c.in_ok-files.ensures.accepted in
    subst (AreBeside c.args.pieces.now) (sym (c.as_slice-beside.ensures ∙
    c.numbers_of-beside.ensures))
    (borrowed_beside c.args.snapshot.now c.args.pieces.now c.as_slice-files.result.now
    c.as_str-prefix.result.now c.in_ok-packages.field-0 c.requires same
    c.in_ok-packages.ensures)

pub index_of-requires-clause-rising : goal.index_of-requires-clause-rising
index_of-requires-clause-rising c =
    let same = ap (map seen) c.as_slice-files.ensures.value ∙ c.in_ok-files.ensures.accepted in
    (subst (AreBeside c.args.pieces.now) (sym (c.as_slice-beside.ensures ∙
    c.numbers_of-beside.ensures))
    (borrowed_beside c.args.snapshot.now c.args.pieces.now c.as_slice-files.result.now
    c.as_str-prefix.result.now c.in_ok-packages.field-0 c.requires same
    c.in_ok-packages.ensures)).rising

pub index_of-requires-clause-names : goal.index_of-requires-clause-names
index_of-requires-clause-names c =
    let same = ap (map seen) c.as_slice-files.ensures.value ∙ c.in_ok-files.ensures.accepted in
    have_hits c.args.pieces.now c.as_slice-files.result.now same c.in_ok-files.ensures.judged

pub returns : goal.returns
returns c =
    let same = ap (map seen) c.as_slice-files.ensures.value ∙ c.in_ok-files.ensures.accepted in
    let beside = subst (AreBeside c.args.pieces.now)
    (sym (c.as_slice-beside.ensures ∙ c.numbers_of-beside.ensures))
    (borrowed_beside c.args.snapshot.now c.args.pieces.now c.as_slice-files.result.now
    c.as_str-prefix.result.now c.in_ok-packages.field-0 c.requires same
    c.in_ok-packages.ensures) in
    record {
      sources = c.in_ok-files.ensures.valid;
      tables =
          is_corpus c.args.snapshot.now c.args.pieces.now c.as_slice-files.result.now
          c.in_ok-packages.field-0 c.as_slice-beside.result.now
          c.in_ok-packages_of.field-0 c.in_ok-faults_of.field-0 c.in_ok-index_of.field-0 c.requires
          c.in_ok-files.ensures.judged same
          (subst (λ prefix. IsGrouping prefix
          (map (λ file. fact_of (seen file)) c.as_slice-files.result.now)
          c.in_ok-packages.field-0)
          (c.as_str-prefix.ensures.text ∙ ap (λ (config : Config). config.prefix) c.config.ensures)
          c.in_ok-packages.ensures)
          beside c.in_ok-packages_of.ensures c.in_ok-faults_of.ensures c.in_ok-index_of.ensures;
    }
