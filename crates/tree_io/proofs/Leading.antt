-- Which names of folders lead to paths that belong.
use Rattle.std.proofs.Common.{◌≡◌, ◌≢◌, ℕ, ◌+◌, ◌-◌, ◌≤◌, ◌==◌, ◌↔◌, false, List, [], ◌∷◌, ◌++◌}
use Rattle.std.proofs.Common.{length, length-append, All, codes, refl, sym, subst, arith}
use Rattle.std.specs.Prelude.{IsTrue, nat_eq}
use Rattle.std.specs.List.{ends_with}
use Rattle.std.proofs.lemmas.List.Elements.{All-nil, All-cons, All-append, All-take, All-weaker}
use Rattle.std.proofs.lemmas.List.Splits.{slice_split_at}
use Rattle.std.proofs.lemmas.Bool.{ne_eqb}
use Rattle.std.proofs.Math.Seq.{drop-append-add, take-append_seam}
use Rattle.tree_io.specs.Path.{Belongs, IsPathByte, IsPlainSegment, MayLead, path_limit}
use Rattle.tree_io.specs.Path.{segments_of, slash}
use Rattle.tree_io.proofs.Segments.{AreSource, AreSource-cons, AreSource-head, AreSource-one}
use Rattle.tree_io.proofs.Segments.{length-segments_of}

abbrev file : List ℕ
file = 97 ∷ 46 ∷ 103 ∷ 111 ∷ []

no_slash : (b : ℕ) → b ≢ slash → (b == slash) ≡ false
no_slash b other = ne_eqb b slash other

segments_below : (name rest : List ℕ) → All (λ b. b ≢ slash) name
    → segments_of (name ++ slash ∷ rest) ≡ name ∷ segments_of rest
segments_below name rest none =
    slice_split_at (λ b. b == 47) name 47 rest
    (All-weaker (λ b. b ≢ slash) (λ b. (b == 47) ≡ false) no_slash name none) refl

plain_file : IsPlainSegment file
plain_file = record {
  not_empty = omega arith;
  no_dot = λ e. absurd (omega (arith, e));
  no_underscore = λ e. absurd (omega (arith, e));
}

path_bytes : All IsPathByte (slash ∷ file)
path_bytes =
    All-cons IsPathByte 47 (97 ∷ 46 ∷ 103 ∷ 111 ∷ []) (omega arith, λ e. absurd (omega (arith, e)))
    (All-cons IsPathByte 97 (46 ∷ 103 ∷ 111 ∷ []) (omega arith, λ e. absurd (omega (arith, e)))
    (All-cons IsPathByte 46 (103 ∷ 111 ∷ []) (omega arith, λ e. absurd (omega (arith, e)))
    (All-cons IsPathByte 103 (111 ∷ []) (omega arith, λ e. absurd (omega (arith, e)))
    (All-cons IsPathByte 111 [] (omega arith, λ e. absurd (omega (arith, e)))
    (All-nil IsPathByte)))))

go_suffix : (name : List ℕ) → IsTrue (ends_with nat_eq (name ++ slash ∷ file) (codes ".go"))
go_suffix name =
    let place : length (name ++ 47 ∷ 97 ∷ 46 ∷ 103 ∷ 111 ∷ []) - 3
    ≡ length name + 2 = omega (arith, length-append name (47 ∷ 97 ∷ 46 ∷ 103 ∷ 111 ∷ [])) in
    rw (place, drop-append-add name (47 ∷ 97 ∷ 46 ∷ 103 ∷ 111 ∷ []) 2) refl

belongs_below : (name : List ℕ) → All (λ b. b ≢ slash) name → length name + 5 ≤ path_limit
    → MayLead name → Belongs (name ++ slash ∷ file)
belongs_below name none short leads =
    let one : segments_of file ≡ file ∷ [] = refl in
    let all : AreSource (name ∷ segments_of file) =
    AreSource-cons name (segments_of file) (length-segments_of file) leads.plain leads.source_folder
    (subst AreSource (sym one) (AreSource-one file plain_file)) in
    let whole : AreSource (segments_of (name ++ slash ∷ file)) = subst AreSource
    (sym (segments_below name file none)) all in
    record {
      go_file = go_suffix name;
      short = omega (arith, length-append name (slash ∷ file));
      printable = All-append IsPathByte name (slash ∷ file) leads.printable path_bytes;
      segments = whole.plain;
      folders = whole.folders;
    }

leads_above : (name rest : List ℕ) → All (λ b. b ≢ slash) name → Belongs (name ++ slash ∷ rest)
    → MayLead name
leads_above name rest none belongs =
    let whole : AreSource (segments_of (name ++ slash ∷ rest)) = record
    { plain = belongs.segments; folders = belongs.folders } in
    let all = subst AreSource (segments_below name rest none) whole in
    let first = AreSource-head name (segments_of rest) (length-segments_of rest) all in
    record {
      plain = first.0;
      source_folder = first.1;
      printable = subst (All IsPathByte) (take-append_seam name (slash ∷ rest))
          (All-take IsPathByte (length name) (name ++ slash ∷ rest) belongs.printable);
    }

pub names_that_lead : (name : List ℕ) → All (λ b. b ≢ slash) name
    → length name + length (codes "/a.go") ≤ path_limit
    → (MayLead name ↔ ((rest : List ℕ) × Belongs (name ++ slash ∷ rest)))
names_that_lead name none short = (
  λ leads. (file, belongs_below name none short leads),
  λ below.
      leads_above name below.0 none below.1,
)
