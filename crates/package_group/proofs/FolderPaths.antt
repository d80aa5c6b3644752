-- The folders of files that belong, and the paths of the packages in them.
use Rattle.std.proofs.Common.{◌≡◌, ℕ, zero, suc, ◌+◌, ◌<◌, false, List, [], ◌∷◌, ◌++◌, length, take}
use Rattle.std.proofs.Common.{drop, Option, Some, None, All, refl, sym, ap, subst, ◌∙◌, arith}
use Rattle.std.proofs.Common.{ne_eqb, length-append}
use Rattle.std.specs.Prelude.{option_map, ◌==◌}
use Rattle.std.specs.List.{onto_first}
use Rattle.std.specs.Option.{option_map_or}
use Rattle.std.specs.Path.{rfind_below, rsplit_once}
use Rattle.std.specs.Str.{bytes_eq}
use Rattle.std.proofs.lemmas.Bool.{cond-false}
use Rattle.std.proofs.lemmas.Bool.Decides.{same_from_decides}
use Rattle.std.proofs.lemmas.List.{append_cancel_left}
use Rattle.std.proofs.lemmas.List.Elements.{All-head}
use Rattle.std.proofs.lemmas.List.Splits.{slice_split-cons_no}
use Rattle.std.proofs.lemmas.Slice.Eq.{bytes_eq-Decides}
use Rattle.tree_io.specs.Path.{Belongs, IsPlainSegment, segments_of}
use Rattle.package_group.specs.Groups.{folder_of, folder_path, import_path}

-- a folder that hasn't the name that the root's package has without a prefix
abbrev pub IsNamed : List ℕ → Type 0
IsNamed folder = folder ≡ 95 ∷ [] → ⊥

first_segment : (x : ℕ) (parts : List (List ℕ)) → All IsPlainSegment (onto_first x parts) → x ≡ 95
    → ⊥
first_segment x [] plain same = (All-head IsPlainSegment (x ∷ []) [] plain).no_underscore same
first_segment x (part ∷ parts) plain same = (All-head IsPlainSegment (x ∷ part) parts
    plain).no_underscore same

first_byte : (x : ℕ) (path : List ℕ) → All IsPlainSegment (segments_of (x ∷ path)) → x ≡ 95 → ⊥
first_byte x path plain same =
    let other : (x == 47) ≡ false = ne_eqb x 47 (λ e. omega arith) in
    first_segment x (segments_of path) (subst (All IsPlainSegment)
    (slice_split-cons_no (λ b. b == 47) x path other) plain) same

front_named : (path : List ℕ) (o : Option ℕ) → All IsPlainSegment (segments_of path)
    → IsNamed (option_map_or {T = List ℕ × List ℕ} (λ split. split.0)
    (option_map (λ i. (take i path, drop (i + 1) path)) o) [])
front_named path None plain same = cc
front_named [] (Some zero) plain same = cc
front_named [] (Some (suc i)) plain same = cc
front_named (x ∷ path) (Some zero) plain same = cc
front_named (x ∷ path) (Some (suc i)) plain same = first_byte x path plain (cc)

-- no folder of a file that belongs has that name
pub named : (path : List ℕ) → Belongs path → IsNamed (folder_of path)
unfolding rsplit_once
named path belongs = front_named path (rfind_below 47 path (length path)) belongs.segments

at_root : (prefix : List ℕ) → 0 < length prefix → import_path prefix [] ≡ prefix
at_root prefix some = cond-false _ _ _ (ne_eqb (length prefix) 0 (λ e. omega arith))

in_folder : (prefix folder : List ℕ) → 0 < length folder → import_path prefix folder
    ≡ folder_path prefix folder
in_folder prefix folder some = cond-false _ _ _ (ne_eqb (length folder) 0 (λ e. omega arith))

below_prefix : (prefix folder : List ℕ) → 0 < length prefix → 0 < length folder
    → import_path prefix folder ≡ prefix ++ 47 ∷ folder
below_prefix prefix folder some more = in_folder prefix folder more
    ∙ cond-false _ _ _ (ne_eqb (length prefix) 0 (λ e. omega arith))

longer : (prefix folder : List ℕ) → prefix ≡ prefix ++ 47 ∷ folder → ⊥
longer prefix folder e = omega (arith, ap length e, length-append prefix (47 ∷ folder))

-- packages have one path exactly where they have one folder
pub same_folder : (prefix a b : List ℕ) → IsNamed a → IsNamed b → import_path prefix a
    ≡ import_path prefix b → a ≡ b
same_folder prefix [] [] na nb same = refl
same_folder [] [] (y ∷ b) na nb same = absurd (nb (sym (same ∙ in_folder [] (y ∷ b) (omega arith))))
same_folder [] (x ∷ a) [] na nb same = absurd (na (sym (in_folder [] (x ∷ a) (omega arith)) ∙ same))
same_folder [] (x ∷ a) (y ∷ b) na nb same = sym (in_folder [] (x ∷ a) (omega arith)) ∙ same
    ∙ in_folder [] (y ∷ b) (omega arith)
same_folder (p ∷ ps) [] (y ∷ b) na nb same =
    absurd (longer (p ∷ ps) (y ∷ b) (sym (at_root (p ∷ ps) (omega arith)) ∙ same ∙ below_prefix
    (p ∷ ps) (y ∷ b) (omega arith) (omega arith)))
same_folder (p ∷ ps) (x ∷ a) [] na nb same =
    absurd (longer (p ∷ ps) (x ∷ a) (sym (at_root (p ∷ ps) (omega arith)) ∙ sym same ∙ below_prefix
    (p ∷ ps) (x ∷ a) (omega arith) (omega arith)))
same_folder (p ∷ ps) (x ∷ a) (y ∷ b) na nb same =
    let behind : 47 ∷ x ∷ a ≡ 47 ∷ y ∷ b = append_cancel_left (p ∷ ps) (47 ∷ x ∷ a) (47 ∷ y ∷ b)
    (sym (below_prefix (p ∷ ps) (x ∷ a) (omega arith) (omega arith)) ∙ same
    ∙ below_prefix (p ∷ ps) (y ∷ b) (omega arith) (omega arith)) in
    cc

pub same_test : (prefix a b : List ℕ) → IsNamed a → IsNamed b
    → bytes_eq (import_path prefix a) (import_path prefix b) ≡ bytes_eq a b
same_test prefix a b na nb =
    let folders = bytes_eq-Decides a b in
    same_from_decides _ _ (bytes_eq-Decides (import_path prefix a) (import_path prefix b))
    (λ e. ap (import_path prefix) (folders.0 e), λ e. folders.1 (same_folder prefix a b na nb e))
