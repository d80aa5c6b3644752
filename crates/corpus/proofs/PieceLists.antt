-- The pieces of a set of sources, one more.
use Rattle.std.proofs.Common.{◌≡◌, ℕ, zero, suc, ◌+◌, ◌<◌, ◌≤◌, List, [], ◌∷◌, ◌++◌, Some, length}
use Rattle.std.proofs.Common.{take, get_or, map, sym, ap, ◌∙◌, arith, zero-add}
use Rattle.std.specs.List.{enumerate_from, slice_get}
use Rattle.std.proofs.lemmas.List.{get_or-map, length-map, map-append, take_all, take_more}
use Rattle.std.proofs.lemmas.List.FromFn.{get_or-enumerate_from, length-enumerate_from}
use Rattle.tree_io.specs.declared.tree.Entry.{Entry}
use Rattle.tree_io.specs.Path.{paths_of}
use Rattle.corpus_piece.specs.Pieces.{JudgedFile}
use Rattle.corpus.specs.Corpora.{Input, input_of, inputs_of}
use Rattle.corpus.specs.Snapshots.{SourceSet}

abbrev Source : Type 0
Source = List ℕ × Entry

at_map : {X Y : Type 0} (f : X → Y) (xs : List X) (i : ℕ) (y : Y) (d : X) → slice_get (map f xs) i
    ≡ Some y → (i < length xs) × (f (get_or xs i d) ≡ y)
at_map f [] i y d h = cc
at_map f (x ∷ xs) zero y d h = (omega arith, cc)
at_map f (x ∷ xs) (suc i) y d h = let r = at_map f xs i y d h in (omega (arith, r.0), r.1)

length-inputs : (s : SourceSet) → length (inputs_of s) ≡ length s.entries
length-inputs s = length-map (enumerate_from 0 s.entries)
    (λ (e : ℕ × Source). (e.1.0, e.1.1, s.config, e.0)) ∙ length-enumerate_from 0 s.entries

pub input_more : (s : SourceSet) (n : ℕ) (pieces : List JudgedFile) (piece : JudgedFile)
    (path : List ℕ) (entry : Entry)
    → slice_get (paths_of s.entries) n ≡ Some path → slice_get (map (λ e. e.1) s.entries) n
    ≡ Some entry
    → piece.path ≡ path → piece.entry ≡ entry → piece.config ≡ s.config → piece.number ≡ n
    → map input_of pieces ≡ take n (inputs_of s)
    → map input_of (pieces ++ piece ∷ []) ≡ take (n + 1) (inputs_of s)
input_more s n pieces piece path entry at_path at_entry p e c k so_far =
    let d : Source = (path, entry) in
    let make : ℕ × Source → Input = λ (e : ℕ × Source). (e.1.0, e.1.1, s.config, e.0) in
    let by_path = at_map (λ (e : Source). e.0) s.entries n path d at_path in
    let by_entry = at_map (λ (e : Source). e.1) s.entries n entry d at_entry in
    let within : n < length s.entries = by_path.0 in
    let here : get_or (inputs_of s) n (input_of piece) ≡ input_of piece =
    get_or-map make (enumerate_from 0 s.entries) n (0, d) (input_of piece)
    (rw length-enumerate_from within)
    ∙ ap make (get_or-enumerate_from 0 s.entries n (0, d) within)
    ∙ ap (λ m. make (m, get_or s.entries n d)) (zero-add n)
    ∙ (λ j. ((by_path.1 ∙ sym p) j, (by_entry.1 ∙ sym e) j, sym c j, sym k j)) in
    map-append input_of pieces (piece ∷ []) ∙ (λ j. so_far j ++ sym here j ∷ [])
    ∙ sym (take_more (inputs_of s) n (input_of piece) (rw (length-inputs s) within))

pub inputs_all : (s : SourceSet) (n : ℕ) (pieces : List JudgedFile) → length s.entries ≤ n
    → map input_of pieces ≡ take n (inputs_of s) → map input_of pieces ≡ inputs_of s
inputs_all s n pieces all so_far = so_far ∙ take_all n (inputs_of s) (rw (length-inputs s) all)
