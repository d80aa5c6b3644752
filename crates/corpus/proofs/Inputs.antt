-- Files that are those of a set of sources, place by place.
use Rattle.std.proofs.Common.{◌≡◌, ℕ, zero, suc, ◌<◌, List, [], ◌∷◌, Some, map, get_or, length}
use Rattle.std.proofs.Common.{refl, sym, ap, ◌∙◌, arith, zero-add}
use Rattle.std.specs.Prelude.{None, option_map}
use Rattle.std.specs.List.{enumerate_from, slice_get}
use Rattle.std.proofs.lemmas.List.{get_or-map, length-map}
use Rattle.std.proofs.lemmas.List.FromFn.{get_or-enumerate_from, length-enumerate_from}
use Rattle.tree_io.specs.declared.tree.Entry.{Entry}
use Rattle.tree_io.specs.Path.{paths_of}
use Rattle.corpus_piece.specs.declared.outcome.Outcome.{Outcome}
use Rattle.corpus_piece.specs.declared.outcome.Outcome.TheVariants.{Ignored, Faulty, Accepted}
use Rattle.corpus_piece.specs.declared.outcome.Parsed.{Parsed}
use Rattle.corpus_piece.specs.Pieces.{JudgedFile}
use Rattle.corpus.specs.Corpora.{AcceptedFile, AreFilesOf, Input, accepted_as, accepted_file}
use Rattle.corpus.specs.Corpora.{bytes_in, input_of}
use Rattle.corpus.specs.Snapshots.{SourceSet}

abbrev Source : Type 0
Source = List ℕ × Entry

-- what maps have at a place
at_map : {X Y : Type 0} (f : X → Y) (xs : List X) (i : ℕ) (y : Y) (x : X) → slice_get (map f xs) i
    ≡ Some y → y ≡ f (get_or xs i x)
at_map f [] i y x h = cc
at_map f (z ∷ zs) zero y x h = cc
at_map f (z ∷ zs) (suc i) y x h = at_map f zs i y x h

at_maps : {X Y Z : Type 0} (f : X → Y) (g : Y → Z) (xs : List X) (i : ℕ) (z : Z) (x : X)
    → option_map g (slice_get (map f xs) i) ≡ Some z → z ≡ g (f (get_or xs i x))
at_maps f g [] i z x h = cc
at_maps f g (y ∷ ys) zero z x h = cc
at_maps f g (y ∷ ys) (suc i) z x h = at_maps f g ys i z x h

module _ (s : SourceSet) (files : List JudgedFile) (are : AreFilesOf s files) where
  pub length-files : length files ≡ length s.entries
  length-files =
      sym (length-map files input_of) ∙ ap length are
      ∙ length-map (enumerate_from 0 s.entries) (λ (e : ℕ × Source). (e.1.0, e.1.1, s.config, e.0))
      ∙ length-enumerate_from 0 s.entries

  pub input_at : (i : ℕ) (d : JudgedFile) (e : Source) → i < length files
      → input_of (get_or files i d) ≡ (
        (get_or s.entries i e).0,
        (get_or s.entries i e).1,
        s.config,
        i,
      )
  input_at i d e below =
      let make : ℕ × Source → Input = λ (e : ℕ × Source). (e.1.0, e.1.1, s.config, e.0) in
      let within : i < length s.entries = omega (arith, length-files) in
      sym (get_or-map input_of files i d (input_of d) below) ∙ ap (λ l. get_or l i (input_of d)) are
      ∙ get_or-map make (enumerate_from 0 s.entries) i (0, e) (input_of d)
      (rw length-enumerate_from within)
      ∙ ap make (get_or-enumerate_from 0 s.entries i (0, e) within)
      ∙ ap (λ n. make (n, get_or s.entries i e)) (zero-add i)

  pub number_at : (i : ℕ) (d : JudgedFile) → i < length files → (get_or files i d).number ≡ i
  number_at i d below = ap (λ (t : Input). t.3) (input_at i d (d.path, d.entry) below)

  -- the file at a place, where it is accepted
  pub accepted_at : (i : ℕ) (d : JudgedFile) (a : AcceptedFile) → i < length files → a.number ≡ i
      → slice_get (paths_of s.entries) i ≡ Some a.path
      → option_map bytes_in (slice_get (map (λ e. e.1) s.entries) i) ≡ Some a.bytes → a
      ≡ accepted_file (get_or files i d) a.parsed
  accepted_at i d a below number path bytes =
      let e : Source = (d.path, d.entry) in
      let input = input_at i d e below in
      let same_number : a.number ≡ (get_or files i d).number = number
      ∙ sym (ap (λ (t : Input). t.3) input) in
      let same_path : a.path ≡ (get_or files i d).path =
      at_map (λ (e : Source). e.0) s.entries i a.path e path
      ∙ sym (ap (λ (t : Input). t.0) input) in
      let same_bytes : a.bytes ≡ bytes_in (get_or files i d).entry =
      at_maps (λ (e : Source). e.1) bytes_in s.entries i a.bytes e bytes
      ∙ sym (ap (λ (t : Input). bytes_in t.1) input) in
      λ j. record {
        number = same_number j;
        path = same_path j;
        bytes = same_bytes j;
        parsed =
            a.parsed;
      }

-- a file that is accepted, and one that isn't
pub is_accepted : (f : JudgedFile) (a : AcceptedFile) (parsed : Parsed) → a
    ≡ accepted_file f a.parsed → a.parsed ≡ parsed → f.outcome ≡ Accepted parsed → Some a
    ≡ accepted_as f f.outcome
is_accepted f a parsed is same outcome = ap Some (is ∙ ap (accepted_file f) same)
    ∙ sym (ap (accepted_as f) outcome)

pub not_accepted : (f : JudgedFile) (outcome : Outcome)
    → ((parsed : Parsed) → outcome ≡ Accepted parsed → ⊥) → None ≡ accepted_as f outcome
not_accepted f (Accepted parsed) never = absurd (never parsed refl)
not_accepted f (Faulty fault) never = refl
not_accepted f (Ignored why) never = refl
