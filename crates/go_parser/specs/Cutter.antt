-- Cited by private clauses and proofs. What has been made of the words so far.
use Rattle.std.specs.Prelude.{◌≡◌, ℕ, ◌+◌, ◌-◌, ◌<◌, ◌≤◌, true, false, List, [], ◌∷◌, ◌++◌, length}
use Rattle.std.specs.Prelude.{Option, Some, None, map, take, drop, All, filter}
use Rattle.go_ast.specs.declared.word.Word.{Word}
use Rattle.go_ast.specs.declared.word.Mark.{Mark}
use Rattle.go_ast.specs.declared.word.Mark.TheVariants as m
use Rattle.go_ast.specs.Chunks.{AreNested, IsUnbalancedAt, chunks, has_words, open_after}
use Rattle.go_ast.specs.Cutting.{Nests, closing_of, pieces, pieces_from}
use Rattle.go_ast.specs.Marks.{opens, closes, same_mark}
use Rattle.go_parser.specs.declared.chunk.Chunk.{Chunk}
use Rattle.go_parser.specs.declared.chunk.Cut.{Cut}
use Rattle.go_parser.specs.declared.chunk.Cut.TheVariants as cuts
use Rattle.go_parser.specs.declared.cutter.OpenBracket.{OpenBracket}

-- a mark that is as good as another one where brackets and semicolons alone count
pub record CutsAs (mark real : Mark) : Type 0 where
  pub same_opens : opens mark ≡ opens real
  pub same_closes : closes mark ≡ closes real
  pub same_semi : same_mark mark m.Semi ≡ same_mark real m.Semi
  pub opening : opens real ≡ true → mark ≡ real
  pub closing : closes real ≡ true → mark ≡ real

-- a bracket that is open, as it is kept
abbrev pub kept : Word → OpenBracket
kept w = record { place = w.tokens.first; offset = w.span.start; closing = closing_of w.mark }

-- the words from a place to before another
abbrev pub segment : List Word → ℕ → ℕ → List Word
segment words first after = take (after - first) (drop first words)

-- words that begin at a place: outside all brackets, or with some open, the innermost first
pub data Standing (first : ℕ) (ws : List Word) : List Word → Type 0 where
  outside : Standing first ws []
  within : (front inner others : List Word) (o : Word) → ws ≡ front ++ o ∷ inner
      → o.tokens.first ≡ first + length front → opens o.mark ≡ true
      → open_after [] inner ≡ Some others → Standing first ws (others ++ o ∷ [])

-- the place of the bracket that the last of some words closes, which begin at a place
pub data LastCloses (first : ℕ) (ws : List Word) : Option ℕ → Type 0 where
  nothing : (front : List Word) (last : Word) → ws ≡ front ++ last ∷ []
      → closes last.mark ≡ false → LastCloses first ws None
  bracket : (front inner : List Word) (o c : Word) → ws ≡ front ++ o ∷ inner ++ c ∷ []
      → opens o.mark ≡ true → c.mark ≡ closing_of o.mark → Nests 0 inner
      → LastCloses first ws (Some (first + length front))

pub record IsEnded (words : List Word) (chunk : Chunk) : Type 0 where
  pub some : chunk.tokens.first < chunk.tokens.after
  pub within : chunk.tokens.after ≤ length words
  pub last : LastCloses chunk.tokens.first (segment words chunk.tokens.first chunk.tokens.after)
      chunk.opened

-- what is kept where the words before a place were taken, and the rest not
pub record Reached (words rest : List Word) (place : ℕ) (found : List Chunk)
    (brackets : List OpenBracket) (first : ℕ) (opened : Option ℕ) : Type 0 where
  pub front : List Word
  pub stack : List Word
  pub done : List (List Word)
  pub whole : words ≡ front ++ rest
  pub count : length front ≡ place
  pub begun : first ≤ place
  pub nests : open_after [] front ≡ Some stack
  pub here : open_after [] (drop first front) ≡ Some stack
  pub entries : map kept stack ≡ brackets
  pub standing : Standing first (drop first front) stack
  pub last : stack ≡ [] → first < place → LastCloses first (drop first front) opened
  pub cut : pieces m.Semi words
      ≡ done ++ pieces_from m.Semi (length stack) (drop first front) rest
  pub same_words : map (λ c. segment words c.tokens.first c.tokens.after) found
      ≡ filter has_words done
  pub each : All (IsEnded words) found

-- all words are cut
pub record AreEnded (words : List Word) (found : List Chunk) : Type 0 where
  pub nested : AreNested words
  pub same_words : map (λ c. segment words c.tokens.first c.tokens.after) found ≡ chunks words
  pub each : All (IsEnded words) found

pub record IsFaultOf (words : List Word) (offset : ℕ) : Type 0 where
  pub word : Word
  pub unbalanced : IsUnbalancedAt words word
  pub begins : word.span.start ≡ offset

abbrev pub IsCutOf : List Word → Cut → Type 0
IsCutOf words (cuts.Chunks found) = AreEnded words found.items
IsCutOf words (cuts.Unbalanced offset) = IsFaultOf words offset
