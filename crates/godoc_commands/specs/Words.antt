-- Cited by public clauses. The words of the command line. The project's own.
use Rattle.std.specs.Prelude.{ℕ, ◌&&◌, List, [], ◌∷◌, Option, Some, None, codes, drop, option_map}
use Rattle.std.specs.Prelude.{slice_index_or, if◌then◌else◌}
use Rattle.std.specs.Str.{bytes_eq}
use Rattle.go_ast.specs.declared.config.Config.{Config}
use Rattle.go_chars.specs.Identifiers.{is_name}
use Rattle.godoc_commands.specs.Defaults.{defaults}

-- the root folder of a command line, which begins with the program's name: the word after that, and
-- the empty text where there is none
abbrev pub root_of : List (List ℕ) → List ℕ
root_of line = slice_index_or line 1 []

-- the words after the root folder
abbrev pub words_after_root : List (List ℕ) → List (List ℕ)
words_after_root line = drop 2 line

-- what the program can be asked for
pub data Command : Type 0 where
  -- the places of a name
  find : List ℕ → Command
  -- the replies to the requests of one connection
  answer : Command

-- the words are `answer` alone, or `find` and a name: an identifier that is no
-- keyword
abbrev pub command_of : List (List ℕ) → Option Command
command_of [] = None
command_of (word ∷ []) = if bytes_eq word (codes "answer") then Some answer else None
command_of (word ∷ name ∷ []) =
    if bytes_eq word (codes "find") && is_name name then Some (find name) else None
command_of (word ∷ name ∷ other ∷ words) = None

-- a command, and the configuration that it reads the tree for
pub record Plan : Type 0 where
  pub command : Command
  pub config : Config

-- what the words ask for, where they ask for something
abbrev pub plan_of : List (List ℕ) → Option Plan
plan_of words =
    option_map (λ command. record { command = command; config = defaults }) (command_of words)
