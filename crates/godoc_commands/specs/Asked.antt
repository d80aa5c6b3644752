-- Cited by private clauses and proofs. What a command of the program asks for. The project's own.
use Rattle.godoc_commands.specs.declared.words.Command as commands
use Rattle.godoc_commands.specs.declared.words.Command.TheVariants as variants
use Rattle.godoc_commands.specs.Words.{Command, find, answer}

-- what a command of the program asks for
abbrev pub asked : commands.Command → Command
asked (variants.Find name) = find name.now
asked variants.Answer = answer
