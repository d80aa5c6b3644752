use Rattle.std.proofs.Common.{◌≡◌, ◌-◌, length, take}
use Rattle.std.specs.List.{list_any}
use Rattle.go_ast.specs.Files.{AreDecls}
use Rattle.go_parser.specs.Parsing.{words_in}
use Rattle.go_parser.proofs.DeclLists.{is_other}
use Rattle.go_parser.proofs.declarations.declarations.Given as goal

-- the chunks so far are what is found, and it is known whether another than an import is among them
abbrev pub invariant-loop-at : goal.invariant-loop-at
invariant-loop-at l = AreDecls (take l.at (words_in l.source l.tokens l.chunks)) l.found
    × (l.others ≡ list_any is_other l.found)

abbrev pub decreases-loop-at : goal.decreases-loop-at
decreases-loop-at l = length l.chunks - l.at
