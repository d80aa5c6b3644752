use Rattle.std.proofs.Common.{[]}
use Rattle.std.specs.Str.{chars}
use Rattle.std.specs.Str.Iter.{chars_rest}
use Rattle.build_lines.specs.declared.symbol.Place.TheVariants.{Between}
use Rattle.build_lines.specs.Reading.{cut}
use Rattle.build_lines.specs.Tags.{holds}
use Rattle.build_lines.proofs.CutText.{GoesOn}
use Rattle.build_lines.proofs.cutting.symbols_of.Given as goal

-- the characters that are left give the symbols of all, after those that were found
abbrev pub invariant-loop-c : goal.invariant-loop-c
invariant-loop-c l = GoesOn (holds l.config) (chars_rest l.c-iterator) l.cutting
    (cut (holds l.config) (chars l.text) Between [] [])
