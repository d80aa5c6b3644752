-- Cited by public clauses. What is said of a fault of a file. The wording is the project's own.
use Rattle.std.specs.Prelude.{ℕ, List, ◌++◌, codes, decimal}
use Rattle.go_ast.specs.declared.fault.Fault.{Fault}
use Rattle.go_ast.specs.declared.fault.Fault.TheVariants as faults

-- the number of the fault, and its words
unfoldable pub fault_text : Fault → List ℕ
fault_text (faults.NotUtf8 offset) = codes "fault 1: not UTF-8 at byte " ++ decimal offset
fault_text (faults.BadToken offset) = codes "fault 2: bad token at byte " ++ decimal offset
fault_text (faults.OpenComment offset) = codes "fault 3: open comment at byte " ++ decimal offset
fault_text (faults.OpenString offset) = codes "fault 4: open string at byte " ++ decimal offset
fault_text (faults.Unbalanced offset) = codes "fault 5: unbalanced at byte " ++ decimal offset
fault_text faults.NoPackageClause = codes "fault 6: no package clause"
fault_text (faults.BadDeclaration chunk line) =
    codes "fault 7: bad declaration " ++ decimal chunk ++ codes " at line " ++ decimal line
fault_text (faults.OtherPackage name) =
    codes "fault 8: package " ++ name ++ codes " beside another package"
fault_text faults.FileTooLarge = codes "fault 11: file too large"
fault_text faults.Unread = codes "fault 12: unread"
fault_text (faults.BadBuildLine line) = codes "fault 13: bad build line " ++ decimal line
