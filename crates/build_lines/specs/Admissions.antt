-- Cited by public clauses. Which files of a tree are read for a configuration.
use Rattle.std.specs.Prelude.{◌≡◌, ℕ, Bool, true, false, List, [], ◌∷◌, ◌⊎◌}
use Rattle.go_ast.specs.declared.config.Config.{Config}
use Rattle.go_ast.specs.declared.token.Comment.{Comment}
use Rattle.go_ast.specs.declared.token.Token.{Token}
use Rattle.go_ast.specs.Position.{line_of}
use Rattle.build_lines.specs.declared.admission.Admission.{Admission}
use Rattle.build_lines.specs.declared.admission.Admission.TheVariants.{Admitted, Ignored}
use Rattle.build_lines.specs.declared.admission.Admission.TheVariants.{BadBuildLine}
use Rattle.build_lines.specs.declared.admission.Why.TheVariants.{ByName, ByLine}
use Rattle.build_lines.specs.BuildLines.{build_lines, expression_text}
use Rattle.build_lines.specs.Expressions.{Expression, IsMalformed, Spells, value}
use Rattle.build_lines.specs.FileNames.{name_admits}
use Rattle.build_lines.specs.Tags.{holds}

-- what is said by whether the name lets the file in, and then whether its build line does
abbrev pub judged : Bool → Bool → Admission
judged false by_line = Ignored ByName
judged true false = Ignored ByLine
judged true true = Admitted

-- what is said is the line of a comment
abbrev pub IsBadLine : List ℕ → Comment → Admission → Type 0
IsBadLine bytes comment admission = admission ≡ BadBuildLine (line_of bytes comment.span.start)

-- what is said by the build lines: a first one that spells no expression comes first, then a
-- second one, then the name, then the value of the expression
abbrev pub IsJudgedBy : List ℕ → Config → Bool → List Comment → Admission → Type 0
IsJudgedBy bytes config by_name [] admission = admission ≡ judged by_name true
IsJudgedBy bytes config by_name (line ∷ []) admission =
    (IsMalformed (expression_text bytes line) × IsBadLine bytes line admission)
    ⊎ ((expression : Expression) × Spells (expression_text bytes line) expression
    × (admission ≡ judged by_name (value (holds config) expression)))
IsJudgedBy bytes config by_name (line ∷ second ∷ lines) admission =
    (IsMalformed (expression_text bytes line) × IsBadLine bytes line admission)
    ⊎ ((expression : Expression) × Spells (expression_text bytes line) expression
    × IsBadLine bytes second admission)

-- whether a file is read: by its path, its bytes, its tokens and comments, and the configuration
abbrev pub IsAdmission : List ℕ → List ℕ → List Token → List Comment → Config → Admission → Type 0
IsAdmission path bytes tokens comments config admission =
    IsJudgedBy bytes config (name_admits config path) (build_lines bytes tokens comments) admission
