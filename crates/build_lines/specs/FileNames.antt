-- Cited by public clauses. What the name of a file says of its system and architecture (The go
-- command, "Build constraints").
use Rattle.std.specs.Prelude.{ℕ, Bool, true, ◌&&◌, ◌||◌, List, ◌-◌, take, length}
use Rattle.std.specs.Prelude.{if◌then◌else◌, ◌==◌, nat_eq, codes}
use Rattle.std.specs.List.{after_last, before_first, before_last, ends_with, list_any}
use Rattle.go_chars.specs.Identifiers.{is_among}
use Rattle.go_ast.specs.declared.config.Config.{Config}
use Rattle.go_ast.specs.Characters.{full_stop, underscore}
use Rattle.build_lines.specs.Tags.{architectures, holds, systems}

abbrev pub slash : ℕ
slash = 47

-- the text without a final "_test"
unfoldable pub without_test : List ℕ → List ℕ
without_test text = if ends_with nat_eq text (codes "_test") then take (length text - 5) text
    else text

-- what stands after the last slash and before the first point after it, without a final "_test"
unfoldable pub stem_of : List ℕ → List ℕ
stem_of path = without_test (before_first (λ b. b == full_stop) (after_last (λ b. b == slash) path))

-- the text is cut at each "_": whether it has two parts at least, its last part, and the rest
abbrev pub is_cut : List ℕ → Bool
is_cut text = list_any (λ b. b == underscore) text

unfoldable pub last_part : List ℕ → List ℕ
last_part text = after_last (λ b. b == underscore) text

unfoldable pub other_parts : List ℕ → List ℕ
other_parts text = before_last (λ b. b == underscore) text

abbrev pub is_listed : List ℕ → Bool
is_listed tag = is_among systems tag || is_among architectures tag

-- three parts at least, of which the last two are a system and an architecture
unfoldable pub names_platform : List ℕ → Bool
names_platform stem = is_cut stem && is_cut (other_parts stem)
    && is_among systems (last_part (other_parts stem)) && is_among architectures (last_part stem)

-- two parts at least, of which the last is a system or an architecture
unfoldable pub names_tag : List ℕ → Bool
names_tag stem = is_cut stem && is_listed (last_part stem)

-- the name of the file at a path lets it in
unfoldable pub name_admits : Config → List ℕ → Bool
name_admits config path = let stem = stem_of path in
    if names_platform stem then holds config (last_part (other_parts stem))
    && holds config (last_part stem)
    else (if names_tag stem then holds config (last_part stem) else true)
