-- Cited by public clauses. The tags of build lines (The go command, "Build constraints"; Go's
-- internal/syslist), and which of them a configuration has.
use Rattle.std.specs.Prelude.{ℕ, Bool, false, ◌&&◌, ◌||◌, not, List, [], ◌∷◌, drop, ◌==◌}
use Rattle.std.specs.Prelude.{nat_eq, nat_le, codes}
use Rattle.std.specs.List.{list_all, starts_with}
use Rattle.std.specs.Char.{is_ascii_digit}
use Rattle.std.specs.Str.{bytes_eq}
use Rattle.go_chars.specs.Identifiers.{is_among}
use Rattle.go_ast.specs.declared.config.Config.{Config}
use Rattle.go_ast.specs.Characters.{digit_zero}
use Rattle.go_ast.specs.Texts.{value_of}

-- the operating systems
unfoldable pub systems : List (List ℕ)
systems =
    codes "aix" ∷ codes "android" ∷ codes "darwin" ∷ codes "dragonfly" ∷ codes "freebsd"
    ∷ codes "hurd" ∷ codes "illumos" ∷ codes "ios" ∷ codes "js" ∷ codes "linux" ∷ codes "nacl"
    ∷ codes "netbsd" ∷ codes "openbsd" ∷ codes "plan9" ∷ codes "solaris" ∷ codes "wasip1"
    ∷ codes "windows" ∷ codes "zos" ∷ []

unfoldable pub architectures : List (List ℕ)
architectures =
    codes "386" ∷ codes "amd64" ∷ codes "arm" ∷ codes "arm64" ∷ codes "loong64" ∷ codes "mips"
    ∷ codes "mips64" ∷ codes "mips64le" ∷ codes "mipsle" ∷ codes "ppc64" ∷ codes "ppc64le"
    ∷ codes "riscv64" ∷ codes "s390x" ∷ codes "sparc64" ∷ codes "wasm" ∷ []

-- the systems on which the tag "unix" holds
unfoldable pub unix_systems : List (List ℕ)
unix_systems =
    codes "aix" ∷ codes "android" ∷ codes "darwin" ∷ codes "dragonfly" ∷ codes "freebsd"
    ∷ codes "hurd" ∷ codes "illumos" ∷ codes "ios" ∷ codes "linux" ∷ codes "netbsd"
    ∷ codes "openbsd" ∷ codes "solaris" ∷ []

-- decimal digits, of a value up to the last
abbrev pub is_number : ℕ → List ℕ → Bool
is_number last digits = list_all is_ascii_digit digits && nat_le (value_of 10 digits) last

-- the same, without a leading zero
abbrev pub is_version : ℕ → List ℕ → Bool
is_version last [] = false
is_version last (d ∷ ds) = not (d == digit_zero) && is_number last (d ∷ ds)

-- "go1.1" and so on, up to the minor version
unfoldable pub is_release : ℕ → List ℕ → Bool
is_release minor tag = starts_with nat_eq tag (codes "go1.") && is_version minor (drop 4 tag)

-- a tag that holds on one system, which is not its own name
abbrev pub is_implied : List ℕ → List ℕ → Bool
is_implied system tag = (bytes_eq tag (codes "unix") && is_among unix_systems system)
    || (bytes_eq tag (codes "linux") && bytes_eq system (codes "android"))
    || (bytes_eq tag (codes "solaris") && bytes_eq system (codes "illumos"))
    || (bytes_eq tag (codes "darwin") && bytes_eq system (codes "ios"))

-- a tag holds for a configuration
unfoldable pub holds : Config → List ℕ → Bool
holds config tag = bytes_eq tag config.goos || bytes_eq tag config.goarch
    || is_among config.tags tag
    || bytes_eq tag (codes "gc") || is_release config.go_minor tag || is_implied config.goos tag
