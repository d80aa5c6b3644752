-- Cited by public clauses. The configuration that the program reads a tree for. The project's own.
use Rattle.std.specs.Prelude.{[], codes}
use Rattle.go_ast.specs.declared.config.Config.{Config}

-- Go 1.23 on linux and amd64, with no tags and no prefix
abbrev pub defaults : Config
defaults = record {
  goos = codes "linux";
  goarch = codes "amd64";
  tags = [];
  go_minor = 23;
  prefix = [];
}
