use Rattle.std.proofs.Common.{◌∙◌, ap}
use Rattle.go_ast.specs.Cutting.{range_of_all}
use Rattle.type_parser.proofs.FieldNames.{range-is}
use Rattle.type_parser.proofs.words.Words.range.Goals as goal

pub returns-in-len1-up : goal.returns-in-len1-up
returns-in-len1-up c = range-is c.self.inside.items.now _ c.in-len1-up.len_at_least
    ∙ ap range_of_all c.self.view_is
