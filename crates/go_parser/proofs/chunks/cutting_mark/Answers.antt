use Rattle.go_parser.proofs.PlainTokens.{plain-kind}
use Rattle.go_parser.proofs.chunks.cutting_mark.Goals as goal

pub returns-in_default : goal.returns-in_default
returns-in_default c = plain-kind _ _ c.in_default.not-Operator c.in_default.not-Semi
    c.in_default.not-AutoSemi
