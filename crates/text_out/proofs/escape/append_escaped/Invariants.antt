use Rattle.text_out.proofs.EscapeLemmas.{Escaping}
use Rattle.text_out.proofs.escape.append_escaped.Given as goal

abbrev pub invariant-loop-i : goal.invariant-loop-i
invariant-loop-i l = Escaping l.fn.bytes.items l.bytes.items l.text l.start l.i
