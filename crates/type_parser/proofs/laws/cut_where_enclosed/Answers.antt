use Rattle.type_parser.proofs.Closed.{enclosed-sound, enclosed-complete}
use Rattle.type_parser.proofs.laws.cut_where_enclosed.Goals as goal

pub returns : goal.returns
returns c = λ opening close o words inner rest is closed. (
  enclosed-sound opening close o words inner rest is,
  enclosed-complete opening close o words inner rest closed,
)
