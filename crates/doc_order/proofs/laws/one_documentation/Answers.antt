use Rattle.doc_order.proofs.OneDoc.{same_doc}
use Rattle.doc_order.proofs.laws.one_documentation.Goals as goal

pub returns : goal.returns
returns c = same_doc
