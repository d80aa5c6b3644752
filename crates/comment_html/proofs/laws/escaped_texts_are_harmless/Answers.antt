use Rattle.comment_html.proofs.EscapedTexts.{harmless}
use Rattle.comment_html.proofs.laws.escaped_texts_are_harmless.Goals as goal

pub returns : goal.returns
returns c = harmless
