use Rattle.comment_html.proofs.Markup.{is_markup}
use Rattle.comment_html.proofs.laws.html_is_tags_and_escaped_texts.Goals as goal

pub returns : goal.returns
returns c = is_markup
