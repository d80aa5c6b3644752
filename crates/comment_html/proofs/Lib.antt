mod EscapedTexts
mod Joins
mod Markup
