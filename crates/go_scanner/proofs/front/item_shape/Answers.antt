use Rattle.std.proofs.Common.{◌≡◌, Some, drop, get_or, sym, ◌∙◌, ap, arith}
use Rattle.std.proofs.lemmas.List.{take_rest}
use Rattle.std.proofs.lemmas.Str.{IsCharBoundary-after_ascii}
use Rattle.go_scanner.specs.declared.class.Class.TheVariants as class
use Rattle.go_scanner.specs.Classes.{class_of}
use Rattle.go_scanner.specs.Shapes.{item_shape, number_shape, text_shape, rune_shape, raw_shape}
use Rattle.go_scanner.specs.Shapes.{operator_shape}
use Rattle.go_scanner.proofs.Dispatch.{at_line_end, at_blank, at_letter, at_digit, at_double}
use Rattle.go_scanner.proofs.Dispatch.{at_single, at_back, at_semicolon, at_other, slash_byte}
use Rattle.go_scanner.proofs.Dispatch.{point_byte, quote_byte, at_closing, at_lone}
use Rattle.go_scanner.proofs.front.item_shape.Goals as goal

pub returns-in-LineEnd : goal.returns-in-LineEnd
returns-in-LineEnd c =
    let h : class_of (get_or c.args.text.now 0 0) ≡ class.LineEnd =
    ap (λ l. class_of (get_or l 0 0)) (sym c.as_bytes-bytes.ensures.value)
    ∙ sym c.in-LineEnd.ensures in
    sym (at_line_end c.args.text.now c.requires h)

pub returns-in-Blank : goal.returns-in-Blank
returns-in-Blank c =
    let h : class_of (get_or c.args.text.now 0 0) ≡ class.Blank =
    ap (λ l. class_of (get_or l 0 0)) (sym c.as_bytes-bytes.ensures.value)
    ∙ sym c.in-Blank.ensures in
    sym (at_blank c.args.text.now c.requires h)

pub returns-in-Letter : goal.returns-in-Letter
returns-in-Letter c =
    let h : class_of (get_or c.args.text.now 0 0) ≡ class.Letter =
    ap (λ l. class_of (get_or l 0 0)) (sym c.as_bytes-bytes.ensures.value)
    ∙ sym c.in-Letter.ensures in
    ap Some c.front_word_shape.ensures ∙ sym (at_letter c.args.text.now c.requires h)

pub returns-in-Digit : goal.returns-in-Digit
returns-in-Digit c =
    let h : class_of (get_or c.args.text.now 0 0) ≡ class.Digit =
    ap (λ l. class_of (get_or l 0 0)) (sym c.as_bytes-bytes.ensures.value)
    ∙ sym c.in-Digit.ensures in
    c.number_shape.ensures ∙ ap number_shape c.as_bytes-bytes.ensures.value
    ∙ sym (at_digit c.args.text.now c.requires h)

pub returns-in-DoubleQuote : goal.returns-in-DoubleQuote
returns-in-DoubleQuote c =
    let h : class_of (get_or c.args.text.now 0 0) ≡ class.DoubleQuote =
    ap (λ l. class_of (get_or l 0 0)) (sym c.as_bytes-bytes.ensures.value)
    ∙ sym c.in-DoubleQuote.ensures in
    c.text_shape.ensures
    ∙ ap text_shape
    (take_rest c.as_bytes-bytes.result.now 1 ∙ ap (drop 1) c.as_bytes-bytes.ensures.value)
    ∙ sym (at_double c.args.text.now c.requires h)

pub range_from-requires : goal.range_from-requires
range_from-requires c =
    let h : class_of (get_or c.args.text.now 0 0) ≡ class.SingleQuote =
    ap (λ l. class_of (get_or l 0 0)) (sym c.as_bytes-bytes.ensures.value)
    ∙ sym c.in-SingleQuote.ensures in
    λ some. IsCharBoundary-after_ascii c.args.text.now 0 c.utf8.text c.requires
    (omega (arith, quote_byte (get_or c.args.text.now 0 0) h))

pub returns-in-SingleQuote : goal.returns-in-SingleQuote
returns-in-SingleQuote c =
    let h : class_of (get_or c.args.text.now 0 0) ≡ class.SingleQuote =
    ap (λ l. class_of (get_or l 0 0)) (sym c.as_bytes-bytes.ensures.value)
    ∙ sym c.in-SingleQuote.ensures in
    c.rune_shape.ensures ∙ ap rune_shape c.range_from.ensures.value
    ∙ sym (at_single c.args.text.now c.requires h)

pub returns-in-BackQuote : goal.returns-in-BackQuote
returns-in-BackQuote c =
    let h : class_of (get_or c.args.text.now 0 0) ≡ class.BackQuote =
    ap (λ l. class_of (get_or l 0 0)) (sym c.as_bytes-bytes.ensures.value)
    ∙ sym c.in-BackQuote.ensures in
    c.raw_shape.ensures
    ∙ ap raw_shape
    (take_rest c.as_bytes-bytes.result.now 1 ∙ ap (drop 1) c.as_bytes-bytes.ensures.value)
    ∙ sym (at_back c.args.text.now c.requires h)

pub returns-in-Semicolon : goal.returns-in-Semicolon
returns-in-Semicolon c =
    let h : class_of (get_or c.args.text.now 0 0) ≡ class.Semicolon =
    ap (λ l. class_of (get_or l 0 0)) (sym c.as_bytes-bytes.ensures.value)
    ∙ sym c.in-Semicolon.ensures in
    sym (at_semicolon c.args.text.now c.requires h)

pub slash_shape-requires : goal.slash_shape-requires
slash_shape-requires c =
    slash_byte (get_or c.as_bytes-bytes.result.now 0 0) (sym c.in-Slash.ensures)

pub returns-in-Slash : goal.returns-in-Slash
returns-in-Slash c = c.slash_shape.ensures ∙ ap item_shape c.as_bytes-bytes.ensures.value

pub point_shape-requires : goal.point_shape-requires
point_shape-requires c =
    point_byte (get_or c.as_bytes-bytes.result.now 0 0) (sym c.in-Point.ensures)

pub returns-in-Point : goal.returns-in-Point
returns-in-Point c = c.point_shape.ensures ∙ ap item_shape c.as_bytes-bytes.ensures.value

pub wide_shape-requires : goal.wide_shape-requires
wide_shape-requires c = ap (λ l. class_of (get_or l 0 0)) (sym c.as_bytes-bytes.ensures.value)
    ∙ sym c.in-Wide.ensures

pub returns-in-Other : goal.returns-in-Other
returns-in-Other c =
    let h : class_of (get_or c.args.text.now 0 0) ≡ class.Other =
    ap (λ l. class_of (get_or l 0 0)) (sym c.as_bytes-bytes.ensures.value)
    ∙ sym c.in-Other.ensures in
    c.operator_shape.ensures ∙ ap operator_shape c.as_bytes-bytes.ensures.value
    ∙ sym (at_other c.args.text.now c.requires h)

pub returns-in-Closing : goal.returns-in-Closing
returns-in-Closing c =
    let h : class_of (get_or c.args.text.now 0 0) ≡ class.Closing =
    ap (λ l. class_of (get_or l 0 0)) (sym c.as_bytes-bytes.ensures.value)
    ∙ sym c.in-Closing.ensures in
    sym (at_closing c.args.text.now c.requires h)

pub returns-in-Lone : goal.returns-in-Lone
returns-in-Lone c =
    let h : class_of (get_or c.args.text.now 0 0) ≡ class.Lone =
    ap (λ l. class_of (get_or l 0 0)) (sym c.as_bytes-bytes.ensures.value)
    ∙ sym c.in-Lone.ensures in
    sym (at_lone c.args.text.now c.requires h)
