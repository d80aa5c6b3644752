-- The comments of a source lie within it, and its build lines begin as such.
use Rattle.std.proofs.Common.{◌≡◌, ℕ, not, inl, ◌+◌, ◌≤◌, Bool, true, false, ◌&&◌, List}
use Rattle.std.proofs.Common.{[], ◌∷◌}
use Rattle.std.proofs.Common.{◌++◌, length, get_or, filter, sym, ◌∙◌, ap, subst, arith, All}
use Rattle.std.proofs.Common.{length-append}
use Rattle.std.specs.Prelude.{Result, Ok, Err, IfOk}
use Rattle.std.proofs.lemmas.List.Elements.{All-cons, All-filter, filter_passes}
use Rattle.std.proofs.lemmas.Bool.{and_parts}
use Rattle.go_ast.specs.declared.token.Comment.{Comment}
use Rattle.go_ast.specs.declared.token.Token.{Token}
use Rattle.go_ast.specs.Lexical.{Item, white_space, byte_order_mark, line_comment, general_comment}
use Rattle.go_ast.specs.Lexical.{spelled, print_item}
use Rattle.go_ast.specs.Reading.{Leads, Reads, comments_at, comments_of, span}
use Rattle.go_ast.specs.declared.config.Config.{Config}
use Rattle.build_lines.specs.declared.admission.Admission.{Admission}
use Rattle.build_lines.specs.Admissions.{IsBadLine, IsJudgedBy}
use Rattle.build_lines.specs.Expressions.{IsMalformed}
use Rattle.build_lines.specs.BuildLines.{expression_text}
use Rattle.build_lines.specs.BuildLines.{begins_build, build_lines}
use Rattle.build_lines.specs.Judging.{BeginsBuild, IsInside}
use Rattle.build_lines.specs.BuildLines.{first_token, is_alone, is_build_line, stands_before}
use Rattle.build_lines.specs.BuildLines.{text_of_comment}

pub if_ok : {T E : Type 0} (r : Result T E) (P Q : T → Type 0) → ((x : T) → P x → Q x) → IfOk r P
    → IfOk r Q
if_ok (Ok x) P Q more fact = more x fact
if_ok (Err e) P Q more fact = fact

none_inside : (size : ℕ) → All (IsInside size) []
none_inside size = λ k d below. absurd (omega arith)

-- one comment more at the front
with_comment : (size start end : ℕ) (general : Bool) (comments : List Comment) → start ≤ end
    → end ≤ size → All (IsInside size) comments
    → All (IsInside size) (record { span = span start end; general = general } ∷ comments)
with_comment size start end general comments low high later =
    All-cons (IsInside size) _ comments (low, high) later

with_item : (size offset end : ℕ) (item : Item) (comments : List Comment) → offset ≤ end
    → end ≤ size → All (IsInside size) comments
    → All (IsInside size) (comments_at offset end item ++ comments)
with_item size offset end (white_space b) comments low high later = later
with_item size offset end byte_order_mark comments low high later = later
with_item size offset end (line_comment content) comments low high later =
    with_comment size offset end false comments low high later
with_item size offset end (general_comment content) comments low high later =
    with_comment size offset end true comments low high later
with_item size offset end (spelled spelling) comments low high later = later

comments_inside : (size offset : ℕ) (items : List Item) (bytes rest : List ℕ)
    → offset + length bytes ≡ size → Leads offset items bytes rest
    → All (IsInside size) (comments_of offset items)
comments_inside size offset [] bytes rest same leads = none_inside size
comments_inside size offset (item ∷ items) bytes rest same (after, split, stands, leads) =
    let cut : length bytes ≡ length (print_item item) + length after =
    ap length split ∙ length-append (print_item item) after in
    let end = offset + length (print_item item) in
    let left : offset + length (print_item item) + length after ≡ size = omega arith in
    let low : offset ≤ offset + length (print_item item) = omega arith in
    let high : offset + length (print_item item) ≤ size = omega arith in
    with_item size offset end item (comments_of end items) low high
    (comments_inside size end items after rest left leads)

pub read_inside : (bytes : List ℕ) (tokens : List Token) (comments : List Comment)
    → Reads bytes tokens comments → All (IsInside (length bytes)) comments
read_inside bytes tokens comments reads =
    subst (All (IsInside (length bytes))) (sym reads.all_comments)
    (comments_inside (length bytes) 0 reads.items bytes [] (omega arith) reads.leads)

pub build_lines_inside : (size : ℕ) (bytes : List ℕ) (tokens : List Token) (comments : List Comment)
    → All (IsInside size) comments
    → All (IsInside size) (build_lines bytes tokens comments)
unfolding build_lines
build_lines_inside size bytes tokens comments all =
    All-filter (is_build_line bytes (first_token tokens)) (IsInside size) comments all

third_true : (a b c d : Bool) → (a && b && c && d) ≡ true → c ≡ true
third_true a b c d all = (and_parts (a && b) c (and_parts (a && b && c) d all).0).1

pub build_lines_begin : (bytes : List ℕ) (tokens : List Token) (comments : List Comment)
    → All (BeginsBuild bytes) (build_lines bytes tokens comments)
unfolding build_lines
build_lines_begin bytes tokens comments = λ k d below.
    let p = is_build_line bytes (first_token tokens) in
    let c : Comment = get_or (filter p comments) k d in
    third_true (not c.general) (stands_before (first_token tokens) c)
    (begins_build (text_of_comment bytes c)) (is_alone bytes c.span.start)
    (filter_passes p comments k d below)

-- a first build line that spells no expression
pub malformed_first : (bytes : List ℕ) (config : Config) (by_name : Bool) (lines : List Comment)
    (d : Comment) (answer : Admission) → 1 ≤ length lines
    → IsMalformed (expression_text bytes (get_or lines 0 d))
    → IsBadLine bytes (get_or lines 0 d) answer
    → IsJudgedBy bytes config by_name lines answer
malformed_first bytes config by_name [] d answer some malformed bad = absurd (omega arith)
malformed_first bytes config by_name (line ∷ []) d answer some malformed bad = inl (malformed, bad)
malformed_first bytes config by_name (line ∷ second ∷ lines) d answer some malformed bad =
    inl (malformed, bad)
