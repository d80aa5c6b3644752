-- The tokens and the comments of a scan share no byte, and comments stand one after another.
use Rattle.std.proofs.Common.{ℕ, zero, suc, ◌+◌, ◌<◌, ◌≤◌, Bool, true, false, List, [], ◌∷◌, ◌++◌}
use Rattle.std.proofs.Common.{length, get_or, sym, subst, inl, inr, arith, cond}
use Rattle.std.specs.Prelude.{⊤, All, ◌&&◌, ◌⊎◌}
use Rattle.std.proofs.lemmas.List.Elements.{All-nil, All-cons}
use Rattle.go_ast.specs.declared.token.Token.{Token}
use Rattle.go_ast.specs.declared.token.TokenKind.TheVariants.{AutoSemi}
use Rattle.go_ast.specs.declared.token.Comment.{Comment}
use Rattle.go_ast.specs.declared.token.Scanned.{Scanned}
use Rattle.go_ast.specs.Lexical.{Item, white_space, byte_order_mark, line_comment, general_comment}
use Rattle.go_ast.specs.Lexical.{spelled, print_item}
use Rattle.go_ast.specs.Reading.{tokens_at, tokens_of, comments_at, comments_of, takes_semicolon}
use Rattle.go_ast.specs.Reading.{kind_of, line_ends, token_of}
use Rattle.comment_blocks.specs.Groups.{IsScan}
use Rattle.comment_blocks.proofs.Scans.{low_end, start_of, token_starts_climb}

-- a token ends before a comment begins, or begins after it ends
abbrev pub Apart : Token → Comment → Type 0
Apart token comment =
    (token.span.end ≤ comment.span.start) ⊎ (comment.span.end ≤ token.span.start)

-- tokens and comments share no byte, and each comment ends before the next begins
pub record IsLaidOut (scanned : Scanned) : Type 0 where
  pub token_spans : All (λ (token : Token). token.span.start ≤ token.span.end) scanned.tokens
  pub comment_spans : All (λ (comment : Comment). comment.span.start ≤ comment.span.end)
      scanned.comments
  pub follow : (k n : ℕ) (d : Comment) → k < n → n < length scanned.comments
      → (get_or scanned.comments k d).span.end ≤ (get_or scanned.comments n d).span.start
  pub apart : All (λ token. All (Apart token) scanned.comments) scanned.tokens

-- comments stand one after another, from a low end on
abbrev Stand : ℕ → List Comment → Type 0
Stand low [] = ⊤
Stand low (c ∷ cs) = (low ≤ c.span.start) × (c.span.start ≤ c.span.end) × Stand c.span.end cs

stand_from_lower : (low lower : ℕ) (cs : List Comment) → lower ≤ low → Stand low cs → Stand lower cs
stand_from_lower low lower [] le h = tt
stand_from_lower low lower (c ∷ cs) le h = (omega (arith, h.0), h.1, h.2)

stand_spans : (low : ℕ) (cs : List Comment) → Stand low cs → (k : ℕ) (d : Comment) → k < length cs
    → (get_or cs k d).span.start ≤ (get_or cs k d).span.end
stand_spans low [] h k d lt = absurd (omega arith)
stand_spans low (c ∷ cs) h zero d lt = h.1
stand_spans low (c ∷ cs) h (suc k) d lt = stand_spans c.span.end cs h.2 k d (omega arith)

stand_behind : (low : ℕ) (cs : List Comment) → Stand low cs → (k : ℕ) (d : Comment) → k < length cs
    → low ≤ (get_or cs k d).span.start
stand_behind low [] h k d lt = absurd (omega arith)
stand_behind low (c ∷ cs) h zero d lt = h.0
stand_behind low (c ∷ cs) h (suc k) d lt =
    omega (arith, h.0, h.1, stand_behind c.span.end cs h.2 k d (omega arith))

stand_follow : (low : ℕ) (cs : List Comment) → Stand low cs → (k n : ℕ) (d : Comment) → k < n
    → n < length cs → (get_or cs k d).span.end ≤ (get_or cs n d).span.start
stand_follow low [] h k n d below lt = absurd (omega arith)
stand_follow low (c ∷ cs) h k zero d below lt = absurd (omega arith)
stand_follow low (c ∷ cs) h zero (suc n) d below lt =
    stand_behind c.span.end cs h.2 n d (omega arith)
stand_follow low (c ∷ cs) h (suc k) (suc n) d below lt =
    stand_follow c.span.end cs h.2 k n d (omega arith) (omega arith)

item_stands : (item : Item) (start end : ℕ) (later : List Comment) → start ≤ end → Stand end later
    → Stand start (comments_at start end item ++ later)
item_stands (white_space b) start end later le h = stand_from_lower end start later le h
item_stands byte_order_mark start end later le h = stand_from_lower end start later le h
item_stands (line_comment content) start end later le h = (omega arith, le, h)
item_stands (general_comment content) start end later le h = (omega arith, le, h)
item_stands (spelled spelling) start end later le h = stand_from_lower end start later le h

comments_stand : (items : List Item) (offset : ℕ) → Stand offset (comments_of offset items)
comments_stand [] offset = tt
comments_stand (item ∷ items) offset =
    let end = offset + length (print_item item) in
    item_stands item offset end (comments_of end items) (omega arith) (comments_stand items end)

abbrev IsSpan : Token → Type 0
IsSpan token = token.span.start ≤ token.span.end

semicolon_span : (t : Bool) (end : ℕ) (later : List Token) → All IsSpan later
    → All IsSpan (cond t (token_of AutoSemi end end ∷ []) [] ++ later)
semicolon_span true end later h = All-cons IsSpan (token_of AutoSemi end end) later (omega arith) h
semicolon_span false end later h = h

item_spans : (item : Item) (items : List Item) (start end : ℕ) (later : List Token) → start ≤ end
    → All IsSpan later → All IsSpan (tokens_at start end item items ++ later)
item_spans (white_space b) items start end later le h = h
item_spans byte_order_mark items start end later le h = h
item_spans (line_comment content) items start end later le h = h
item_spans (general_comment content) items start end later le h = h
item_spans (spelled spelling) items start end later le h =
    All-cons IsSpan _ _ le
    (semicolon_span (takes_semicolon spelling && line_ends items) end later h)

token_spans : (items : List Item) (offset : ℕ) → All IsSpan (tokens_of offset items)
token_spans [] offset = All-nil IsSpan
token_spans (item ∷ items) offset =
    let end = offset + length (print_item item) in
    item_spans item items offset end (tokens_of end items) (omega arith) (token_spans items end)

abbrev IsApart : List Comment → Token → Type 0
IsApart comments token = All (Apart token) comments

-- a token that ends where the comments begin at the earliest
in_front : (comments : List Comment) (token : Token) (end : ℕ) → Stand end comments
    → token.span.end ≤ end → IsApart comments token
in_front comments token end stand le =
    λ k d lt. inl (omega (arith, stand_behind end comments stand k d lt))

semicolon_apart : (t : Bool) (end : ℕ) (later : List Token) (comments : List Comment)
    → Stand end comments → All (IsApart comments) later
    → All (IsApart comments) (cond t (token_of AutoSemi end end ∷ []) [] ++ later)
semicolon_apart true end later comments stand h =
    All-cons (IsApart comments) (token_of AutoSemi end end) later
    (in_front comments (token_of AutoSemi end end) end stand (omega arith)) h
semicolon_apart false end later comments stand h = h

-- one more comment, in front of the tokens
comment_apart : (comment : Comment) (comments : List Comment) (tokens : List Token)
    → ((k : ℕ) (d : Token) → k < length tokens → comment.span.end ≤ start_of (get_or tokens k d))
    → All (IsApart comments) tokens → All (IsApart (comment ∷ comments)) tokens
comment_apart comment comments tokens behind h = λ k d lt.
    All-cons (Apart (get_or tokens k d)) comment comments (inr (behind k d lt)) (h k d lt)

item_apart : (item : Item) (items : List Item) (start end : ℕ) (tokens : List Token)
    (comments : List Comment)
    → ((k : ℕ) (d : Token) → k < length tokens → end ≤ start_of (get_or tokens k d))
    → Stand end comments → All (IsApart comments) tokens
    → All (IsApart (comments_at start end item ++ comments))
    (tokens_at start end item items ++ tokens)
item_apart (white_space b) items start end tokens comments behind stand h = h
item_apart byte_order_mark items start end tokens comments behind stand h = h
item_apart (line_comment content) items start end tokens comments behind stand h =
    comment_apart _ comments tokens behind h
item_apart (general_comment content) items start end tokens comments behind stand h =
    comment_apart _ comments tokens behind h
item_apart (spelled spelling) items start end tokens comments behind stand h =
    All-cons (IsApart comments) _ _
    (in_front comments (token_of (kind_of spelling) start end) end stand (omega arith))
    (semicolon_apart (takes_semicolon spelling && line_ends items) end tokens comments stand h)

all_apart : (items : List Item) (offset : ℕ)
    → All (IsApart (comments_of offset items)) (tokens_of offset items)
all_apart [] offset = All-nil (IsApart [])
all_apart (item ∷ items) offset =
    let end = offset + length (print_item item) in
    item_apart item items offset end (tokens_of end items) (comments_of end items)
    (low_end start_of end (tokens_of end items) (token_starts_climb items end))
    (comments_stand items end) (all_apart items end)

pub laid_out : (scanned : Scanned) → IsScan scanned → IsLaidOut scanned
laid_out scanned scan =
    let items = scan.read.items in
    let stand : Stand 0 scanned.comments =
    subst (Stand 0) (sym scan.read.all_comments) (comments_stand items 0) in
    record {
      token_spans = subst (All IsSpan) (sym scan.read.all_tokens) (token_spans items 0);
      comment_spans = stand_spans 0 scanned.comments stand;
      follow = stand_follow 0 scanned.comments stand;
      apart = subst (λ cs. All (IsApart cs) scanned.tokens) (sym scan.read.all_comments)
          (subst (All (IsApart (comments_of 0 items))) (sym scan.read.all_tokens)
          (all_apart items 0));
    }
