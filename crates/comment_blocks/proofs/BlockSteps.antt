-- The blocks of lines, span by span.
use Rattle.std.proofs.Common.{◌≡◌, ℕ, suc, ◌+◌, ◌-◌, ◌≤◌, Bool, true, false, List, [], ◌∷◌, ◌++◌}
use Rattle.std.proofs.Common.{take, drop, length, get_or, take_all, Bor, refl}
use Rattle.std.proofs.Common.{sym, ◌∙◌, ap, ⊎_elim, arith, append_assoc, true≢false}
use Rattle.std.specs.Prelude.{◌&&◌, ◌||◌, if◌then◌else◌}
use Rattle.std.specs.List.{prefix_len}
use Rattle.std.proofs.lemmas.Bool.{cases_Bool, cond-false, cond-true, not_from_false}
use Rattle.std.proofs.lemmas.List.{append-nil, drop-map, take-map}
use Rattle.std.proofs.Math.Bool.{or-false}
use Rattle.comment_blocks.specs.declared.block.Block.{Block}
use Rattle.comment_blocks.specs.Texts.{is_blank}
use Rattle.comment_blocks.specs.Spans.{gap, indented, is_empty, is_indented, is_plain}
use Rattle.comment_blocks.specs.Spans.{Piece, pieces_of, plain}
use Rattle.comment_blocks.specs.Blocks.{blocks_behind, indented_block, is_free, plain_beyond}
use Rattle.comment_blocks.specs.Blocks.{plain_block}
use Rattle.comment_blocks.specs.LineSteps.{block_at, blocks_from, reach, span_block, span_len}
use Rattle.comment_blocks.specs.LineSteps.{texts}
use Rattle.comment_blocks.proofs.Cuttings.{indented_front, plain_front}

-- what stands before the pieces matters by two facts alone
pub from_behind : (before pieces : List Piece) → blocks_behind before pieces
    ≡ blocks_from (is_free before) (plain_beyond before) pieces
from_behind before [] = refl
from_behind before (gap ∷ pieces) = from_behind (gap ∷ before) pieces
from_behind before (plain lines ∷ pieces) =
    ap (λ bs. plain_block (is_free before && is_free pieces)
    (plain_beyond before && plain_beyond pieces) lines ∷ bs)
    (from_behind (plain lines ∷ before) pieces)
from_behind before (indented lines ∷ pieces) =
    ap (λ bs. indented_block lines ∷ bs) (from_behind (indented lines ∷ before) pieces)

one_more : (done : List Block) (block : Block) (later : List Block) → (done ++ block ∷ []) ++ later
    ≡ done ++ (block ∷ later)
one_more done block later = append_assoc done (block ∷ []) later

-- a plain span more
pub plain_step : (done : List Block) (free among : Bool) (line : List ℕ)
    (after span behind : List (List ℕ)) (block : Block) → is_plain line ≡ true
    → span ≡ line ∷ take (prefix_len is_plain after) after → behind
    ≡ drop (prefix_len is_plain after) after
    → block ≡ plain_block (free && is_free (pieces_of behind))
    (among && plain_beyond (pieces_of behind)) span
    → (done ++ block ∷ []) ++ blocks_from false true (pieces_of behind)
    ≡ done ++ blocks_from free among (pieces_of (line ∷ after))
plain_step done free among line after span behind block is span_is behind_is block_is =
    one_more done block (blocks_from false true (pieces_of behind))
    ∙ ap (λ b. done ++ (b ∷ blocks_from false true (pieces_of behind))) block_is
    ∙ ap (λ ps. done ++ blocks_from free among ps)
    (ap (λ ls. plain ls ∷ pieces_of behind) span_is
    ∙ ap (λ ls. plain (line ∷ take (prefix_len is_plain after) after) ∷ pieces_of ls) behind_is
    ∙ sym (plain_front line after is))

-- an indented span more
pub indented_step : (done : List Block) (free among : Bool) (line : List ℕ)
    (after span behind : List (List ℕ)) (block : Block) → is_indented line ≡ true
    → span ≡ line ∷ take (reach after) after → behind ≡ drop (reach after) after → block
    ≡ indented_block span
    → (done ++ block ∷ []) ++ blocks_from false false (pieces_of behind)
    ≡ done ++ blocks_from free among (pieces_of (line ∷ after))
indented_step done free among line after span behind block is span_is behind_is block_is =
    one_more done block (blocks_from false false (pieces_of behind))
    ∙ ap (λ b. done ++ (b ∷ blocks_from false false (pieces_of behind))) block_is
    ∙ ap (λ ps. done ++ blocks_from free among ps)
    (ap (λ ls. indented ls ∷ pieces_of behind) span_is
    ∙ ap (λ ls. indented (line ∷ take (reach after) after) ∷ pieces_of ls) behind_is
    ∙ sym (indented_front line after is))

-- a line that isn't empty and isn't plain is indented
not_plain : (line : List ℕ) → is_empty line ≡ false → is_plain line ≡ false → is_indented line
    ≡ true
not_plain [] some other = absurd (true≢false some)
not_plain (b ∷ line) some other = ⊎_elim
    (λ (blank : is_blank b ≡ true). blank)
    (λ (no : is_blank b ≡ false).
    absurd (true≢false (sym (not_from_false (is_blank b) no) ∙ other)))
    (cases_Bool (is_blank b))

-- a span more
pub block_step : (done : List Block) (free among : Bool) (line : List ℕ)
    (after span behind : List (List ℕ)) (block : Block) → is_empty line ≡ false
    → span ≡ line ∷ take (span_len line after) after → behind ≡ drop (span_len line after) after
    → block ≡ span_block free among line span (pieces_of behind)
    → (done ++ block ∷ []) ++ blocks_from false (is_plain line) (pieces_of behind)
    ≡ done ++ blocks_from free among (pieces_of (line ∷ after))
block_step done free among line after span behind block some span_is behind_is block_is = ⊎_elim
    (λ (yes : is_plain line ≡ true).
    let len : span_len line after
    ≡ prefix_len is_plain after =
    cond-true (is_plain line) (prefix_len is_plain after)
    (if is_empty line then 0 else reach after) yes in
    let kind = cond-true (is_plain line)
    (plain_block (free && is_free (pieces_of behind)) (among && plain_beyond (pieces_of behind))
    span) (indented_block span) yes in
    ap (λ b. (done ++ block ∷ []) ++ blocks_from false b (pieces_of behind)) yes
    ∙ plain_step done free among line after span behind block yes
    (span_is ∙ ap (λ n. line ∷ take n after) len) (behind_is ∙ ap (λ n. drop n after) len)
    (block_is ∙ kind))
    (λ (no : is_plain line ≡ false).
    let len : span_len line after ≡ reach after =
    cond-false (is_plain line) (prefix_len is_plain after)
    (if is_empty line then 0 else reach after) no
    ∙ cond-false (is_empty line) 0 (reach after) some in
    let kind = cond-false (is_plain line)
    (plain_block (free && is_free (pieces_of behind)) (among && plain_beyond (pieces_of behind))
    span) (indented_block span) no in
    ap (λ b. (done ++ block ∷ []) ++ blocks_from false b (pieces_of behind)) no
    ∙ indented_step done free among line after span behind block (not_plain line some no)
    (span_is ∙ ap (λ n. line ∷ take n after) len) (behind_is ∙ ap (λ n. drop n after) len)
    (block_is ∙ kind))
    (cases_Bool (is_plain line))

-- what a piece adds to the blocks before it
pub blocks_step : (done : List Block) (free among : Bool) (line : List ℕ)
    (after span behind : List (List ℕ))
    → span ≡ line ∷ take (span_len line after) after → behind ≡ drop (span_len line after) after
    → (done ++ block_at free among line span (pieces_of behind)) ++ blocks_from (is_empty line)
    (is_plain line || (is_empty line && among)) (pieces_of behind)
    ≡ done ++ blocks_from free among (pieces_of (line ∷ after))
blocks_step done free among [] after span behind span_is behind_is =
    ap (λ ls. ls ++ blocks_from true among (pieces_of behind)) (append-nil done)
    ∙ ap (λ ls. done ++ blocks_from true among (pieces_of ls)) behind_is
blocks_step done free among (b ∷ line) after span behind span_is behind_is =
    ap (λ t. (done ++ block_at free among (b ∷ line) span (pieces_of behind)) ++ blocks_from false t
    (pieces_of behind)) (or-false (is_plain (b ∷ line)))
    ∙ block_step done free among (b ∷ line) after span behind
    (span_block free among (b ∷ line) span (pieces_of behind)) refl span_is behind_is refl

-- a list that isn't empty, as its first element and the rest
pub first_and_rest : {X : Type 0} (xs : List X) (d : X) → 1 ≤ length xs → xs
    ≡ get_or xs 0 d ∷ take (length xs - 1) (drop 1 xs)
first_and_rest [] d some = absurd (omega arith)
first_and_rest (x ∷ xs) d some =
    ap (λ l. x ∷ l) (sym (take_all (length (x ∷ xs) - 1) xs (omega arith)))

-- the texts of a span and of the lines after it
pub span_texts : (rest span : List (Bor (List ℕ))) (line : Bor (List ℕ))
    (after : List (Bor (List ℕ))) (k n : ℕ) → rest ≡ line ∷ after → k ≡ 1 + n
    → span ≡ take k rest → texts span ≡ line.now ∷ take n (texts after)
span_texts rest span line after k n rest_is k_is span_is =
    let more : k ≡ suc n = omega (arith, k_is) in
    ap texts (span_is ∙ ap (take k) rest_is ∙ ap (λ m. take m (line ∷ after)) more)
    ∙ ap (λ ls. line.now ∷ ls) (sym (take-map (λ (l : Bor (List ℕ)). l.now) n after))

pub behind_texts : (rest behind : List (Bor (List ℕ))) (line : Bor (List ℕ))
    (after : List (Bor (List ℕ))) (k n : ℕ) → rest ≡ line ∷ after → k ≡ 1 + n
    → behind ≡ drop k rest → texts behind ≡ drop n (texts after)
behind_texts rest behind line after k n rest_is k_is behind_is =
    let more : k ≡ suc n = omega (arith, k_is) in
    ap texts (behind_is ∙ ap (drop k) rest_is ∙ ap (λ m. drop m (line ∷ after)) more)
    ∙ sym (drop-map (λ (l : Bor (List ℕ)). l.now) n after)
