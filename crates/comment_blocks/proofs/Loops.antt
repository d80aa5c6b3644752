-- A step of each loop over lines.
use Rattle.std.proofs.Common.{◌≡◌, ◌==◌, ℕ, ◌+◌, Bool, List, [], ◌∷◌, ◌++◌, take, drop, length, max}
use Rattle.std.proofs.Common.{refl, sym, ◌∙◌, ap, arith, Bor}
use Rattle.std.specs.Prelude.{◌&&◌, ◌||◌}
use Rattle.std.specs.List.{prefix_len}
use Rattle.std.proofs.lemmas.Bool.{ne_eqb}
use Rattle.std.proofs.lemmas.List.{drop-map, take-map}
use Rattle.comment_blocks.specs.declared.block.Block.{Block}
use Rattle.comment_blocks.specs.declared.block.Item.{Item}
use Rattle.comment_blocks.specs.Spans.{is_empty, is_plain, pieces_of}
use Rattle.comment_blocks.specs.Lists.{item_paragraphs, items_of, marker_of}
use Rattle.comment_blocks.specs.LineSteps.{block_at, blocks_from, is_filled, is_unmarked, item_at}
use Rattle.comment_blocks.specs.LineSteps.{paragraph_at, span_len, texts}
use Rattle.comment_blocks.proofs.Items.{items_step, paragraphs_step}
use Rattle.comment_blocks.proofs.BlockSteps.{behind_texts, blocks_step, span_texts}

abbrev Lines : Type 0
Lines = List (Bor (List ℕ))

texts_take : (n : ℕ) (lines : Lines) → texts (take n lines) ≡ take n (texts lines)
texts_take n lines = sym (take-map (λ (l : Bor (List ℕ)). l.now) n lines)

texts_drop : (n : ℕ) (lines : Lines) → texts (drop n lines) ≡ drop n (texts lines)
texts_drop n lines = sym (drop-map (λ (l : Bor (List ℕ)). l.now) n lines)

pub items_loop : (rest : Lines) (line : Bor (List ℕ)) (after more behind : Lines) (n : ℕ)
    (done new all : List Item) → rest ≡ line ∷ after
    → n ≡ prefix_len is_unmarked (texts after) → more ≡ take n after → behind ≡ drop n after
    → new ≡ done ++ item_at (marker_of line.now) (texts more) → done ++ items_of (texts rest) ≡ all
    → new ++ items_of (texts behind) ≡ all
items_loop rest line after more behind n done new all rest_is n_is more_is behind_is new_is before =
    let m = prefix_len is_unmarked (texts after) in
    let more_texts : texts more ≡ take m (texts after) = ap texts more_is ∙ texts_take n after
    ∙ ap (λ k. take k (texts after)) n_is in
    let behind_texts : texts behind ≡ drop m (texts after) = ap texts behind_is ∙ texts_drop n after
    ∙ ap (λ k. drop k (texts after)) n_is in
    ap (λ ls. ls ++ items_of (texts behind))
    (new_is ∙ ap (λ ls. done ++ item_at (marker_of line.now) ls) more_texts)
    ∙ ap (λ ls. (done ++ item_at (marker_of line.now) (take m (texts after))) ++ items_of ls)
    behind_texts
    ∙ items_step done line.now (texts after)
    ∙ ap (λ ls. done ++ items_of (texts ls)) (sym rest_is) ∙ before

pub paragraphs_loop : (rest : Lines) (line : Bor (List ℕ)) (after more behind : Lines) (n : ℕ)
    (done new all : List (List ℕ)) → rest ≡ line ∷ after
    → n ≡ max (prefix_len is_filled (texts rest)) 1 → more ≡ take n rest → behind ≡ drop n rest
    → new ≡ done ++ paragraph_at line.now (texts more) → done ++ item_paragraphs (texts rest) ≡ all
    → new ++ item_paragraphs (texts behind) ≡ all
paragraphs_loop rest line after more behind n done new all rest_is n_is more_is behind_is new_is
    before =
    let m = max (prefix_len is_filled (texts (line ∷ after))) 1 in
    let size : n ≡ m = n_is ∙ ap (λ ls. max (prefix_len is_filled (texts ls)) 1) rest_is in
    let more_texts : texts more ≡ take m (texts (line ∷ after)) =
    ap texts more_is ∙ texts_take n rest ∙ ap (λ k. take k (texts rest)) size
    ∙ ap (λ ls. take m (texts ls)) rest_is in
    let behind_texts : texts behind ≡ drop m (texts (line ∷ after)) =
    ap texts behind_is ∙ texts_drop n rest ∙ ap (λ k. drop k (texts rest)) size
    ∙ ap (λ ls. drop m (texts ls)) rest_is in
    ap (λ ls. ls ++ item_paragraphs (texts behind))
    (new_is ∙ ap (λ ls. done ++ paragraph_at line.now ls) more_texts)
    ∙ ap (λ ls. (done ++ paragraph_at line.now (take m (texts (line ∷ after)))) ++ item_paragraphs
    ls) behind_texts
    ∙ paragraphs_step done line.now (texts after)
    ∙ ap (λ ls. done ++ item_paragraphs (texts ls)) (sym rest_is) ∙ before

pub no_length : (line : List ℕ) → (length line == 0) ≡ is_empty line
no_length [] = refl
no_length (b ∷ line) = ne_eqb (length (b ∷ line)) 0 (λ e. absurd (omega (arith, e)))

pub blocks_loop : (rest : Lines) (line : Bor (List ℕ)) (after span behind : Lines) (k : ℕ)
    (done new all : List Block) (free among free_next among_next : Bool)
    → rest ≡ line ∷ after → k ≡ 1 + span_len line.now (texts after) → span ≡ take k rest → behind
    ≡ drop k rest
    → new ≡ done ++ block_at free among line.now (texts span) (pieces_of (texts behind))
    → free_next ≡ is_empty line.now → among_next
    ≡ (is_plain line.now || (is_empty line.now && among))
    → done ++ blocks_from free among (pieces_of (texts rest)) ≡ all
    → new ++ blocks_from free_next among_next (pieces_of (texts behind)) ≡ all
blocks_loop rest line after span behind k done new all free among free_next among_next rest_is k_is
    span_is behind_is new_is free_is among_is before =
    let n = span_len line.now (texts after) in
    ap (λ ls. ls ++ blocks_from free_next among_next (pieces_of (texts behind))) new_is
    ∙ ap (λ f. (done ++ block_at free among line.now (texts span) (pieces_of (texts behind)))
    ++ blocks_from f among_next (pieces_of (texts behind))) free_is
    ∙ ap (λ f. (done ++ block_at free among line.now (texts span) (pieces_of (texts behind)))
    ++ blocks_from (is_empty line.now) f (pieces_of (texts behind))) among_is
    ∙ blocks_step done free among line.now (texts after) (texts span) (texts behind)
    (span_texts rest span line after k n rest_is k_is span_is)
    (behind_texts rest behind line after k n rest_is k_is behind_is)
    ∙ ap (λ ls. done ++ blocks_from free among (pieces_of (texts ls))) (sym rest_is) ∙ before
