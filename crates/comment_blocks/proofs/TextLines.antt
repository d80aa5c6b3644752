-- A text that grows line by line is the text of its lines.
use Rattle.std.proofs.Common.{◌≡◌, ℕ, Bool, true, false, List, [], ◌∷◌, ◌++◌, map, refl, sym, ◌∙◌}
use Rattle.std.proofs.Common.{ap, append_assoc}
use Rattle.std.specs.List.{join_with_byte}
use Rattle.std.proofs.lemmas.List.{append-nil}
use Rattle.comment_blocks.specs.Texts.{gap_before, squeezed, text_of_lines, trimmed}
use Rattle.comment_blocks.specs.Texts.{without_first_gap}
use Rattle.comment_blocks.specs.TextSteps.{after_lines, after_trimmed, nothing}

-- what stands after a text that has a line already
abbrev tail_text : List (List ℕ) → List ℕ
tail_text [] = []
tail_text (line ∷ lines) = 10 ∷ join_with_byte 10 (line ∷ lines)

join_cons : (line : List ℕ) (lines : List (List ℕ)) → join_with_byte 10 (line ∷ lines)
    ≡ line ++ tail_text lines
join_cons line [] = sym (append-nil line)
join_cons line (next ∷ lines) = refl

gap_twice : (lines : List (List ℕ)) → gap_before (gap_before lines) ≡ gap_before lines
gap_twice [] = refl
gap_twice ([] ∷ lines) = refl
gap_twice ((b ∷ line) ∷ lines) = refl

no_gap : (lines : List (List ℕ)) → without_first_gap (gap_before lines) ≡ without_first_gap lines
no_gap [] = refl
no_gap ([] ∷ lines) = refl
no_gap ((b ∷ line) ∷ lines) = refl

-- the lines that are to come, after an empty line or not
abbrev to_come : Bool → List (List ℕ) → List (List ℕ)
to_come true lines = gap_before lines
to_come false lines = lines

-- what three appends make
behind : (b : ℕ) (text between line tail : List ℕ) → (b ∷ ((text ++ between) ++ line)) ++ tail
    ≡ (b ∷ text) ++ (between ++ (line ++ tail))
behind b text between line tail =
    ap (λ l. b ∷ l) (append_assoc (text ++ between) line tail
    ∙ append_assoc text between (line ++ tail))

one_break : (line : List ℕ) (lines : List (List ℕ)) → (10 ∷ []) ++ (line ++ tail_text lines)
    ≡ tail_text (line ∷ lines)
one_break line lines = ap (λ l. 10 ∷ l) (sym (join_cons line lines))

two_breaks : (line : List ℕ) (lines : List (List ℕ)) → (10 ∷ 10 ∷ []) ++ (line ++ tail_text lines)
    ≡ tail_text ([] ∷ line ∷ lines)
two_breaks line lines = ap (λ l. 10 ∷ 10 ∷ l) (sym (join_cons line lines))

-- a line after a text that has one, where the lines after it are known
step : (line : List ℕ) (lines : List (List ℕ)) (b : ℕ) (text : List ℕ) (gap : Bool)
    → ((c : ℕ) (before : List ℕ) (empty : Bool)
    → (after_lines (record { text = c ∷ before; gap = empty }) lines).text
    ≡ (c ∷ before) ++ tail_text (to_come empty (squeezed (map trimmed lines))))
    → (after_lines (after_trimmed (record { text = b ∷ text; gap = gap }) line) lines).text
    ≡ (b ∷ text) ++ tail_text (to_come gap (squeezed (line ∷ map trimmed lines)))
step [] lines b text true later =
    later b text true ∙ ap (λ ls. (b ∷ text) ++ tail_text ls)
    (sym (gap_twice (squeezed (map trimmed lines))))
step [] lines b text false later = later b text true
step (c ∷ line) lines b text true later =
    let s = squeezed (map trimmed lines) in
    later b ((text ++ (10 ∷ 10 ∷ [])) ++ (c ∷ line)) false
    ∙ behind b text (10 ∷ 10 ∷ []) (c ∷ line) (tail_text s)
    ∙ ap (λ l. (b ∷ text) ++ l) (two_breaks (c ∷ line) s)
step (c ∷ line) lines b text false later =
    let s = squeezed (map trimmed lines) in
    later b ((text ++ (10 ∷ [])) ++ (c ∷ line)) false
    ∙ behind b text (10 ∷ []) (c ∷ line) (tail_text s)
    ∙ ap (λ l. (b ∷ text) ++ l) (one_break (c ∷ line) s)

nothing_more : (b : ℕ) (text : List ℕ) (gap : Bool) → b ∷ text
    ≡ (b ∷ text) ++ tail_text (to_come gap [])
nothing_more b text true = sym (append-nil (b ∷ text))
nothing_more b text false = sym (append-nil (b ∷ text))

-- the lines after a text that has one
grown : (lines : List (List ℕ)) (b : ℕ) (text : List ℕ) (gap : Bool)
    → (after_lines (record { text = b ∷ text; gap = gap }) lines).text
    ≡ (b ∷ text) ++ tail_text (to_come gap (squeezed (map trimmed lines)))
grown [] b text gap = nothing_more b text gap
grown (line ∷ lines) b text gap = step (trimmed line) lines b text gap (grown lines)

first : (line : List ℕ) (lines : List (List ℕ)) (gap : Bool)
    → ((empty : Bool) → (after_lines (record { text = []; gap = empty }) lines).text
    ≡ text_of_lines lines)
    → (after_lines (after_trimmed (record { text = []; gap = gap }) line) lines).text
    ≡ join_with_byte 10 (without_first_gap (squeezed (line ∷ map trimmed lines)))
first [] lines gap later = later true
    ∙ ap (join_with_byte 10) (sym (no_gap (squeezed (map trimmed lines))))
first (c ∷ line) lines gap later = grown lines c line false
    ∙ sym (join_cons (c ∷ line) (squeezed (map trimmed lines)))

whole : (lines : List (List ℕ)) (gap : Bool)
    → (after_lines (record { text = []; gap = gap }) lines).text ≡ text_of_lines lines
whole [] gap = refl
whole (line ∷ lines) gap = first (trimmed line) lines gap (whole lines)

pub text_grows : (lines : List (List ℕ)) → (after_lines nothing lines).text ≡ text_of_lines lines
text_grows lines = whole lines false
