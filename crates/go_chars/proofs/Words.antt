-- Which words are among the keywords, by their length.
use Rattle.std.proofs.Common.{◌≡◌, ◌≢◌, ℕ, suc, Bool, true, false, ◌||◌, List, [], ◌∷◌, length}
use Rattle.std.proofs.Common.{refl, sym, ◌∙◌, ap, cond, eqb}
use Rattle.std.proofs.lemmas.Bool.{ne_eqb, eqb-false, and_right}
use Rattle.std.specs.Str.{bytes_eq}
use Rattle.std.specs.Prelude.{codes}
use Rattle.go_chars.specs.Identifiers.{is_among, keywords}

-- texts of unlike lengths differ
bytes_eq-lengths : (text known : List ℕ) → length known ≢ length text → bytes_eq text known ≡ false
bytes_eq-lengths [] [] unlike = absurd (unlike refl)
bytes_eq-lengths [] (y ∷ ys) unlike = refl
bytes_eq-lengths (x ∷ xs) [] unlike = refl
bytes_eq-lengths (x ∷ xs) (y ∷ ys) unlike =
    and_right _ _ (bytes_eq-lengths xs ys (λ same. unlike (ap suc same)))

-- the texts of a length
abbrev with_length : ℕ → List (List ℕ) → List (List ℕ)
with_length n [] = []
with_length n (text ∷ texts) =
    cond (eqb (length text) n) (text ∷ with_length n texts) (with_length n texts)

step : (known : List ℕ) (rest : List (List ℕ)) (text : List ℕ) (b : Bool)
    → eqb (length known) (length text) ≡ b
    → (bytes_eq text known || is_among rest text) ≡ is_among (cond b (known ∷ rest) rest) text
step known rest text true same = refl
step known rest text false unlike =
    ap (λ b. b || is_among rest text) (bytes_eq-lengths text known (eqb-false _ _ unlike))

-- only texts of its length count
pub is_among-with_length : (texts : List (List ℕ)) (text : List ℕ)
    → is_among texts text ≡ is_among (with_length (length text) texts) text
is_among-with_length [] text = refl
is_among-with_length (known ∷ texts) text =
    ap (λ b. bytes_eq text known || b) (is_among-with_length texts text) ∙ step known _ text _ refl

of_length : (text : List ℕ) (n : ℕ) → length text ≡ n
    → is_among keywords text ≡ is_among (with_length n keywords) text
of_length text n same = is_among-with_length keywords text
    ∙ ap (λ m. is_among (with_length m keywords) text) same

or_false : (b : Bool) → (b || false) ≡ b
or_false true = refl
or_false false = refl

pub keyword_of_two : (text : List ℕ) → length text ≡ 2
    → is_among keywords text ≡ is_among (codes "go" ∷ codes "if" ∷ []) text
unfolding keywords
keyword_of_two text same = of_length text 2 same

pub keyword_of_three : (text : List ℕ) → length text ≡ 3
    → is_among keywords text ≡ is_among (codes "for" ∷ codes "map" ∷ codes "var" ∷ []) text
unfolding keywords
keyword_of_three text same = of_length text 3 same

pub keyword_of_four : (text : List ℕ) → length text ≡ 4
    → is_among keywords text
    ≡ is_among
    (codes "case" ∷ codes "chan" ∷ codes "else" ∷ codes "func" ∷ codes "goto" ∷ codes "type" ∷ [])
    text
unfolding keywords
keyword_of_four text same = of_length text 4 same

pub keyword_of_five : (text : List ℕ) → length text ≡ 5
    → is_among keywords text
    ≡ is_among (codes "break" ∷ codes "const" ∷ codes "defer" ∷ codes "range" ∷ []) text
unfolding keywords
keyword_of_five text same = of_length text 5 same

pub keyword_of_six : (text : List ℕ) → length text ≡ 6
    → is_among keywords text
    ≡ is_among
    (codes "import" ∷ codes "return" ∷ codes "select" ∷ codes "struct" ∷ codes "switch" ∷ []) text
unfolding keywords
keyword_of_six text same = of_length text 6 same

pub keyword_of_seven : (text : List ℕ) → length text ≡ 7
    → is_among keywords text ≡ is_among (codes "default" ∷ codes "package" ∷ []) text
unfolding keywords
keyword_of_seven text same = of_length text 7 same

pub keyword_of_eight : (text : List ℕ) → length text ≡ 8
    → is_among keywords text ≡ bytes_eq text (codes "continue")
unfolding keywords
keyword_of_eight text same = of_length text 8 same ∙ or_false _

pub keyword_of_nine : (text : List ℕ) → length text ≡ 9
    → is_among keywords text ≡ bytes_eq text (codes "interface")
unfolding keywords
keyword_of_nine text same = of_length text 9 same ∙ or_false _

pub keyword_of_eleven : (text : List ℕ) → length text ≡ 11
    → is_among keywords text ≡ bytes_eq text (codes "fallthrough")
unfolding keywords
keyword_of_eleven text same = of_length text 11 same ∙ or_false _

-- no keyword has another length
pub keyword_of_none : (text : List ℕ) → length text ≢ 2 → length text ≢ 3 → length text ≢ 4
    → length text ≢ 5 → length text ≢ 6 → length text ≢ 7 → length text ≢ 8 → length text ≢ 9
    → length text ≢ 11 → is_among keywords text ≡ false
unfolding keywords
keyword_of_none text two three four five six seven eight nine eleven =
    let n = length text in
    let e2 = ne_eqb 2 n (λ e. two (sym e)) in
    let e3 = ne_eqb 3 n (λ e. three (sym e)) in
    let e4 = ne_eqb 4 n (λ e. four (sym e)) in
    let e5 = ne_eqb 5 n (λ e. five (sym e)) in
    let e6 = ne_eqb 6 n (λ e. six (sym e)) in
    let e7 = ne_eqb 7 n (λ e. seven (sym e)) in
    let e8 = ne_eqb 8 n (λ e. eight (sym e)) in
    let e9 = ne_eqb 9 n (λ e. nine (sym e)) in
    let e11 = ne_eqb 11 n (λ e. eleven (sym e)) in
    is_among-with_length keywords text ∙ simp (e2, e3, e4, e5, e6, e7, e8, e9, e11)

pub ruleset keywords_by_length = (
  keyword_of_two,
  keyword_of_three,
  keyword_of_four,
  keyword_of_five,
  keyword_of_six,
  keyword_of_seven,
  keyword_of_eight,
  keyword_of_nine,
  keyword_of_eleven,
  keyword_of_none,
)
