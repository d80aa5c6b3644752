-- The words of a range of tokens, in parts.
use Rattle.std.proofs.Common.{◌≡◌, ◌∙◌, ap, sym, refl, subst, ℕ, zero, suc, ◌+◌, ◌-◌, ◌<◌, ◌≤◌}
use Rattle.std.proofs.Common.{List, []}
use Rattle.std.proofs.Common.{◌∷◌, ◌++◌, length, take, drop, arith, unwrap_or, slice_get}
use Rattle.std.proofs.lemmas.Grind.{common_steps}
use Rattle.go_ast.specs.declared.token.Token.{Token}
use Rattle.go_ast.specs.declared.token.TokenRange.{TokenRange}
use Rattle.go_ast.specs.declared.word.Word.{Word}
use Rattle.go_ast.specs.Cutting.{last_of, range_of}
use Rattle.go_ast.specs.Marks.{word_of, words_from, words_of}

abbrev pub range : ℕ → ℕ → TokenRange
range first after = record { first = first; after = after }

from-append : (source : List ℕ) (place : ℕ) (xs ys : List Token)
    → words_from source place (xs ++ ys)
    ≡ words_from source place xs ++ words_from source (place + length xs) ys
from-append source place [] ys = let same : place ≡ place + 0 = omega arith in
    ap (λ p. words_from source p ys) same
from-append source place (x ∷ xs) ys =
    let same : (place + 1) + length xs ≡ place + suc (length xs) = omega arith in
    ap (λ ws. word_of source place x ∷ ws)
    (from-append source (place + 1) xs ys
    ∙ ap (λ p. words_from source (place + 1) xs ++ words_from source p ys) same)

take-none : (k : ℕ) → ◌≡◌ {A = List Token} (take k []) []
take-none zero = refl
take-none (suc k) = refl

-- as many elements as two numbers say, in two parts
take-parts : (n k : ℕ) (ts : List Token) → take (n + k) ts ≡ take n ts ++ take k (drop n ts)
take-parts zero k ts = let same : 0 + k ≡ k = omega arith in ap (λ i. take i ts) same
take-parts (suc n) k [] = take-none (suc n + k) ∙ sym (take-none k)
take-parts (suc n) k (t ∷ ts) =
    let same : suc n + k ≡ suc (n + k) = omega arith in
    ap (λ i. take i (t ∷ ts)) same ∙ ap (λ us. t ∷ us) (take-parts n k ts)

drop-parts : (n k : ℕ) (ts : List Token) → drop (n + k) ts ≡ drop k (drop n ts)
drop-parts n k ts = grind (arith, common_steps)

cut-take : (ts : List Token) (a b c : ℕ) → a ≤ b → b ≤ c
    → take (c - a) (drop a ts) ≡ take (b - a) (drop a ts) ++ take (c - b) (drop b ts)
cut-take ts a b c h k =
    let all : c - a ≡ (b - a) + (c - b) = omega (arith, h, k) in
    let there : b ≡ a + (b - a) = omega (arith, h) in
    ap (λ n. take n (drop a ts)) all ∙ take-parts (b - a) (c - b) (drop a ts)
    ∙ ap (λ us. take (b - a) (drop a ts) ++ take (c - b) us)
    (sym (ap (λ n. drop n ts) there ∙ drop-parts a (b - a) ts))

cut-length : (ts : List Token) (a b : ℕ) → a ≤ b → b ≤ length ts
    → length (take (b - a) (drop a ts)) ≡ b - a
cut-length ts a b h l = grind (arith, common_steps, h, l)

-- a range of tokens in two parts
pub words-split : (source : List ℕ) (ts : List Token) (a b c : ℕ) → a ≤ b → b ≤ c → c ≤ length ts
    → words_of source ts (range a c) ≡ words_of source ts (range a b) ++ words_of source ts
    (range b c)
unfolding words_of
words-split source ts a b c h k l =
    let within : b ≤ length ts = omega (arith, k, l) in
    let place : a + length (take (b - a) (drop a ts)) ≡ b =
    ap (λ n. a + n) (cut-length ts a b h within) ∙ omega (arith, h) in
    ap (words_from source a) (cut-take ts a b c h k)
    ∙ from-append source a (take (b - a) (drop a ts)) (take (c - b) (drop b ts))
    ∙ ap (λ p. words_from source a (take (b - a) (drop a ts))
    ++ words_from source p (take (c - b) (drop b ts))) place

any-default : (u : Word) (us : List Word) (v w : Word)
    → unwrap_or (slice_get (u ∷ us) (length us)) v ≡ unwrap_or (slice_get (u ∷ us) (length us)) w
any-default u [] v w = refl
any-default u (t ∷ us) v w = any-default t us v w

one-less : (n : ℕ) → suc n - 1 ≡ n
one-less n = omega arith

last-step : (w v : Word) (vs : List Word) → last_of w (v ∷ vs) ≡ last_of v vs
last-step w v [] = refl
last-step w v (u ∷ us) = rw (one-less (suc (length us)), one-less (length us))
    (any-default u us w v)

last-after : (source : List ℕ) (w : Word) (place : ℕ) (ts : List Token) → w.tokens.after ≡ place
    → (last_of w (words_from source place ts)).tokens.after ≡ place + length ts
last-after source w place [] e = e ∙ omega arith
last-after source w place (t ∷ ts) e =
    let v = word_of source place t in
    let same : (place + 1) + length ts ≡ place + suc (length ts) = omega arith in
    ap (λ u. u.tokens.after) (last-step w v (words_from source (place + 1) ts))
    ∙ last-after source v (place + 1) ts refl ∙ same

from-range : (source : List ℕ) (place : ℕ) (ts : List Token) (w : Word) (ws : List Word)
    → words_from source place ts ≡ w ∷ ws → range_of w ws ≡ range place (place + length ts)
from-range source place [] w ws e = absurd (cc)
from-range source place (t ∷ ts) w ws e =
    let v = word_of source place t in
    let first : v ≡ w = cc in
    let rest : words_from source (place + 1) ts ≡ ws = cc in
    let same : (place + 1) + length ts ≡ place + suc (length ts) = omega arith in
    let after = last-after source v (place + 1) ts refl ∙ same in
    subst (λ u. range_of u ws ≡ range place (place + suc (length ts))) first
    (subst (λ us. range_of v us ≡ range place (place + suc (length ts))) rest
    (ap (λ n. range place n) after))

-- the tokens from the first word of a range to the last are the range
pub range-of-words : (source : List ℕ) (ts : List Token) (a b : ℕ) (w : Word) (ws : List Word)
    → a ≤ b → b ≤ length ts → words_of source ts (range a b) ≡ w ∷ ws → range_of w ws ≡ range a b
unfolding words_of
range-of-words source ts a b w ws h l e =
    let place : a + length (take (b - a) (drop a ts)) ≡ b =
    ap (λ n. a + n) (cut-length ts a b h l) ∙ omega (arith, h) in
    from-range source a (take (b - a) (drop a ts)) w ws e ∙ ap (λ n. range a n) place

-- a range that has a token has a word
pub some-words : (source : List ℕ) (ts : List Token) (a b : ℕ) → a < b → b ≤ length ts
    → (w : Word) × (ws : List Word) × (words_of source ts (range a b) ≡ w ∷ ws)
unfolding words_of
some-words source ts a b h l =
    go (take (b - a) (drop a ts)) refl
  where
    go : (us : List Token) → take (b - a) (drop a ts) ≡ us
        → (w : Word) × (ws : List Word) × (words_from source a (take (b - a) (drop a ts)) ≡ w ∷ ws)
    go [] e =
        let none : length (take (b - a) (drop a ts)) ≡ 0 = ap length e in
        let some = cut-length ts a b (omega (arith, h)) l in
        absurd (omega (arith, h, none, some))
    go (t ∷ us) e = (word_of source a t, words_from source (a + 1) us, ap (words_from source a) e)

pub from-count : (source : List ℕ) (place : ℕ) (ts : List Token)
    → length (words_from source place ts) ≡ length ts
from-count source place [] = refl
from-count source place (t ∷ ts) = ap suc (from-count source (place + 1) ts)

-- as many words as tokens
pub words-count : (source : List ℕ) (ts : List Token) (a b : ℕ) → a ≤ b → b ≤ length ts
    → length (words_of source ts (range a b)) ≡ b - a
unfolding words_of
words-count source ts a b h l = from-count source a (take (b - a) (drop a ts))
    ∙ cut-length ts a b h l
