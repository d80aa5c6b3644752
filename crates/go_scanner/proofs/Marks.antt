-- The longest operator at the front of some bytes, by its first three bytes.
use Rattle.std.proofs.Common.{◌≡◌, ℕ, ◌≤◌, Bool, true, false, List, [], ◌∷◌, length, take, get_or}
use Rattle.std.proofs.Common.{Option, Some, None, refl, sym, ◌∙◌, ap, subst, arith, cond, eqb}
use Rattle.std.proofs.Common.{⊎_elim}
use Rattle.std.proofs.lemmas.Bool.{cases_eq, cond-false, ne_eqb, and_right}
use Rattle.go_ast.specs.Lexical.{operators}
use Rattle.go_scanner.specs.declared.shape.Shape.{Shape}
use Rattle.go_scanner.specs.Shapes.{operator_shape, mark_shape}
use Rattle.go_scanner.specs.Marks.{operator_length}

-- the operator of so many bytes at the front
abbrev of_length : ℕ → List ℕ → Option Shape
of_length n bytes = cond (eqb n 0) None (Some (mark_shape (take n bytes)))

-- what holds at k, and where n isn't k, holds
by_value : (P : ℕ → Type 0) (n k : ℕ) → P k → (eqb n k ≡ false → P n) → P n
by_value P n k here elsewhere =
    ⊎_elim (λ (same : n ≡ k). subst P (sym same) here)
    (λ (unlike : n ≡ k → ⊥). elsewhere (ne_eqb n k unlike)) (cases_eq n k)

at_left_parenthesis : (rest : List ℕ)
    → operator_shape (40 ∷ rest) ≡ of_length
    (operator_length 40 (get_or rest 0 0) (get_or rest 1 0)) (40 ∷ rest)
unfolding operator_shape operators
at_left_parenthesis [] = refl
at_left_parenthesis (b ∷ []) = refl
at_left_parenthesis (b ∷ c ∷ more) = refl

at_right_parenthesis : (rest : List ℕ)
    → operator_shape (41 ∷ rest) ≡ of_length
    (operator_length 41 (get_or rest 0 0) (get_or rest 1 0)) (41 ∷ rest)
unfolding operator_shape operators
at_right_parenthesis [] = refl
at_right_parenthesis (b ∷ []) = refl
at_right_parenthesis (b ∷ c ∷ more) = refl

at_left_bracket : (rest : List ℕ)
    → operator_shape (91 ∷ rest) ≡ of_length
    (operator_length 91 (get_or rest 0 0) (get_or rest 1 0)) (91 ∷ rest)
unfolding operator_shape operators
at_left_bracket [] = refl
at_left_bracket (b ∷ []) = refl
at_left_bracket (b ∷ c ∷ more) = refl

at_right_bracket : (rest : List ℕ)
    → operator_shape (93 ∷ rest) ≡ of_length
    (operator_length 93 (get_or rest 0 0) (get_or rest 1 0)) (93 ∷ rest)
unfolding operator_shape operators
at_right_bracket [] = refl
at_right_bracket (b ∷ []) = refl
at_right_bracket (b ∷ c ∷ more) = refl

at_left_brace : (rest : List ℕ)
    → operator_shape (123 ∷ rest) ≡ of_length
    (operator_length 123 (get_or rest 0 0) (get_or rest 1 0)) (123 ∷ rest)
unfolding operator_shape operators
at_left_brace [] = refl
at_left_brace (b ∷ []) = refl
at_left_brace (b ∷ c ∷ more) = refl

at_right_brace : (rest : List ℕ)
    → operator_shape (125 ∷ rest) ≡ of_length
    (operator_length 125 (get_or rest 0 0) (get_or rest 1 0)) (125 ∷ rest)
unfolding operator_shape operators
at_right_brace [] = refl
at_right_brace (b ∷ []) = refl
at_right_brace (b ∷ c ∷ more) = refl

at_comma : (rest : List ℕ)
    → operator_shape (44 ∷ rest) ≡ of_length
    (operator_length 44 (get_or rest 0 0) (get_or rest 1 0)) (44 ∷ rest)
unfolding operator_shape operators
at_comma [] = refl
at_comma (b ∷ []) = refl
at_comma (b ∷ c ∷ more) = refl

at_tilde : (rest : List ℕ)
    → operator_shape (126 ∷ rest) ≡ of_length
    (operator_length 126 (get_or rest 0 0) (get_or rest 1 0)) (126 ∷ rest)
unfolding operator_shape operators
at_tilde [] = refl
at_tilde (b ∷ []) = refl
at_tilde (b ∷ c ∷ more) = refl

at_star : (rest : List ℕ)
    → operator_shape (42 ∷ rest) ≡ of_length
    (operator_length 42 (get_or rest 0 0) (get_or rest 1 0)) (42 ∷ rest)
unfolding operator_shape operators
at_star [] = refl
at_star (b ∷ []) =
    by_value
    (λ b. operator_shape (42 ∷ b ∷ []) ≡ of_length
    (operator_length 42 (get_or (b ∷ []) 0 0) (get_or (b ∷ []) 1 0)) (42 ∷ b ∷ [])) b 61 (refl)
    (λ b61. simp (b61))
at_star (b ∷ c ∷ more) =
    by_value
    (λ b. operator_shape (42 ∷ b ∷ c ∷ more) ≡ of_length
    (operator_length 42 (get_or (b ∷ c ∷ more) 0 0) (get_or (b ∷ c ∷ more) 1 0))
    (42 ∷ b ∷ c ∷ more)) b 61 (refl) (λ b61. simp (b61))

at_slash : (rest : List ℕ)
    → operator_shape (47 ∷ rest) ≡ of_length
    (operator_length 47 (get_or rest 0 0) (get_or rest 1 0)) (47 ∷ rest)
unfolding operator_shape operators
at_slash [] = refl
at_slash (b ∷ []) =
    by_value
    (λ b. operator_shape (47 ∷ b ∷ []) ≡ of_length
    (operator_length 47 (get_or (b ∷ []) 0 0) (get_or (b ∷ []) 1 0)) (47 ∷ b ∷ [])) b 61 (refl)
    (λ b61. simp (b61))
at_slash (b ∷ c ∷ more) =
    by_value
    (λ b. operator_shape (47 ∷ b ∷ c ∷ more) ≡ of_length
    (operator_length 47 (get_or (b ∷ c ∷ more) 0 0) (get_or (b ∷ c ∷ more) 1 0))
    (47 ∷ b ∷ c ∷ more)) b 61 (refl) (λ b61. simp (b61))

at_percent : (rest : List ℕ)
    → operator_shape (37 ∷ rest) ≡ of_length
    (operator_length 37 (get_or rest 0 0) (get_or rest 1 0)) (37 ∷ rest)
unfolding operator_shape operators
at_percent [] = refl
at_percent (b ∷ []) =
    by_value
    (λ b. operator_shape (37 ∷ b ∷ []) ≡ of_length
    (operator_length 37 (get_or (b ∷ []) 0 0) (get_or (b ∷ []) 1 0)) (37 ∷ b ∷ [])) b 61 (refl)
    (λ b61. simp (b61))
at_percent (b ∷ c ∷ more) =
    by_value
    (λ b. operator_shape (37 ∷ b ∷ c ∷ more) ≡ of_length
    (operator_length 37 (get_or (b ∷ c ∷ more) 0 0) (get_or (b ∷ c ∷ more) 1 0))
    (37 ∷ b ∷ c ∷ more)) b 61 (refl) (λ b61. simp (b61))

at_caret : (rest : List ℕ)
    → operator_shape (94 ∷ rest) ≡ of_length
    (operator_length 94 (get_or rest 0 0) (get_or rest 1 0)) (94 ∷ rest)
unfolding operator_shape operators
at_caret [] = refl
at_caret (b ∷ []) =
    by_value
    (λ b. operator_shape (94 ∷ b ∷ []) ≡ of_length
    (operator_length 94 (get_or (b ∷ []) 0 0) (get_or (b ∷ []) 1 0)) (94 ∷ b ∷ [])) b 61 (refl)
    (λ b61. simp (b61))
at_caret (b ∷ c ∷ more) =
    by_value
    (λ b. operator_shape (94 ∷ b ∷ c ∷ more) ≡ of_length
    (operator_length 94 (get_or (b ∷ c ∷ more) 0 0) (get_or (b ∷ c ∷ more) 1 0))
    (94 ∷ b ∷ c ∷ more)) b 61 (refl) (λ b61. simp (b61))

at_equals : (rest : List ℕ)
    → operator_shape (61 ∷ rest) ≡ of_length
    (operator_length 61 (get_or rest 0 0) (get_or rest 1 0)) (61 ∷ rest)
unfolding operator_shape operators
at_equals [] = refl
at_equals (b ∷ []) =
    by_value
    (λ b. operator_shape (61 ∷ b ∷ []) ≡ of_length
    (operator_length 61 (get_or (b ∷ []) 0 0) (get_or (b ∷ []) 1 0)) (61 ∷ b ∷ [])) b 61 (refl)
    (λ b61. simp (b61))
at_equals (b ∷ c ∷ more) =
    by_value
    (λ b. operator_shape (61 ∷ b ∷ c ∷ more) ≡ of_length
    (operator_length 61 (get_or (b ∷ c ∷ more) 0 0) (get_or (b ∷ c ∷ more) 1 0))
    (61 ∷ b ∷ c ∷ more)) b 61 (refl) (λ b61. simp (b61))

at_bang : (rest : List ℕ)
    → operator_shape (33 ∷ rest) ≡ of_length
    (operator_length 33 (get_or rest 0 0) (get_or rest 1 0)) (33 ∷ rest)
unfolding operator_shape operators
at_bang [] = refl
at_bang (b ∷ []) =
    by_value
    (λ b. operator_shape (33 ∷ b ∷ []) ≡ of_length
    (operator_length 33 (get_or (b ∷ []) 0 0) (get_or (b ∷ []) 1 0)) (33 ∷ b ∷ [])) b 61 (refl)
    (λ b61. simp (b61))
at_bang (b ∷ c ∷ more) =
    by_value
    (λ b. operator_shape (33 ∷ b ∷ c ∷ more) ≡ of_length
    (operator_length 33 (get_or (b ∷ c ∷ more) 0 0) (get_or (b ∷ c ∷ more) 1 0))
    (33 ∷ b ∷ c ∷ more)) b 61 (refl) (λ b61. simp (b61))

at_colon : (rest : List ℕ)
    → operator_shape (58 ∷ rest) ≡ of_length
    (operator_length 58 (get_or rest 0 0) (get_or rest 1 0)) (58 ∷ rest)
unfolding operator_shape operators
at_colon [] = refl
at_colon (b ∷ []) =
    by_value
    (λ b. operator_shape (58 ∷ b ∷ []) ≡ of_length
    (operator_length 58 (get_or (b ∷ []) 0 0) (get_or (b ∷ []) 1 0)) (58 ∷ b ∷ [])) b 61 (refl)
    (λ b61. simp (b61))
at_colon (b ∷ c ∷ more) =
    by_value
    (λ b. operator_shape (58 ∷ b ∷ c ∷ more) ≡ of_length
    (operator_length 58 (get_or (b ∷ c ∷ more) 0 0) (get_or (b ∷ c ∷ more) 1 0))
    (58 ∷ b ∷ c ∷ more)) b 61 (refl) (λ b61. simp (b61))

at_plus : (rest : List ℕ)
    → operator_shape (43 ∷ rest) ≡ of_length
    (operator_length 43 (get_or rest 0 0) (get_or rest 1 0)) (43 ∷ rest)
unfolding operator_shape operators
at_plus [] = refl
at_plus (b ∷ []) =
    by_value
    (λ b. operator_shape (43 ∷ b ∷ []) ≡ of_length
    (operator_length 43 (get_or (b ∷ []) 0 0) (get_or (b ∷ []) 1 0)) (43 ∷ b ∷ [])) b 43 (refl)
    (λ b43. by_value
    (λ b. operator_shape (43 ∷ b ∷ []) ≡ of_length
    (operator_length 43 (get_or (b ∷ []) 0 0) (get_or (b ∷ []) 1 0)) (43 ∷ b ∷ [])) b 61 (refl)
    (λ b61. simp (b43, b61)))
at_plus (b ∷ c ∷ more) =
    by_value
    (λ b. operator_shape (43 ∷ b ∷ c ∷ more) ≡ of_length
    (operator_length 43 (get_or (b ∷ c ∷ more) 0 0) (get_or (b ∷ c ∷ more) 1 0))
    (43 ∷ b ∷ c ∷ more)) b 43 (refl)
    (λ b43. by_value
    (λ b. operator_shape (43 ∷ b ∷ c ∷ more) ≡ of_length
    (operator_length 43 (get_or (b ∷ c ∷ more) 0 0) (get_or (b ∷ c ∷ more) 1 0))
    (43 ∷ b ∷ c ∷ more)) b 61 (refl) (λ b61. simp (b43, b61)))

at_minus : (rest : List ℕ)
    → operator_shape (45 ∷ rest) ≡ of_length
    (operator_length 45 (get_or rest 0 0) (get_or rest 1 0)) (45 ∷ rest)
unfolding operator_shape operators
at_minus [] = refl
at_minus (b ∷ []) =
    by_value
    (λ b. operator_shape (45 ∷ b ∷ []) ≡ of_length
    (operator_length 45 (get_or (b ∷ []) 0 0) (get_or (b ∷ []) 1 0)) (45 ∷ b ∷ [])) b 45 (refl)
    (λ b45. by_value
    (λ b. operator_shape (45 ∷ b ∷ []) ≡ of_length
    (operator_length 45 (get_or (b ∷ []) 0 0) (get_or (b ∷ []) 1 0)) (45 ∷ b ∷ [])) b 61 (refl)
    (λ b61. simp (b45, b61)))
at_minus (b ∷ c ∷ more) =
    by_value
    (λ b. operator_shape (45 ∷ b ∷ c ∷ more) ≡ of_length
    (operator_length 45 (get_or (b ∷ c ∷ more) 0 0) (get_or (b ∷ c ∷ more) 1 0))
    (45 ∷ b ∷ c ∷ more)) b 45 (refl)
    (λ b45. by_value
    (λ b. operator_shape (45 ∷ b ∷ c ∷ more) ≡ of_length
    (operator_length 45 (get_or (b ∷ c ∷ more) 0 0) (get_or (b ∷ c ∷ more) 1 0))
    (45 ∷ b ∷ c ∷ more)) b 61 (refl) (λ b61. simp (b45, b61)))

at_bar : (rest : List ℕ)
    → operator_shape (124 ∷ rest) ≡ of_length
    (operator_length 124 (get_or rest 0 0) (get_or rest 1 0)) (124 ∷ rest)
unfolding operator_shape operators
at_bar [] = refl
at_bar (b ∷ []) =
    by_value
    (λ b. operator_shape (124 ∷ b ∷ []) ≡ of_length
    (operator_length 124 (get_or (b ∷ []) 0 0) (get_or (b ∷ []) 1 0)) (124 ∷ b ∷ [])) b 124 (refl)
    (λ b124. by_value
    (λ b. operator_shape (124 ∷ b ∷ []) ≡ of_length
    (operator_length 124 (get_or (b ∷ []) 0 0) (get_or (b ∷ []) 1 0)) (124 ∷ b ∷ [])) b 61 (refl)
    (λ b61. simp (b124, b61)))
at_bar (b ∷ c ∷ more) =
    by_value
    (λ b. operator_shape (124 ∷ b ∷ c ∷ more) ≡ of_length
    (operator_length 124 (get_or (b ∷ c ∷ more) 0 0) (get_or (b ∷ c ∷ more) 1 0))
    (124 ∷ b ∷ c ∷ more)) b 124 (refl)
    (λ b124. by_value
    (λ b. operator_shape (124 ∷ b ∷ c ∷ more) ≡ of_length
    (operator_length 124 (get_or (b ∷ c ∷ more) 0 0) (get_or (b ∷ c ∷ more) 1 0))
    (124 ∷ b ∷ c ∷ more)) b 61 (refl) (λ b61. simp (b124, b61)))

at_full_stop : (rest : List ℕ)
    → operator_shape (46 ∷ rest) ≡ of_length
    (operator_length 46 (get_or rest 0 0) (get_or rest 1 0)) (46 ∷ rest)
unfolding operator_shape operators
at_full_stop [] = refl
at_full_stop (b ∷ []) =
    by_value
    (λ b. operator_shape (46 ∷ b ∷ []) ≡ of_length
    (operator_length 46 (get_or (b ∷ []) 0 0) (get_or (b ∷ []) 1 0)) (46 ∷ b ∷ [])) b 46 (refl)
    (λ b46. simp (b46))
at_full_stop (b ∷ c ∷ more) =
    by_value
    (λ b. operator_shape (46 ∷ b ∷ c ∷ more) ≡ of_length
    (operator_length 46 (get_or (b ∷ c ∷ more) 0 0) (get_or (b ∷ c ∷ more) 1 0))
    (46 ∷ b ∷ c ∷ more)) b 46
    (by_value
    (λ c. operator_shape (46 ∷ 46 ∷ c ∷ more) ≡ of_length
    (operator_length 46 (get_or (46 ∷ c ∷ more) 0 0) (get_or (46 ∷ c ∷ more) 1 0))
    (46 ∷ 46 ∷ c ∷ more)) c 46 (refl) (λ c46. simp (c46))) (λ b46. simp (b46))

at_less : (rest : List ℕ)
    → operator_shape (60 ∷ rest) ≡ of_length
    (operator_length 60 (get_or rest 0 0) (get_or rest 1 0)) (60 ∷ rest)
unfolding operator_shape operators
at_less [] = refl
at_less (b ∷ []) =
    by_value
    (λ b. operator_shape (60 ∷ b ∷ []) ≡ of_length
    (operator_length 60 (get_or (b ∷ []) 0 0) (get_or (b ∷ []) 1 0)) (60 ∷ b ∷ [])) b 60 (refl)
    (λ b60. by_value
    (λ b. operator_shape (60 ∷ b ∷ []) ≡ of_length
    (operator_length 60 (get_or (b ∷ []) 0 0) (get_or (b ∷ []) 1 0)) (60 ∷ b ∷ [])) b 45 (refl)
    (λ b45. by_value
    (λ b. operator_shape (60 ∷ b ∷ []) ≡ of_length
    (operator_length 60 (get_or (b ∷ []) 0 0) (get_or (b ∷ []) 1 0)) (60 ∷ b ∷ [])) b 61 (refl)
    (λ b61. simp (b60, b45, b61))))
at_less (b ∷ c ∷ more) =
    by_value
    (λ b. operator_shape (60 ∷ b ∷ c ∷ more) ≡ of_length
    (operator_length 60 (get_or (b ∷ c ∷ more) 0 0) (get_or (b ∷ c ∷ more) 1 0))
    (60 ∷ b ∷ c ∷ more)) b 60
    (by_value
    (λ c. operator_shape (60 ∷ 60 ∷ c ∷ more) ≡ of_length
    (operator_length 60 (get_or (60 ∷ c ∷ more) 0 0) (get_or (60 ∷ c ∷ more) 1 0))
    (60 ∷ 60 ∷ c ∷ more)) c 61 (refl) (λ c61. simp (c61)))
    (λ b60. by_value
    (λ b. operator_shape (60 ∷ b ∷ c ∷ more) ≡ of_length
    (operator_length 60 (get_or (b ∷ c ∷ more) 0 0) (get_or (b ∷ c ∷ more) 1 0))
    (60 ∷ b ∷ c ∷ more)) b 45 (refl)
    (λ b45. by_value
    (λ b. operator_shape (60 ∷ b ∷ c ∷ more) ≡ of_length
    (operator_length 60 (get_or (b ∷ c ∷ more) 0 0) (get_or (b ∷ c ∷ more) 1 0))
    (60 ∷ b ∷ c ∷ more)) b 61 (refl) (λ b61. simp (b60, b45, b61))))

at_greater : (rest : List ℕ)
    → operator_shape (62 ∷ rest) ≡ of_length
    (operator_length 62 (get_or rest 0 0) (get_or rest 1 0)) (62 ∷ rest)
unfolding operator_shape operators
at_greater [] = refl
at_greater (b ∷ []) =
    by_value
    (λ b. operator_shape (62 ∷ b ∷ []) ≡ of_length
    (operator_length 62 (get_or (b ∷ []) 0 0) (get_or (b ∷ []) 1 0)) (62 ∷ b ∷ [])) b 62 (refl)
    (λ b62. by_value
    (λ b. operator_shape (62 ∷ b ∷ []) ≡ of_length
    (operator_length 62 (get_or (b ∷ []) 0 0) (get_or (b ∷ []) 1 0)) (62 ∷ b ∷ [])) b 61 (refl)
    (λ b61. simp (b62, b61)))
at_greater (b ∷ c ∷ more) =
    by_value
    (λ b. operator_shape (62 ∷ b ∷ c ∷ more) ≡ of_length
    (operator_length 62 (get_or (b ∷ c ∷ more) 0 0) (get_or (b ∷ c ∷ more) 1 0))
    (62 ∷ b ∷ c ∷ more)) b 62
    (by_value
    (λ c. operator_shape (62 ∷ 62 ∷ c ∷ more) ≡ of_length
    (operator_length 62 (get_or (62 ∷ c ∷ more) 0 0) (get_or (62 ∷ c ∷ more) 1 0))
    (62 ∷ 62 ∷ c ∷ more)) c 61 (refl) (λ c61. simp (c61)))
    (λ b62. by_value
    (λ b. operator_shape (62 ∷ b ∷ c ∷ more) ≡ of_length
    (operator_length 62 (get_or (b ∷ c ∷ more) 0 0) (get_or (b ∷ c ∷ more) 1 0))
    (62 ∷ b ∷ c ∷ more)) b 61 (refl) (λ b61. simp (b62, b61)))

at_ampersand : (rest : List ℕ)
    → operator_shape (38 ∷ rest) ≡ of_length
    (operator_length 38 (get_or rest 0 0) (get_or rest 1 0)) (38 ∷ rest)
unfolding operator_shape operators
at_ampersand [] = refl
at_ampersand (b ∷ []) =
    by_value
    (λ b. operator_shape (38 ∷ b ∷ []) ≡ of_length
    (operator_length 38 (get_or (b ∷ []) 0 0) (get_or (b ∷ []) 1 0)) (38 ∷ b ∷ [])) b 94 (refl)
    (λ b94. by_value
    (λ b. operator_shape (38 ∷ b ∷ []) ≡ of_length
    (operator_length 38 (get_or (b ∷ []) 0 0) (get_or (b ∷ []) 1 0)) (38 ∷ b ∷ [])) b 38 (refl)
    (λ b38. by_value
    (λ b. operator_shape (38 ∷ b ∷ []) ≡ of_length
    (operator_length 38 (get_or (b ∷ []) 0 0) (get_or (b ∷ []) 1 0)) (38 ∷ b ∷ [])) b 61 (refl)
    (λ b61. simp (b94, b38, b61))))
at_ampersand (b ∷ c ∷ more) =
    by_value
    (λ b. operator_shape (38 ∷ b ∷ c ∷ more) ≡ of_length
    (operator_length 38 (get_or (b ∷ c ∷ more) 0 0) (get_or (b ∷ c ∷ more) 1 0))
    (38 ∷ b ∷ c ∷ more)) b 94
    (by_value
    (λ c. operator_shape (38 ∷ 94 ∷ c ∷ more) ≡ of_length
    (operator_length 38 (get_or (94 ∷ c ∷ more) 0 0) (get_or (94 ∷ c ∷ more) 1 0))
    (38 ∷ 94 ∷ c ∷ more)) c 61 (refl) (λ c61. simp (c61)))
    (λ b94. by_value
    (λ b. operator_shape (38 ∷ b ∷ c ∷ more) ≡ of_length
    (operator_length 38 (get_or (b ∷ c ∷ more) 0 0) (get_or (b ∷ c ∷ more) 1 0))
    (38 ∷ b ∷ c ∷ more)) b 38 (refl)
    (λ b38. by_value
    (λ b. operator_shape (38 ∷ b ∷ c ∷ more) ≡ of_length
    (operator_length 38 (get_or (b ∷ c ∷ more) 0 0) (get_or (b ∷ c ∷ more) 1 0))
    (38 ∷ b ∷ c ∷ more)) b 61 (refl) (λ b61. simp (b94, b38, b61))))

at_none : (a : ℕ) (rest : List ℕ) → eqb a 40 ≡ false → eqb a 41 ≡ false → eqb a 91 ≡ false
    → eqb a 93 ≡ false → eqb a 123 ≡ false → eqb a 125 ≡ false → eqb a 44 ≡ false
    → eqb a 126 ≡ false → eqb a 42 ≡ false → eqb a 47 ≡ false → eqb a 37 ≡ false → eqb a 94 ≡ false
    → eqb a 61 ≡ false → eqb a 33 ≡ false → eqb a 58 ≡ false → eqb a 43 ≡ false → eqb a 45 ≡ false
    → eqb a 124 ≡ false → eqb a 46 ≡ false → eqb a 60 ≡ false → eqb a 62 ≡ false → eqb a 38 ≡ false
    → operator_shape (a ∷ rest) ≡ of_length (operator_length a (get_or rest 0 0) (get_or rest 1 0))
    (a ∷ rest)
unfolding operator_shape operators
at_none a [] left_parenthesis right_parenthesis left_bracket right_bracket left_brace right_brace
    comma tilde star slash percent caret equals bang colon plus minus bar full_stop less greater
    ampersand =
    simp (
      left_parenthesis,
      right_parenthesis,
      left_bracket,
      right_bracket,
      left_brace,
      right_brace,
      comma,
      tilde,
      star,
      slash,
      percent,
      caret,
      equals,
      bang,
      colon,
      plus,
      minus,
      bar,
      full_stop,
      less,
      greater,
      ampersand,
    )
at_none a (b ∷ []) left_parenthesis right_parenthesis left_bracket right_bracket left_brace
    right_brace comma tilde star slash percent caret equals bang colon plus minus bar full_stop less
    greater ampersand =
    simp (
      left_parenthesis,
      right_parenthesis,
      left_bracket,
      right_bracket,
      left_brace,
      right_brace,
      comma,
      tilde,
      star,
      slash,
      percent,
      caret,
      equals,
      bang,
      colon,
      plus,
      minus,
      bar,
      full_stop,
      less,
      greater,
      ampersand,
    )
at_none a (b ∷ c ∷ more) left_parenthesis right_parenthesis left_bracket right_bracket left_brace
    right_brace comma tilde star slash percent caret equals bang colon plus minus bar full_stop less
    greater ampersand =
    simp (
      left_parenthesis,
      right_parenthesis,
      left_bracket,
      right_bracket,
      left_brace,
      right_brace,
      comma,
      tilde,
      star,
      slash,
      percent,
      caret,
      equals,
      bang,
      colon,
      plus,
      minus,
      bar,
      full_stop,
      less,
      greater,
      ampersand,
    )

pub operator_shape_of_length : (bytes : List ℕ)
    → operator_shape bytes ≡ of_length
    (operator_length (get_or bytes 0 0) (get_or bytes 1 0) (get_or bytes 2 0)) bytes
unfolding operator_shape operators
operator_shape_of_length [] = refl
operator_shape_of_length (a ∷ rest) =
    let P : ℕ → Type 0 =
    λ a. operator_shape (a ∷ rest) ≡ of_length
    (operator_length a (get_or rest 0 0) (get_or rest 1 0)) (a ∷ rest) in
    by_value P a 40 (at_left_parenthesis rest) (λ left_parenthesis.
    by_value P a 41 (at_right_parenthesis rest) (λ right_parenthesis.
    by_value P a 91 (at_left_bracket rest) (λ left_bracket.
    by_value P a 93 (at_right_bracket rest) (λ right_bracket.
    by_value P a 123 (at_left_brace rest) (λ left_brace.
    by_value P a 125 (at_right_brace rest) (λ right_brace.
    by_value P a 44 (at_comma rest) (λ comma.
    by_value P a 126 (at_tilde rest) (λ tilde.
    by_value P a 42 (at_star rest) (λ star.
    by_value P a 47 (at_slash rest) (λ slash.
    by_value P a 37 (at_percent rest) (λ percent.
    by_value P a 94 (at_caret rest) (λ caret.
    by_value P a 61 (at_equals rest) (λ equals.
    by_value P a 33 (at_bang rest) (λ bang.
    by_value P a 58 (at_colon rest) (λ colon.
    by_value P a 43 (at_plus rest) (λ plus.
    by_value P a 45 (at_minus rest) (λ minus.
    by_value P a 124 (at_bar rest) (λ bar.
    by_value P a 46 (at_full_stop rest) (λ full_stop.
    by_value P a 60 (at_less rest) (λ less.
    by_value P a 62 (at_greater rest) (λ greater.
    by_value P a 38 (at_ampersand rest) (λ ampersand.
    at_none a rest left_parenthesis right_parenthesis left_bracket right_bracket left_brace
    right_brace comma tilde star slash percent caret equals bang colon plus minus bar full_stop
    less greater ampersand))))))))))))))))))))))

at_most : (t : Bool) (x y n : ℕ) → x ≤ n → y ≤ n → cond t x y ≤ n
at_most true x y n first second = first
at_most false x y n first second = second

-- a mark alone is one byte at most
one_at_most : (a : ℕ) → operator_length a 0 0 ≤ 1
one_at_most a =
    let P : ℕ → Type 0 = λ a. operator_length a 0 0 ≤ 1 in
    by_value P a 40 (omega arith) (λ e40.
    by_value P a 41 (omega arith) (λ e41.
    by_value P a 91 (omega arith) (λ e91.
    by_value P a 93 (omega arith) (λ e93.
    by_value P a 123 (omega arith) (λ e123.
    by_value P a 125 (omega arith) (λ e125.
    by_value P a 44 (omega arith) (λ e44.
    by_value P a 126 (omega arith) (λ e126.
    by_value P a 42 (omega arith) (λ e42.
    by_value P a 47 (omega arith) (λ e47.
    by_value P a 37 (omega arith) (λ e37.
    by_value P a 94 (omega arith) (λ e94.
    by_value P a 61 (omega arith) (λ e61.
    by_value P a 33 (omega arith) (λ e33.
    by_value P a 58 (omega arith) (λ e58.
    by_value P a 43 (omega arith) (λ e43.
    by_value P a 45 (omega arith) (λ e45.
    by_value P a 124 (omega arith) (λ e124.
    by_value P a 46 (omega arith) (λ e46.
    by_value P a 60 (omega arith) (λ e60.
    by_value P a 62 (omega arith) (λ e62.
    by_value P a 38 (omega arith) (λ e38.
    simp (
      e40,
      e41,
      e91,
      e93,
      e123,
      e125,
      e44,
      e126,
      e42,
      e47,
      e37,
      e94,
      e61,
      e33,
      e58,
      e43,
      e45,
      e124,
      e46,
      e60,
      e62,
      e38,
    ) (omega arith)))))))))))))))))))))))

two_at_most : (a b : ℕ) → operator_length a b 0 ≤ 2
two_at_most a b = simp (and_right (eqb b 46) false refl) (search (arith, at_most))

three_at_most : (a b c : ℕ) → operator_length a b c ≤ 3
three_at_most a b c = search (arith, at_most)

pub operator_length_within : (bytes : List ℕ)
    → operator_length (get_or bytes 0 0) (get_or bytes 1 0) (get_or bytes 2 0) ≤ length bytes
operator_length_within [] = omega arith
operator_length_within (a ∷ []) = one_at_most a
operator_length_within (a ∷ b ∷ []) = two_at_most a b
operator_length_within (a ∷ b ∷ c ∷ rest) = omega (arith, three_at_most a b c)

-- where there is an operator, it is the front of its length
pub operator_shape_found : (bytes : List ℕ) (n : ℕ) (mark : Shape)
    → n ≡ operator_length (get_or bytes 0 0) (get_or bytes 1 0) (get_or bytes 2 0) → (n ≡ 0 → ⊥)
    → mark ≡ mark_shape (take n bytes) → Some mark ≡ operator_shape bytes
operator_shape_found bytes n mark length some is =
    sym (operator_shape_of_length bytes ∙ ap (λ m. of_length m bytes) (sym length)
    ∙ cond-false _ _ _ (ne_eqb n 0 some) ∙ ap Some (sym is))
