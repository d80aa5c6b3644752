-- Where the run of a number begins, the program and the definition find the same number.
use Rattle.std.proofs.Common.{◌≡◌, ℕ, Bool, true, List, [], ◌∷◌, ◌++◌, length, Option, Some, None}
use Rattle.std.proofs.Common.{option_map, ap, sym, ◌∙◌, refl, inl, inr}
use Rattle.std.proofs.lemmas.Bool.{cases_Bool, false≢true}
use Rattle.go_ast.specs.declared.token.TokenKind.{TokenKind}
use Rattle.go_ast.specs.Characters.{Begins}
use Rattle.go_ast.specs.Lexical.{Spelling, integer, float, imaginary, spelled, print_spelling}
use Rattle.go_ast.specs.Lexical.{goes_on, run_after, number_run, is_hexadecimal, begins_number}
use Rattle.go_ast.specs.Lexical.{is_number}
use Rattle.go_ast.specs.Reading.{kind_of}
use Rattle.go_scanner.specs.declared.shape.Shape.{Shape}
use Rattle.go_scanner.specs.Shapes.{shape_of, number_of, number_shape}
use Rattle.go_scanner.specs.NumberBytes.{number_kind}
use Rattle.go_scanner.proofs.Standing.Fronts.{SpelledAt, SpelledAs, whole_run, extent_of-run}
use Rattle.go_scanner.proofs.Standing.Floats.{number_complete, number_sound}

-- the run is a front of the bytes
run_after-front : (hexadecimal : Bool) (before : ℕ) (bytes : List ℕ)
    → Begins bytes (run_after hexadecimal before bytes)
run_after-front hexadecimal before [] = ([], refl)
run_after-front hexadecimal before (b ∷ bytes) =
    let more = run_after-front hexadecimal b bytes in
    elim (cases_Bool (goes_on hexadecimal before b)) [
      | inl goes ↦ (more.0, rw goes (ap (λ x. b ∷ x) more.1))
      | inr stops ↦ (b ∷ bytes, rw stops refl)
    ]

number_run-front : (bytes : List ℕ) → Begins bytes (number_run bytes)
unfolding number_run
number_run-front [] = ([], refl)
number_run-front (b ∷ bytes) =
    let more = run_after-front (is_hexadecimal (b ∷ bytes)) b bytes in
    (more.0, ap (λ x. b ∷ x) more.1)

shape_of-number : (spelling : Spelling) → is_number spelling ≡ true
    → shape_of (spelled spelling) ≡ number_of (length (print_spelling spelling)) (kind_of spelling)
shape_of-number (integer literal) n = refl
shape_of-number (float literal) n = refl
shape_of-number (imaginary literal) n = refl
shape_of-number _ n = absurd (false≢true n)

number_shape-kind : (bytes run : List ℕ) (kind : TokenKind) → number_run bytes ≡ run
    → number_kind run ≡ Some kind → number_shape bytes ≡ Some (number_of (length run) kind)
unfolding number_shape
number_shape-kind bytes run kind whole h = rw (whole, h) refl

pub number_found : (bytes : List ℕ) (spelling : Spelling) (after : List ℕ)
    → begins_number bytes ≡ true → SpelledAt bytes spelling after
    → number_shape bytes ≡ Some (shape_of (spelled spelling))
number_found bytes spelling after begins h =
    let run = whole_run bytes spelling after begins h in
    number_shape-kind bytes (print_spelling spelling) (kind_of spelling) run.1
    (number_complete spelling h.valid run.0) ∙ ap Some (sym (shape_of-number spelling run.0))

map_some : (o : Option TokenKind) (n : ℕ) (shape : Shape) → option_map (number_of n) o ≡ Some shape
    → (kind : TokenKind) × (o ≡ Some kind) × (number_of n kind ≡ shape)
map_some None n shape h = cc
map_some (Some kind) n shape h = (kind, refl, cc)

number_shape-cases : (bytes : List ℕ) (shape : Shape) → number_shape bytes ≡ Some shape
    → (kind : TokenKind) × (number_kind (number_run bytes) ≡ Some kind)
    × (number_of (length (number_run bytes)) kind ≡ shape)
unfolding number_shape
number_shape-cases bytes shape h =
    map_some (number_kind (number_run bytes)) (length (number_run bytes)) shape h

pub number_stands : (bytes : List ℕ) (shape : Shape) → begins_number bytes ≡ true
    → number_shape bytes ≡ Some shape → SpelledAs bytes shape
number_stands bytes shape begins found =
    let kind = number_shape-cases bytes shape found in
    let number = number_sound (number_run bytes) kind.0 kind.1 in
    let front = number_run-front bytes in
    record {
      spelling = number.spelling;
      after = front.0;
      stands = record {
        split = front.1 ∙ ap (λ l. l ++ front.0) (sym number.printed);
        valid = number.valid;
        extent = extent_of-run bytes number.spelling begins (number.number, sym number.printed);
      };
      same = shape_of-number number.spelling number.number
          ∙ ap (λ l. number_of (length l) (kind_of number.spelling)) number.printed
          ∙ ap (number_of (length (number_run bytes))) number.same ∙ kind.2;
    }
