-- Each source has a reading or a fault, and no two of either, nor both.
use Rattle.std.proofs.Common.{◌≡◌, ◌==◌, ◌⊎◌, ℕ, zero, suc, ◌+◌, ◌<◌, ◌≤◌, List, [], ◌∷◌, ◌++◌}
use Rattle.std.proofs.Common.{length, drop, IsUtf8, Option, Some, None, refl, sym, ◌∙◌, ap, subst}
use Rattle.std.proofs.Common.{arith, inl, inr, ⊎_elim}
use Rattle.std.proofs.lemmas.Bool.{cases_lt}
use Rattle.std.proofs.lemmas.List.{length-append}
use Rattle.std.specs.Str.{IsValidUpTo}
use Rattle.go_ast.specs.declared.token.Token.{Token}
use Rattle.go_ast.specs.declared.token.Comment.{Comment}
use Rattle.go_ast.specs.declared.fault.Fault.{Fault}
use Rattle.go_ast.specs.declared.fault.Fault.TheVariants as faults
use Rattle.go_ast.specs.Texts.{IsOpenString}
use Rattle.go_ast.specs.Lexical.{Item, print_item, Stands, IsOpenComment}
use Rattle.go_ast.specs.Reading.{Leads, Reads, IsStuckAt, ScanFault, line_ends, tokens_of}
use Rattle.go_ast.specs.Reading.{comments_of}
use Rattle.go_scanner.specs.Results.{IsRead, IsFaulty}
use Rattle.go_scanner.specs.Shapes.{shape_of, shape_at, length_of}
use Rattle.go_scanner.specs.Steps.{added_comments}
use Rattle.go_scanner.proofs.Standing.Boundaries.{utf8_after}
use Rattle.go_scanner.proofs.Standing.Items.{one_shape, length-print_item-pos}
use Rattle.go_scanner.proofs.Faults.{fault_found, apart}
use Rattle.go_scanner.proofs.ItemShapes.{ends_at, tokens_before, line_ends-shape, tokens_of-shape}
use Rattle.go_scanner.proofs.ItemShapes.{comments_of-shape}
use Rattle.go_scanner.proofs.Progress.{Progress, start, after, finish, stuck, length_of-pos, end_of}
use Rattle.go_scanner.proofs.Progress.{end_of-length}
use Rattle.go_scanner.proofs.Utf8 as utf8

-- from where a scan stands, it reads the source or comes to a fault
decide : (bytes : List ℕ) → IsUtf8 bytes
    → (fuel at : ℕ) (pending : Option ℕ) (tokens : List Token) (comments : List Comment)
    → length bytes ≤ at + fuel → Progress bytes at pending tokens comments → IsRead bytes
    ⊎ IsFaulty bytes
decide bytes valid zero at pending tokens comments enough before =
    inl (_, _, finish bytes at pending tokens comments valid before (omega arith))
decide bytes valid (suc fuel) at pending tokens comments enough before =
    ⊎_elim
    (λ (more : at < length bytes). elim (shape_at (at == 0) (drop at bytes)) as
    (λ found. shape_at (at == 0) (drop at bytes) ≡ found → IsRead bytes ⊎ IsFaulty bytes) [
      | None ↦
          λ nothing. inr (
            _,
            fault_found bytes at valid (stuck bytes at pending tokens comments before more nothing)
                nothing,
          )
      | Some shape ↦ λ found.
          decide bytes valid fuel (at + length_of shape) _ _ _
          (omega (arith, length_of-pos bytes at shape before.utf8 found))
          (after bytes at pending tokens comments shape before found)
    ] refl)
    (λ (end : length bytes ≤ at). inl
    (_, _, finish bytes at pending tokens comments valid before end))
    (cases_lt at (length bytes))

pub read_or_faulty : (bytes : List ℕ) → IsRead bytes ⊎ IsFaulty bytes
read_or_faulty bytes =
    ⊎_elim
    (λ valid. decide bytes valid (length bytes) 0 None [] [] (omega arith) (start bytes valid))
    (λ stops. inr (faults.NotUtf8 _, stops))
    (utf8.utf8_cases bytes)

-- no item stands at the front of the bytes, at this offset
abbrev IsLast : ℕ → List ℕ → Type 0
IsLast offset rest = (item : Item) (after : List ℕ) → rest ≡ print_item item ++ after
    → Stands offset item after → ⊥

-- two lists of items give one reading
record AreAlike (offset : ℕ) (items others : List Item) (rest left : List ℕ) : Type 0 where
  same_ends : line_ends items ≡ line_ends others
  same_tokens : tokens_of offset items ≡ tokens_of offset others
  same_comments : comments_of offset items ≡ comments_of offset others
  same_rest : rest ≡ left

-- items that stand one after another and lead to where none stands are alike
alike : (items others : List Item) (offset : ℕ) (bytes rest left : List ℕ) → IsUtf8 bytes
    → Leads offset items bytes rest → Leads offset others bytes left
    → IsLast (end_of offset items) rest → IsLast (end_of offset others) left
    → AreAlike offset items others rest left
alike [] [] offset bytes rest left utf8 lead led last final = record {
  same_ends = refl;
  same_tokens = refl;
  same_comments = refl;
  same_rest = sym lead ∙ led;
}
alike [] (other ∷ others) offset bytes rest left utf8 lead led last final =
    absurd (last other led.0 (sym lead ∙ led.1) led.2)
alike (item ∷ items) [] offset bytes rest left utf8 lead led last final =
    absurd (final item lead.0 (sym led ∙ lead.1) lead.2)
alike (item ∷ items) (other ∷ others) offset bytes rest left utf8 lead led last final =
    let here : IsUtf8 (print_item item ++ lead.0) = subst IsUtf8 lead.1 utf8 in
    let one = one_shape offset item other lead.0 led.0 here (sym lead.1 ∙ led.1) lead.2 led.2 in
    let size : offset + length (print_item other) ≡ offset + length (print_item item) =
    ap (λ n. offset + n) (sym one.lengths) in
    let after = offset + length (print_item item) in
    let led_on : Leads after others lead.0 left =
    subst (λ n. Leads n others lead.0 left) size
    (subst (λ bs. Leads (offset + length (print_item other)) others bs left)
    (sym one.rests) led.3) in
    let final_on : IsLast (end_of after others) left =
    subst (λ n. IsLast (end_of n others) left) size final in
    let later =
    alike items others after lead.0 rest left (utf8_after offset item lead.0 lead.2 here) lead.3
    led_on last final_on in
    record {
      same_ends = line_ends-shape item items ∙ ap (λ s. ends_at s (line_ends items)) one.shapes
          ∙ ap (ends_at (shape_of other)) later.same_ends ∙ sym (line_ends-shape other others);
      same_tokens =
          tokens_of-shape offset item items
          ∙ ap (λ s. tokens_before s offset (line_ends items) (tokens_of after items)) one.shapes
          ∙ ap (λ ends. tokens_before (shape_of other) offset ends (tokens_of after items))
          later.same_ends
          ∙ ap (λ ts. tokens_before (shape_of other) offset (line_ends others) ts)
          (later.same_tokens ∙ ap (λ n. tokens_of n others) (sym size))
          ∙ sym (tokens_of-shape offset other others);
      same_comments =
          comments_of-shape offset item items
          ∙ ap (λ s. added_comments s offset ++ comments_of after items) one.shapes
          ∙ ap (λ cs. added_comments (shape_of other) offset ++ cs)
          (later.same_comments ∙ ap (λ n. comments_of n others) (sym size))
          ∙ sym (comments_of-shape offset other others);
      same_rest = later.same_rest;
    }

-- nothing stands at the end
nothing_last : (offset : ℕ) → IsLast offset []
nothing_last offset item after split stands =
    omega (
      arith,
      length-print_item-pos offset item after stands,
      length-append (print_item item) after,
      ap length split,
    )

pub one_reading : (bytes : List ℕ) (tokens all : List Token) (comments every : List Comment)
    → Reads bytes tokens comments → Reads bytes all every
    → (tokens ≡ all) × (comments ≡ every)
one_reading bytes tokens all comments every read again =
    let one =
    alike read.items again.items 0 bytes [] [] read.utf8 read.leads again.leads (nothing_last _)
    (nothing_last _) in (
      read.all_tokens ∙ one.same_tokens ∙ sym again.all_tokens,
      read.all_comments ∙ one.same_comments
          ∙ sym again.all_comments,
    )

-- where nothing stands is where the items end
stuck_last : (bytes : List ℕ) (offset : ℕ) (stuck : IsStuckAt bytes offset)
    → IsLast (end_of 0 stuck.items) stuck.rest
stuck_last bytes offset stuck =
    let here : offset ≡ end_of 0 stuck.items =
    omega (arith, end_of-length 0 stuck.items bytes stuck.rest stuck.leads, stuck.place) in
    subst (λ n. IsLast n stuck.rest) here stuck.none

one_stuck : (bytes : List ℕ) (m n : ℕ) → IsUtf8 bytes → IsStuckAt bytes m → IsStuckAt bytes n
    → m ≡ n
one_stuck bytes m n utf8 first second =
    let one =
    alike first.items second.items 0 bytes first.rest second.rest utf8 first.leads second.leads
    (stuck_last bytes m first) (stuck_last bytes n second) in
    omega (arith, ap length one.same_rest, first.place, second.place)

not_stuck : (bytes : List ℕ) (tokens : List Token) (comments : List Comment) (n : ℕ)
    → Reads bytes tokens comments → IsStuckAt bytes n → ⊥
not_stuck bytes tokens comments n read stuck =
    let one =
    alike read.items stuck.items 0 bytes [] stuck.rest read.utf8 read.leads stuck.leads
    (nothing_last _) (stuck_last bytes n stuck) in
    omega (arith, ap length one.same_rest, stuck.within)

pub not_both : (bytes : List ℕ) (tokens : List Token) (comments : List Comment) (fault : Fault)
    → Reads bytes tokens comments → ScanFault bytes fault → ⊥
not_both bytes tokens comments (faults.NotUtf8 n) read fault = utf8.not_both bytes n read.utf8 fault
not_both bytes tokens comments (faults.BadToken n) read fault =
    not_stuck bytes tokens comments n read fault.1
not_both bytes tokens comments (faults.OpenComment n) read fault =
    not_stuck bytes tokens comments n read fault.1
not_both bytes tokens comments (faults.OpenString n) read fault =
    not_stuck bytes tokens comments n read fault.1
not_both bytes tokens comments _ read fault = fault

-- the kinds of faults at a place where nothing stands
data Kind : Type 0 where
  bad_token open_comment open_string : Kind

abbrev fault_of : Kind → ℕ → Fault
fault_of bad_token n = faults.BadToken n
fault_of open_comment n = faults.OpenComment n
fault_of open_string n = faults.OpenString n

-- what the bytes from there on are by the kind
abbrev Tells : Kind → List ℕ → Type 0
Tells bad_token rest = ¬ (IsOpenComment rest) × ¬ (IsOpenString rest)
Tells open_comment rest = IsOpenComment rest
Tells open_string rest = IsOpenString rest

-- a fault that isn't of UTF-8
record Stops (bytes : List ℕ) (fault : Fault) : Type 0 where
  kind : Kind
  place : ℕ
  is : fault ≡ fault_of kind place
  valid : IsUtf8 bytes
  stuck : IsStuckAt bytes place
  tells : Tells kind (drop place bytes)

-- a fault is one of two
fault_cases : (bytes : List ℕ) (fault : Fault) → ScanFault bytes fault
    → ((n : ℕ) × (fault ≡ faults.NotUtf8 n) × IsValidUpTo bytes n) ⊎ Stops bytes fault
fault_cases bytes (faults.NotUtf8 n) fault = inl (n, refl, fault)
fault_cases bytes (faults.BadToken n) fault =
    inr (record {
      kind = bad_token;
      place = n;
      is = refl;
      valid = fault.0;
      stuck = fault.1;
      tells =
          (fault.2, fault.3);
    })
fault_cases bytes (faults.OpenComment n) fault =
    inr (record {
      kind = open_comment;
      place = n;
      is = refl;
      valid = fault.0;
      stuck = fault.1;
      tells = fault.2;
    })
fault_cases bytes (faults.OpenString n) fault =
    inr (record {
      kind = open_string;
      place = n;
      is = refl;
      valid = fault.0;
      stuck = fault.1;
      tells = fault.2;
    })
fault_cases bytes _ fault = absurd fault

-- no bytes begin two of them
one_kind : (kind other : Kind) (rest : List ℕ) → Tells kind rest → Tells other rest → kind ≡ other
one_kind bad_token bad_token rest f g = refl
one_kind bad_token open_comment rest f g = absurd (f.0 g)
one_kind bad_token open_string rest f g = absurd (f.1 g)
one_kind open_comment bad_token rest f g = absurd (g.0 f)
one_kind open_comment open_comment rest f g = refl
one_kind open_comment open_string rest f g = absurd (apart rest f g)
one_kind open_string bad_token rest f g = absurd (g.1 f)
one_kind open_string open_comment rest f g = absurd (apart rest g f)
one_kind open_string open_string rest f g = refl

same_stop : (bytes : List ℕ) (fault other : Fault) → Stops bytes fault → Stops bytes other
    → fault ≡ other
same_stop bytes fault other f g =
    let place : g.place ≡ f.place = sym (one_stuck bytes f.place g.place f.valid f.stuck g.stuck) in
    let there : Tells g.kind (drop f.place bytes) =
    subst (λ n. Tells g.kind (drop n bytes)) place g.tells in
    f.is ∙ ap (λ k. fault_of k f.place) (one_kind f.kind g.kind (drop f.place bytes) f.tells there)
    ∙ ap (fault_of g.kind) (sym place) ∙ sym g.is

pub one_fault : (bytes : List ℕ) (fault other : Fault) → ScanFault bytes fault
    → ScanFault bytes other → fault ≡ other
one_fault bytes fault other found known =
    ⊎_elim
    (λ (m, is, stops). ⊎_elim
    (λ (n, same, stopped). is ∙ ap faults.NotUtf8 (utf8.one_place bytes m n stops stopped)
    ∙ sym same)
    (λ (stop : Stops bytes other). absurd (utf8.not_both bytes m stop.valid stops))
    (fault_cases bytes other known))
    (λ (stop : Stops bytes fault). ⊎_elim
    (λ (n, same, stopped). absurd (utf8.not_both bytes n stop.valid stopped))
    (λ (again : Stops bytes other). same_stop bytes fault other stop again)
    (fault_cases bytes other known))
    (fault_cases bytes fault found)
