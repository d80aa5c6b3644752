-- Cited by private clauses and proofs. How the program fills the lists: a type has a slot in a
-- sorted list of names, and the numbers of the members are put at the ends of the lists, one after
-- the other. The project's own.
use Rattle.std.specs.Prelude.{◌≡◌, ℕ, zero, suc, Bool, false, List, [], ◌∷◌, ◌++◌, position, Option}
use Rattle.std.specs.Prelude.{Some, None, slice_get, if◌then◌else◌}
use Rattle.std.specs.Option.{option_map_or}
use Rattle.std.specs.Str.{bytes_eq}
use Rattle.doc_order.specs.declared.members.Member.{Member}
use Rattle.doc_order.specs.declared.members.Member.TheVariants.{TypeDef}
use Rattle.doc_order.specs.declared.members.Kind.{Kind}
use Rattle.doc_order.specs.declared.members.Kind.TheVariants.{Constants, Variables, Functions}
use Rattle.doc_order.specs.declared.members.Kind.TheVariants.{Types, Methods}
use Rattle.doc_order.specs.declared.members.DocType.{DocType}
use Rattle.doc_order.specs.Documentation.{Name, at_number, is_exported_name, is_shown, kind_of}
use Rattle.doc_order.specs.Documentation.{place_of}

-- the first slot with a name
abbrev pub slot_of : List Name → Name → Option ℕ
slot_of names name = position (λ other. bytes_eq other name) names

abbrev pub is_exported_type : Member → Bool
is_exported_type (TypeDef name) = is_exported_name name
is_exported_type _ = false

-- the lists while they are filled
pub record Lists : Type 0 where
  pub consts : List ℕ
  pub vars : List ℕ
  pub funcs : List ℕ
  pub types : List DocType

-- a type under which nothing stands
abbrev pub bare_type : ℕ → DocType
bare_type number = record { member = number; consts = []; vars = []; factories = []; methods = [] }

-- a number at the end of the list of its kind under a type
abbrev pub with_number : DocType → Kind → ℕ → DocType
with_number doc Constants number = record doc { consts = doc.consts ++ number ∷ [] }
with_number doc Variables number = record doc { vars = doc.vars ++ number ∷ [] }
with_number doc Functions number = record doc { factories = doc.factories ++ number ∷ [] }
with_number doc Types number = doc
with_number doc Methods number = record doc { methods = doc.methods ++ number ∷ [] }

-- the same where it stands under no type
abbrev pub with_number_of_package : Lists → Kind → ℕ → Lists
with_number_of_package lists Constants number =
    record lists { consts = lists.consts ++ number ∷ [] }
with_number_of_package lists Variables number = record lists { vars = lists.vars ++ number ∷ [] }
with_number_of_package lists Functions number = record lists { funcs = lists.funcs ++ number ∷ [] }
with_number_of_package lists Types number = lists
with_number_of_package lists Methods number = lists

-- the element of a place changed
abbrev pub changed_at : {X : Type 0} → (X → X) → List X → ℕ → List X
changed_at f [] place = []
changed_at f (x ∷ xs) zero = f x ∷ xs
changed_at f (x ∷ xs) (suc place) = x ∷ changed_at f xs place

abbrev pub with_number_in : Lists → Kind → Option ℕ → ℕ → Lists
with_number_in lists kind None number = with_number_of_package lists kind number
with_number_in lists kind (Some slot) number =
    record lists { types = changed_at (λ doc. with_number doc kind number) lists.types slot }

-- a member put where it stands, if it is shown
abbrev pub with_member : (Name → Option ℕ) → ℕ → Lists → Member → Lists
with_member slots number lists member =
    if is_shown slots member
    then with_number_in lists (kind_of member) (place_of slots member) number
    else lists

abbrev pub with_member_at : List Member → (Name → Option ℕ) → Lists → ℕ → Lists
with_member_at members slots lists number =
    option_map_or (with_member slots number lists) (slice_get members number) lists
