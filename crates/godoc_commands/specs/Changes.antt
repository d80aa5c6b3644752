-- Cited by public clauses. What a call did to the tree, the input and the output that it was given.
-- The project's own.
use Rattle.std.specs.Prelude.{◌≡◌, ℕ, List, Option}
use Rattle.tree_io.specs.Sources.{Contents}

-- an object before a call and after it, and what clauses say of such an object
pub record Change (Object State : Type 0) : Type 0 where
  pub state : Object → State
  pub old : Object
  pub new : Object

-- the object is unchanged
abbrev pub IsUnchanged : {Object State : Type 0} → Change Object State → Type 0
IsUnchanged change = change.new ≡ change.old

abbrev pub before : {Object State : Type 0} → Change Object State → State
before change = change.state change.old

abbrev pub after : {Object State : Type 0} → Change Object State → State
after change = change.state change.new

-- the scans of a tree, where it exposes them, and how often `open_scan` or `list`, and `read`
-- failed
pub record TreeState : Type 0 where
  pub scans : Option (List Contents)
  pub list_faults : ℕ
  pub read_faults : ℕ

-- the bytes that remain in an input, where it exposes them, and how often a read failed
pub record InputState : Type 0 where
  pub remaining : Option (List ℕ)
  pub faults : ℕ

-- the bytes that an output holds, where it exposes them, and how often a write failed
pub record OutputState : Type 0 where
  pub held : Option (List ℕ)
  pub faults : ℕ

-- what a call did to a tree, by what its type says of it
abbrev pub tree_change : {T : Type 0}
    → (T → Option (List Contents)) → (T → ℕ) → (T → ℕ) → T → T → Change T TreeState
tree_change scans list_faults read_faults old new = record {
  state = λ tree. record {
    scans = scans tree;
    list_faults = list_faults tree;
    read_faults = read_faults tree;
  };
  old = old;
  new = new;
}

abbrev pub input_change : {I : Type 0}
    → (I → Option (List ℕ)) → (I → ℕ) → I → I → Change I InputState
input_change remaining faults old new = record {
  state = λ input. record { remaining = remaining input; faults = faults input };
  old = old;
  new = new;
}

abbrev pub output_change : {O : Type 0}
    → (O → Option (List ℕ)) → (O → ℕ) → O → O → Change O OutputState
output_change held faults old new = record {
  state = λ out. record { held = held out; faults = faults out };
  old = old;
  new = new;
}
