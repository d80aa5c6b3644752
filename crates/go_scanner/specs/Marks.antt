-- Cited by private clauses and proofs. How long the longest operator is, by its bytes.
use Rattle.std.specs.Prelude.{ℕ, Bool, ◌||◌, ◌&&◌, if◌then◌else◌, ◌==◌, nat_eq, codes}
use Rattle.std.specs.List.{list_any}

-- the marks that begin no longer operator
abbrev pub stands_alone : ℕ → Bool
stands_alone mark = list_any (nat_eq mark) (codes "()[]{},~")

-- the marks that "=" alone makes longer
abbrev pub takes_equals : ℕ → Bool
takes_equals mark = list_any (nat_eq mark) (codes "*/%^=!:")

-- the marks that "=" and the mark itself make longer
abbrev pub takes_itself : ℕ → Bool
takes_itself mark = list_any (nat_eq mark) (codes "+-|")

-- how many bytes the longest operator has that the three bytes begin with, or 0 where there is none
abbrev pub operator_length : ℕ → ℕ → ℕ → ℕ
operator_length first second third =
    if stands_alone first then 1
    else (if takes_equals first then (if second == 61 then 2 else 1)
    else (if takes_itself first then (if second == first || second == 61 then 2 else 1)
    else (if first == 46 then (if second == 46 && third == 46 then 3 else 1)
    else (if first == 60
    then (if second == 60 then (if third == 61 then 3 else 2)
    else (if second == 45 || second == 61 then 2 else 1))
    else (if first == 62
    then (if second == 62 then (if third == 61 then 3 else 2) else (if second == 61 then 2 else 1))
    else (if first == 38
    then (if second == 94 then (if third == 61 then 3 else 2)
    else (if second == 38 || second == 61 then 2 else 1))
    else 0))))))
