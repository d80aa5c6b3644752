-- Logs, and their beginnings.
use Rattle.std.proofs.Common.{◌≡◌, ◌≤◌, List, [], ◌∷◌, ◌++◌, length, take, drop, refl, sym, ap, ◌∙◌, subst, append_assoc, length-append, arith, Option, Some, None}
use Rattle.std.proofs.lemmas.List.{append-nil, take-append-le, take-append-drop}
use Rattle.std.proofs.Math.Seq.{take-append_seam}
use mathlib.Core.List.{IsPrefix}
use Rattle.publication.specs.View.{StartsWith}
use Rattle.publication.specs.Chronicle.{IsOpen, IsSettled}

-- a beginning as long as the whole is the whole
pub prefix_whole : {A : Type 0} (xs ys : List A) → StartsWith ys xs → length ys ≤ length xs → xs ≡ ys
prefix_whole [] [] p e = refl
prefix_whole [] (y ∷ ys) p e = absurd (omega arith)
prefix_whole (x ∷ xs) [] p e = absurd (cc (p.1))
prefix_whole (x ∷ xs) (y ∷ ys) p e = let rest = prefix_whole xs ys (p.0, cc (p.1)) (omega arith) in
    cc (p.1, rest)

-- a beginning as `logbook` tells it
pub begins_of : {A : Type 0} (front list : List A) → IsPrefix front list → StartsWith list front
begins_of front list p = (p.0, sym p.1)

pub starts_same : {A : Type 0} (list : List A) → StartsWith list list
starts_same list = ([], sym (append-nil list))

pub starts_then : {A : Type 0} (first second third : List A) → StartsWith second first
    → StartsWith third second → StartsWith third first
starts_then first second third one two = (
  one.0 ++ two.0,
  two.1 ∙ ap (λ l. l ++ two.0) one.1
      ∙ append_assoc first one.0 two.0,
)

module _ {E : Type 0} where
  pub settled_more : (log : List (Option E)) (entry : Option E) → IsOpen log → IsSettled
      (log ++ entry ∷ [])
  settled_more [] (Some e) o = tt
  settled_more [] None o = refl
  settled_more (Some x ∷ log) entry o = settled_more log entry o
  settled_more (None ∷ log) entry o = absurd o

  pub open_more : (log : List (Option E)) (edition : E) → IsOpen log
      → IsOpen (log ++ Some edition ∷ [])
  open_more [] e o = tt
  open_more (Some x ∷ log) e o = open_more log e o
  open_more (None ∷ log) e o = absurd o

  -- nothing follows a closed log
  pub closed_whole : (front rest : List (Option E)) → IsOpen front → IsSettled
      ((front ++ None ∷ []) ++ rest) → rest ≡ []
  closed_whole [] rest o s = s
  closed_whole (Some x ∷ front) rest o s = closed_whole front rest o s
  closed_whole (None ∷ front) rest o s = absurd o

  -- an open beginning of a closed log is a beginning of what was closed
  pub open_within : (log front rest : List (Option E)) → IsOpen log → log ++ rest ≡ front ++ None
      ∷ [] → StartsWith front log
  open_within [] front rest o e = (front, refl)
  open_within (Some x ∷ log) [] rest o e = absurd (cc (e))
  open_within (None ∷ log) front rest o e = absurd o
  open_within (Some x ∷ log) (y ∷ front) rest o e = let more = open_within log front rest o
      (cc (e)) in let same = more.1 in (more.0, cc (e, same))

  -- a log that is closed stays as it is
  pub closed_all : (front all : List (Option E)) → IsOpen front → IsSettled all
      → StartsWith all (front ++ None ∷ []) → all ≡ front ++ None ∷ []
  closed_all front all o settled p =
      let none : p.0 ≡ [] = closed_whole front p.0 o (subst (λ (l : List (Option E)). IsSettled l)
      p.1 settled) in
      p.1 ∙ ap (λ l. (front ++ None ∷ []) ++ l) none ∙ append-nil (front ++ None ∷ [])

  pub prefix_length : (front list : List (Option E)) → StartsWith list front → length front
      ≤ length list
  prefix_length front list p = let e : length list ≡ length (front ++ p.0) = ap length p.1 in
      omega (arith, length-append front p.0)

  -- of two beginnings of one log the shorter begins the longer
  pub shorter : (a b all : List (Option E)) → StartsWith all a → StartsWith all b → length a ≤ length b
      → StartsWith b a
  shorter a b all p q le =
      let n = length a in
      let front : take n (b ++ q.0) ≡ a = ap (take n) (sym q.1 ∙ p.1) ∙ take-append_seam a p.0 in
      let same : take n b ≡ a = sym (take-append-le n b q.0 le) ∙ front in
      (drop n b, sym (take-append-drop n b) ∙ ap (λ xs. xs ++ drop n b) same)

  -- an open beginning of a closed log begins what was closed
  pub within_closed : (front all log : List (Option E)) → all ≡ front ++ None ∷ [] → IsOpen log
      → StartsWith all log → StartsWith front log
  within_closed front all log closed o p = open_within log front p.0 o (sym p.1 ∙ closed)
