-- Parameters: what is read is spelled so, and what is spelled so is read.
use Rattle.std.proofs.Common.{◌≡◌, ◌≢◌, ◌∙◌, sym, refl, subst, Bool, true, false}
use Rattle.std.proofs.Common.{◌||◌, cond, List, [], ◌∷◌, Option, Some, None}
use Rattle.std.proofs.Common.{⊎_elim}
use Rattle.std.specs.List.{list_any}
use Rattle.go_ast.specs.declared.tree.TypeExpr.{TypeExpr}
use Rattle.go_ast.specs.declared.tree.Param.{Param, out-Param}
use Rattle.go_ast.specs.declared.tree.Signature.{Signature}
use Rattle.go_ast.specs.declared.word.Word.{Word}
use Rattle.go_ast.specs.declared.word.Mark.{Mark}
use Rattle.go_ast.specs.declared.word.Mark.TheVariants as m
use Rattle.go_ast.specs.Cutting.{pieces, Encloses}
use Rattle.go_ast.specs.Marks.{same_mark}
use Rattle.go_ast.specs.Types.{param, sharing_param, signature}
use Rattle.type_parser.specs.Cut.{enclosed}
use Rattle.go_ast.specs.Types as g
use Rattle.type_parser.specs.Reading as reads
use Rattle.type_parser.specs.Reading.{◌>>=◌, ◌<$>◌, alone, may_be_type, looks_named}
use Rattle.type_parser.proofs.Closing.{marks_are, marks_same, marks_differ, differ_marks}
use Rattle.type_parser.proofs.Closing.{some-is}
use Rattle.type_parser.proofs.Closed.{enclosed-sound, alone-sound, opens-with, alone-complete}
use Rattle.type_parser.proofs.Options.{bind_some, map_some, guard_some, choice}

-- what may stand in a word list that a function reads as a type
pub record Reads (f : List Word → Option TypeExpr) : Type 0 where
  pub nothing : f [] ≡ None
  pub begins : (w : Word) (ws : List Word) (x : TypeExpr) → f (w ∷ ws) ≡ Some x
      → may_be_type w ws ≡ true
  pub no_tilde : (w : Word) (ws : List Word) (x : TypeExpr) → f (w ∷ ws) ≡ Some x → w.mark ≢ m.Tilde
  pub no_comma : (w : Word) (ws : List Word) (x : TypeExpr) → f (w ∷ ws) ≡ Some x → w.mark ≢ m.Comma
  pub no_dots : (w : Word) (ws : List Word) (x : TypeExpr) → f (w ∷ ws) ≡ Some x
      → w.mark ≢ m.Ellipsis
  pub unnamed : (ws : List Word) (x : TypeExpr) → f ws ≡ Some x → looks_named ws ≡ false

or-true : (b : Bool) → (b || true) ≡ true
or-true true = refl
or-true false = refl

-- a mark that is no dot and no bracket
pub plain-begins : (mark : Mark) (w : Word) (ws : List Word) → w.mark ≡ mark
    → same_mark mark m.Dot ≡ false → same_mark mark m.OpenBracket ≡ false → may_be_type w ws ≡ true
unfolding may_be_type reads.is_all_bracketed
plain-begins mark w ws is dot bracket =
    rw (
      marks_differ w.mark m.Dot (λ e. differ_marks mark m.Dot dot (sym is ∙ e)),
      marks_differ w.mark m.OpenBracket
          (λ e. differ_marks mark m.OpenBracket bracket (sym is ∙ e)),
    ) refl

-- three dots are no dot and no bracket
dots-may_be : (w : Word) (us : List Word) → w.mark ≡ m.Ellipsis → may_be_type w us ≡ true
unfolding same_mark
dots-may_be w us is = plain-begins m.Ellipsis w us is refl refl

pub looks-by : (name : Word) (ws : List Word) (w : Word) (us : List Word) → name.mark ≡ m.Ident
    → ws ≡ w ∷ us → may_be_type w us ≡ true → looks_named (name ∷ ws) ≡ true
unfolding looks_named
looks-by name ws w us is e may = rw (e, marks_same name.mark m.Ident is, may) refl

module _ (f : List Word → Option TypeExpr) (S : List Word → TypeExpr → Type 0) where
  abbrev Sound : Type 0
  Sound = (ws : List Word) (x : TypeExpr) → f ws ≡ Some x → S ws x

  abbrev Complete : Type 0
  Complete = (ws : List Word) (x : TypeExpr) → S ws x → f ws ≡ Some x

  typed-sound : Sound → (dots : Bool) (ws : List Word) (y : TypeExpr × Bool)
      → reads.typed f dots ws ≡ Some y → g.Typed S dots ws y.0 y.1
  unfolding reads.typed
  typed-sound h dots [] y e = absurd (cc)
  typed-sound h true (w ∷ ws) y e = ⊎_elim
      (λ p. let read = map_some (λ x. (x, true)) (f ws) y p.1 in
      subst (λ z. g.Typed S true (w ∷ ws) z.0 z.1) read.2
      (g.variadic w (marks_are w.mark m.Ellipsis p.0) (h ws read.0 read.1)))
      (λ p. let read = map_some (λ x. (x, false)) (f (w ∷ ws)) y p.1 in
      subst (λ z. g.Typed S true (w ∷ ws) z.0 z.1) read.2 (g.plain true (h (w ∷ ws) read.0 read.1)))
      (choice (same_mark w.mark m.Ellipsis) ((λ x. (x, true)) <$> f ws)
      ((λ x. (x, false)) <$> f (w ∷ ws)) (Some y) e)
  typed-sound h false (w ∷ ws) y e = ⊎_elim
      (λ p. absurd (cc p.1))
      (λ p. let read = map_some (λ x. (x, false)) (f (w ∷ ws)) y p.1 in
      subst (λ z. g.Typed S false (w ∷ ws) z.0 z.1) read.2
      (g.plain false (h (w ∷ ws) read.0 read.1)))
      (choice (same_mark w.mark m.Ellipsis) None ((λ x. (x, false)) <$> f (w ∷ ws)) (Some y) e)

  shared-sound : (dots : Bool) (name : Word) (es : List (List Word)) (ps qs : List Param)
      → name.mark ≡ m.Ident → g.Named S dots es ps
      → reads.sharing f name ps ≡ Some qs → g.Named S dots ((name ∷ []) ∷ es) qs
  shared-sound dots name es [] qs is n e = absurd (cc)
  shared-sound dots name es (p ∷ ps) qs is n e = go (out-Param p).variadic refl e
    where
      go : (t : Bool) → (out-Param p).variadic ≡ t
          → cond {A = Option (List Param)} t None
          (Some (sharing_param name.span (out-Param p).typ ∷ p ∷ ps)) ≡ Some qs
          → g.Named S dots ((name ∷ []) ∷ es) qs
      go true t e = absurd (cc)
      go false t e = subst (g.Named S dots ((name ∷ []) ∷ es)) (some-is _ qs e)
          (g.shared dots name is n t)

  entry-sound : Sound → (dots : Bool) (e : List Word) (es : List (List Word)) (ps qs : List Param)
      → g.Named S dots es ps
      → reads.named_entry f dots e (Some ps) ≡ Some qs → g.Named S dots (e ∷ es) qs
  unfolding reads.named_entry
  entry-sound h dots [] es ps qs n r = absurd (cc)
  entry-sound h dots (name ∷ []) es ps qs n r =
      let test = guard_some (same_mark name.mark m.Ident) (reads.sharing f name ps) qs r in
      shared-sound dots name es ps qs (marks_are name.mark m.Ident test.0) n test.1
  entry-sound h dots (name ∷ w ∷ ws) es ps qs n r =
      let test = guard_some (same_mark name.mark m.Ident) (reads.before_others f name (w ∷ ws) ps)
      qs r in
      let read = map_some (λ x. param (Some name.span) x false ∷ ps) (f (w ∷ ws)) qs test.1 in
      subst (g.Named S dots ((name ∷ w ∷ ws) ∷ es)) read.2
      (g.typed dots name (marks_are name.mark m.Ident test.0) (h (w ∷ ws) read.0 read.1) n)

  last-sound : Sound → (dots : Bool) (e : List Word) (qs : List Param)
      → reads.named_last f dots e ≡ Some qs → g.Named S dots (e ∷ []) qs
  unfolding reads.named_last
  last-sound h dots [] qs r = absurd (cc)
  last-sound h dots (name ∷ ws) qs r =
      let test = guard_some (same_mark name.mark m.Ident) (reads.last_named f dots name ws) qs r in
      let read = map_some (λ x. param (Some name.span) x.0 x.1 ∷ []) (reads.typed f dots ws) qs
      test.1 in
      subst (g.Named S dots ((name ∷ ws) ∷ [])) read.2
      (g.final dots name (marks_are name.mark m.Ident test.0)
      (typed-sound h dots ws read.0 read.1))

  no-entry : (dots : Bool) (e : List Word) (qs : List Param)
      → reads.named_entry f dots e None ≡ Some qs → ⊥
  unfolding reads.named_entry
  no-entry dots [] qs r = absurd (cc)
  no-entry dots (name ∷ ws) qs r = let test = guard_some (same_mark name.mark m.Ident) None qs r in
      absurd (cc test.1)

  with_names-sound : Sound → (dots : Bool) (es : List (List Word)) (qs : List Param)
      → reads.with_names f dots es ≡ Some qs → g.Named S dots es qs
  with_names-sound h dots [] qs r = absurd (cc)
  with_names-sound h dots (e ∷ []) qs r = last-sound h dots e qs r
  with_names-sound h dots (e ∷ d ∷ es) qs r =
      go (reads.with_names f dots (d ∷ es)) refl r (with_names-sound h dots (d ∷ es))
    where
      go : (o : Option (List Param)) → reads.with_names f dots (d ∷ es) ≡ o
          → reads.named_entry f dots e o ≡ Some qs
          → ((ps : List Param) → reads.with_names f dots (d ∷ es) ≡ Some ps
          → g.Named S dots (d ∷ es) ps) → g.Named S dots (e ∷ d ∷ es) qs
      go None is r ih = absurd (no-entry dots e qs r)
      go (Some ps) is r ih = entry-sound h dots e (d ∷ es) ps qs (ih ps is) r

  without_names-sound : Sound → (dots : Bool) (es : List (List Word)) (qs : List Param)
      → reads.without_names f dots es ≡ Some qs → g.Unnamed S dots es qs
  without_names-sound h dots [] qs r = let none : [] ≡ qs = some-is [] qs r in
      subst (g.Unnamed S dots []) none (g.empty dots)
  without_names-sound h dots (e ∷ []) qs r =
      let read = map_some (λ x. param None x.0 x.1 ∷ []) (reads.typed f dots e) qs r in
      subst (g.Unnamed S dots (e ∷ [])) read.2
      (g.ultimate dots (typed-sound h dots e read.0 read.1))
  without_names-sound h dots (e ∷ d ∷ es) qs r =
      let others = bind_some (reads.without_names f dots (d ∷ es)) _ qs r in
      let read = map_some (λ x. param None x false ∷ others.0) (f e) qs others.2 in
      subst (g.Unnamed S dots (e ∷ d ∷ es)) read.2
      (g.further dots (h e read.0 read.1)
      (without_names-sound h dots (d ∷ es) others.0 others.1))

  params-sound : Sound → (dots : Bool) (ws : List Word) (qs : List Param)
      → reads.params f dots ws ≡ Some qs → g.Params S dots ws qs
  unfolding reads.params
  params-sound h dots ws qs r = ⊎_elim
      (λ p. g.with_names dots (with_names-sound h dots (pieces m.Comma ws) qs p.1))
      (λ p. g.without_names dots (without_names-sound h dots (pieces m.Comma ws) qs p.1))
      (choice (list_any looks_named (pieces m.Comma ws))
      (reads.with_names f dots (pieces m.Comma ws))
      (reads.without_names f dots (pieces m.Comma ws)) (Some qs) r)

  result_of-sound : Sound → (v : Word) (vs : List Word) (inner : List Word) (ws : List Word)
      (ps rs : List Param) → Encloses m.OpenParen m.CloseParen ws inner (v ∷ vs)
      → g.Params S true inner ps
      → reads.result_of f (v ∷ vs) v vs ≡ Some rs → g.IsSignature S ws (signature ps rs)
  result_of-sound h v vs inner ws ps rs brackets spelled e = ⊎_elim
      (λ p. let outs = bind_some (alone m.CloseParen vs) (reads.params f false) rs p.1 in
      g.results brackets
      (alone-sound m.OpenParen m.CloseParen v vs outs.0 (marks_are v.mark m.OpenParen p.0)
      outs.1) spelled (params-sound h false outs.0 rs outs.2))
      (λ p. let read = map_some (λ x. param None x false ∷ []) (f (v ∷ vs)) rs p.1 in
      subst (λ qs. g.IsSignature S ws (signature ps qs)) read.2
      (g.one_result v brackets (differ_marks v.mark m.OpenParen p.0) spelled
      (h (v ∷ vs) read.0 read.1)))
      (choice (same_mark v.mark m.OpenParen) (alone m.CloseParen vs >>= reads.params f false)
      ((λ x. param None x false ∷ []) <$> f (v ∷ vs)) (Some rs) e)

  results-sound : Sound → (inner rest ws : List Word) (ps rs : List Param)
      → Encloses m.OpenParen m.CloseParen ws inner rest → g.Params S true inner ps
      → reads.results f rest ≡ Some rs → g.IsSignature S ws (signature ps rs)
  results-sound h inner [] ws ps rs brackets spelled e =
      let none : [] ≡ rs = some-is [] rs e in
      subst (λ qs. g.IsSignature S ws (signature ps qs)) none (g.no_result brackets spelled)
  results-sound h inner (v ∷ vs) ws ps rs brackets spelled e =
      result_of-sound h v vs inner ws ps rs brackets spelled e

  pub signature-sound : Sound → (ws : List Word) (sig : Signature)
      → reads.read_signature f ws ≡ Some sig → g.IsSignature S ws sig
  unfolding reads.read_signature
  signature-sound h [] sig e = absurd (cc)
  signature-sound h (w ∷ ws) sig e =
      let test = guard_some (same_mark w.mark m.OpenParen)
      (enclosed m.CloseParen ws >>= reads.signature_of f) sig e in
      let parts = bind_some (enclosed m.CloseParen ws) (reads.signature_of f) sig test.1 in
      let ps = bind_some (reads.params f true parts.0.0) _ sig parts.2 in
      let rs = map_some (signature ps.0) (reads.results f parts.0.1) sig ps.2 in
      let brackets = enclosed-sound m.OpenParen m.CloseParen w ws parts.0.0 parts.0.1
      (marks_are w.mark m.OpenParen test.0) parts.1 in
      subst (g.IsSignature S (w ∷ ws)) rs.2
      (results-sound h parts.0.0 parts.0.1 (w ∷ ws) ps.0 rs.0 brackets
      (params-sound h true parts.0.0 ps.0 ps.1) rs.1)

  -- the other way round
  typed-complete : Complete → Reads f → (dots : Bool) (ws : List Word) (x : TypeExpr) (v : Bool)
      → g.Typed S dots ws x v → reads.typed f dots ws ≡ Some (x, v)
  unfolding reads.typed
  typed-complete h r dots [] x _ (g.plain _ s) = absurd (cc (h [] x s, r.nothing))
  typed-complete h r dots (w ∷ ws) x _ (g.plain _ s) =
      rw (marks_differ w.mark m.Ellipsis (no-dots w ws x (h (w ∷ ws) x s)), h (w ∷ ws) x s) refl
    where
      no-dots : (u : Word) (us : List Word) (y : TypeExpr) → f (u ∷ us) ≡ Some y
          → u.mark ≢ m.Ellipsis
      no-dots u us y e is = r.no_dots u us y e is
  typed-complete h r _ _ x _ (g.variadic w {ws} is s) =
      rw (marks_same w.mark m.Ellipsis is, h ws x s) refl

  -- words with which a type may go on after a name
  typed-begins : Complete → Reads f → (dots : Bool) (ws : List Word) (x : TypeExpr) (v : Bool)
      → g.Typed S dots ws x v
      → (w : Word) × (us : List Word) × (ws ≡ w ∷ us) × (may_be_type w us ≡ true)
  typed-begins h r dots [] x _ (g.plain _ s) = absurd (cc (h [] x s, r.nothing))
  typed-begins h r dots (w ∷ ws) x _ (g.plain _ s) = (w, ws, refl, r.begins w ws x (h (w ∷ ws) x s))
  typed-begins h r _ _ x _ (g.variadic w {ws} is s) = (w, ws, refl, dots-may_be w ws is)

  -- some entry with a name and a type shows that the others have names
  shows : Complete → Reads f → (dots : Bool) (es : List (List Word)) (ps : List Param)
      → g.Named S dots es ps → list_any looks_named es ≡ true
  shows h r dots _ _ (g.final _ name {ws} {x} {v} is s) =
      let begun = typed-begins h r dots ws x v s in
      rw (looks-by name ws begun.0 begun.1 is begun.2 begun.3) refl
  shows h r dots _ _ (g.typed _ name {ws} {x} {es} {ps} is s n) =
      rw (shows h r dots es ps n) (or-true (looks_named (name ∷ ws)))
  shows h r dots _ _ (g.shared _ name {es} {p} {ps} is n v) =
      rw (shows h r dots es (p ∷ ps) n) (or-true (looks_named (name ∷ [])))

  with_names-complete : Complete → Reads f → (dots : Bool) (es : List (List Word)) (ps : List Param)
      → g.Named S dots es ps → reads.with_names f dots es ≡ Some ps
  unfolding reads.named_last reads.named_entry
  with_names-complete h r dots _ _ (g.final _ name {ws} {x} {v} is s) =
      rw (marks_same name.mark m.Ident is, typed-complete h r dots ws x v s) refl
  with_names-complete h r dots _ _ (g.typed _ name {ws} {x} {es = []} {ps} is s n) = elim n [ ]
  with_names-complete h r dots _ _ (g.typed _ name {ws = []} {x} {es = d ∷ es} {ps} is s n) =
      absurd (cc (h [] x s, r.nothing))
  with_names-complete h r dots _ _ (g.typed _ name {ws = w ∷ ws} {x} {es = d ∷ es} {ps} is s n) =
      rw (
        with_names-complete h r dots (d ∷ es) ps n,
        marks_same name.mark m.Ident is,
        h (w ∷ ws) x s,
      ) refl
  with_names-complete h r dots _ _ (g.shared _ name {es = []} {p} {ps} is n v) = elim n [ ]
  with_names-complete h r dots _ _ (g.shared _ name {es = d ∷ es} {p} {ps} is n v) =
      rw (with_names-complete h r dots (d ∷ es) (p ∷ ps) n, marks_same name.mark m.Ident is, v) refl

  typed-unnamed : Complete → Reads f → (dots : Bool) (ws : List Word) (x : TypeExpr) (v : Bool)
      → g.Typed S dots ws x v → looks_named ws ≡ false
  unfolding looks_named
  typed-unnamed h r dots ws x _ (g.plain _ s) = r.unnamed ws x (h ws x s)
  typed-unnamed h r _ _ x _ (g.variadic w {ws = []} is s) = refl
  typed-unnamed h r _ _ x _ (g.variadic w {ws = u ∷ us} is s) =
      rw (marks_differ w.mark m.Ident (λ e. absurd (cc (is, e)))) refl

  hides : Complete → Reads f → (dots : Bool) (es : List (List Word)) (ps : List Param)
      → g.Unnamed S dots es ps → list_any looks_named es ≡ false
  hides h r dots _ _ (g.empty _) = refl
  hides h r dots _ _ (g.ultimate _ {ws} {x} {v} s) = rw (typed-unnamed h r dots ws x v s) refl
  hides h r dots _ _ (g.further _ {ws} {x} {es} {ps} s n) =
      rw (r.unnamed ws x (h ws x s), hides h r dots es ps n) refl

  none-left : (dots : Bool) (ps : List Param) → g.Unnamed S dots [] ps → ps ≡ []
  none-left _ _ (g.empty _) = refl

  without_names-complete : Complete → Reads f
      → (dots : Bool) (es : List (List Word)) (ps : List Param) → g.Unnamed S dots es ps
      → reads.without_names f dots es ≡ Some ps
  without_names-complete h r dots _ _ (g.empty _) = refl
  without_names-complete h r dots _ _ (g.ultimate _ {ws} {x} {v} s) =
      rw (typed-complete h r dots ws x v s) refl
  without_names-complete h r dots _ _ (g.further _ {ws} {x} {es = []} {ps} s n) =
      rw (typed-complete h r dots ws x false (g.plain dots s), none-left dots ps n) refl
  without_names-complete h r dots _ _ (g.further _ {ws} {x} {es = d ∷ es} {ps} s n) =
      rw (without_names-complete h r dots (d ∷ es) ps n, h ws x s) refl

  params-complete : Complete → Reads f → (dots : Bool) (ws : List Word) (ps : List Param)
      → g.Params S dots ws ps → reads.params f dots ws ≡ Some ps
  unfolding reads.params
  params-complete h r dots _ _ (g.with_names _ {ws} {ps} n) =
      rw (
        shows h r dots (pieces m.Comma ws) ps n,
        with_names-complete h r dots (pieces m.Comma ws) ps n,
      ) refl
  params-complete h r dots _ _ (g.without_names _ {ws} {ps} n) =
      rw (
        hides h r dots (pieces m.Comma ws) ps n,
        without_names-complete h r dots (pieces m.Comma ws) ps n,
      ) refl

  pub signature-complete : Complete → Reads f → (ws : List Word) (sig : Signature)
      → g.IsSignature S ws sig → reads.read_signature f ws ≡ Some sig
  unfolding reads.read_signature
  signature-complete h r _ _ (g.no_result {ws} {inner} {ps} brackets p) =
      let begun = opens-with m.OpenParen m.CloseParen ws inner [] refl brackets in
      rw (
        begun.2,
        marks_same begun.0.mark m.OpenParen begun.3,
        begun.4,
        params-complete h r true inner ps p,
      ) refl
  signature-complete h r _ _ (g.results {ws} {inner} {rest} {outs} {ps} {rs} brackets behind p q) =
      let begun = opens-with m.OpenParen m.CloseParen ws inner rest refl brackets in
      let second = opens-with m.OpenParen m.CloseParen rest outs [] refl behind in
      rw (
        begun.2,
        marks_same begun.0.mark m.OpenParen begun.3,
        begun.4,
        params-complete h r true inner ps p,
        second.2,
        marks_same second.0.mark m.OpenParen second.3,
        alone-complete m.CloseParen second.1 outs second.4,
        params-complete h r false outs rs q,
      ) refl
  signature-complete h r _ _ (g.one_result {ws} {inner} {rest} v {ps} {x} brackets other p s) =
      let begun = opens-with m.OpenParen m.CloseParen ws inner (v ∷ rest) refl brackets in
      rw (
        begun.2,
        marks_same begun.0.mark m.OpenParen begun.3,
        begun.4,
        params-complete h r true inner ps p,
        marks_differ v.mark m.OpenParen other,
        h (v ∷ rest) x s,
      ) refl

  pub signature-begins : (ws : List Word) (sig : Signature) → g.IsSignature S ws sig
      → (v : Word) × (vs : List Word) × (ws ≡ v ∷ vs) × (v.mark ≡ m.OpenParen)
  signature-begins _ _ (g.no_result {ws} {inner} {ps} brackets p) =
      let begun = opens-with m.OpenParen m.CloseParen ws inner [] refl brackets in
      (begun.0, begun.1, begun.2, begun.3)
  signature-begins _ _ (g.results {ws} {inner} {rest} {outs} {ps} {rs} brackets behind p q) =
      let begun = opens-with m.OpenParen m.CloseParen ws inner rest refl brackets in
      (begun.0, begun.1, begun.2, begun.3)
  signature-begins _ _ (g.one_result {ws} {inner} {rest} v {ps} {x} brackets other p s) =
      let begun = opens-with m.OpenParen m.CloseParen ws inner (v ∷ rest) refl brackets in
      (begun.0, begun.1, begun.2, begun.3)
