-- Fields and elements: what is read is spelled so, and what is spelled so is read.
use Rattle.std.proofs.Common.{◌≡◌, ◌≢◌, ◌∙◌, ap, sym, refl, subst, ℕ, Bool, true, false, cond, ◌&&◌}
use Rattle.std.proofs.Common.{◌==◌, List, [], ◌∷◌, ◌++◌, append_assoc, append-nil, Option, Some}
use Rattle.std.proofs.Common.{None, ⊎_elim}
use Rattle.go_ast.specs.declared.tree.TypeExpr.{TypeExpr}
use Rattle.go_ast.specs.declared.tree.TypeExpr.TheVariants as t
use Rattle.go_ast.specs.declared.tree.Field.{Field}
use Rattle.go_ast.specs.declared.tree.Element.{Element}
use Rattle.go_ast.specs.declared.tree.Element.TheVariants as elements
use Rattle.go_ast.specs.declared.tree.Term.{Term}
use Rattle.go_ast.specs.declared.token.Span.{Span}
use Rattle.go_ast.specs.declared.word.Word.{Word}
use Rattle.go_ast.specs.declared.word.Mark.{Mark}
use Rattle.go_ast.specs.declared.word.Mark.TheVariants as m
use Rattle.go_ast.specs.Cutting.{Encloses, Each, pieces, pieces_from, depth_after, range_of}
use Rattle.go_ast.specs.Cutting.{last_of}
use Rattle.go_ast.specs.Marks.{same_mark}
use Rattle.go_ast.specs.Types as g
use Rattle.go_ast.specs.Types.{term, split_tag}
use Rattle.type_parser.specs.Reading as reads
use Rattle.type_parser.specs.Reading.{◌>>=◌, ◌<$>◌, each, alone, looks_named}
use Rattle.type_parser.specs.Reading.{is_method, not_empty, no_names, one_name, with_name, field_of}
use Rattle.type_parser.proofs.Closing.{marks_are, marks_same, marks_differ, differ_marks}
use Rattle.type_parser.proofs.Closed.{alone-sound, opens-with, alone-complete}
use Rattle.type_parser.proofs.Options.{bind_some, map_some, guard_some, choice, not_empty_some}
use Rattle.type_parser.proofs.Options.{each-sound, each-complete}
use Rattle.type_parser.proofs.ParamLaws.{Reads, plain-begins, looks-by, signature-sound}
use Rattle.type_parser.proofs.ParamLaws.{signature-complete, signature-begins}
use Rattle.type_parser.proofs.Pieces.{cuts}

and-left : (a b : Bool) → (a && b) ≡ true → a ≡ true
and-left true b e = refl
and-left false b e = e

-- what is in a piece already stays at its front
grows : (mark : Mark) (depth : ℕ) (first : Word) (front ws : List Word)
    → (us : List Word) × (ps : List (List Word))
    × (pieces_from mark depth (first ∷ front) ws ≡ (first ∷ front ++ us) ∷ ps)
grows mark depth first front [] = ([], [], rw append-nil refl)
grows mark depth first front (w ∷ ws) =
    go (cuts mark depth w) refl (grows mark (depth_after depth w.mark) first (front ++ w ∷ []) ws)
  where
    go : (b : Bool) → cuts mark depth w ≡ b
        → (us : List Word) × (ps : List (List Word))
        × (pieces_from mark (depth_after depth w.mark) (first ∷ front ++ w ∷ []) ws
        ≡ (first ∷ (front ++ w ∷ []) ++ us) ∷ ps)
        → (us : List Word) × (ps : List (List Word))
        × (pieces_from mark depth (first ∷ front) (w ∷ ws) ≡ (first ∷ front ++ us) ∷ ps)
    go true h ih = ([], pieces_from mark 0 [] ws, rw (h, append-nil) refl)
    go false h ih = (
      w ∷ ih.0,
      ih.1,
      rw h (ih.2 ∙ ap (λ us. (first ∷ us) ∷ ih.1) (append_assoc front (w ∷ []) ih.0)),
    )

-- a word that isn't the separator continues with the piece
passes : (mark : Mark) (depth : ℕ) (front : List Word) (w : Word) (ws : List Word) → w.mark ≢ mark
    → pieces_from mark depth front (w ∷ ws)
    ≡ pieces_from mark (depth_after depth w.mark) (front ++ w ∷ []) ws
passes mark depth front w ws other =
    rw (marks_differ w.mark mark other, false-right (depth == 0)) refl
  where
    false-right : (b : Bool) → (b && false) ≡ false
    false-right true = refl
    false-right false = refl

-- a piece that begins with a name and a parenthesis
call-piece : (w v : Word) (vs : List Word) → w.mark ≡ m.Ident → v.mark ≡ m.OpenParen
    → (us : List Word) × (ps : List (List Word)) × (pieces m.Bar (w ∷ v ∷ vs) ≡ (w ∷ v ∷ us) ∷ ps)
unfolding pieces
call-piece w v vs is paren =
    let more = grows m.Bar (depth_after (depth_after 0 w.mark) v.mark) w (v ∷ []) vs in
    let first = passes m.Bar 0 [] w (v ∷ vs) (λ e. absurd (cc (is, e))) in
    let second = passes m.Bar (depth_after 0 w.mark) (w ∷ []) v vs (λ e. absurd (cc (paren, e))) in
    (more.0, more.1, first ∙ second ∙ more.2)

module _ (f : List Word → Option TypeExpr) (S : List Word → TypeExpr → Type 0) where
  abbrev Sound : Type 0
  Sound = (ws : List Word) (x : TypeExpr) → f ws ≡ Some x → S ws x

  abbrev Complete : Type 0
  Complete = (ws : List Word) (x : TypeExpr) → S ws x → f ws ≡ Some x

  pub declared-sound : Sound → (ws : List Word) (y : List Span × TypeExpr)
      → reads.declared f ws ≡ Some y → g.Declared S ws y.0 y.1
  declared-sound h [] y e = absurd (cc)
  declared-sound h (name ∷ []) y e = absurd (cc)
  declared-sound h (name ∷ v ∷ vs) y e =
      let test = guard_some (same_mark name.mark m.Ident)
      (cond (same_mark v.mark m.Comma) (with_name name.span <$> reads.declared f vs)
      (one_name name.span <$> f (v ∷ vs))) y e in
      let is = marks_are name.mark m.Ident test.0 in
      ⊎_elim
      (λ p. let read = map_some (with_name name.span) (reads.declared f vs) y p.1 in
      subst (λ z. g.Declared S (name ∷ v ∷ vs) z.0 z.1) read.2
      (g.more name v is (marks_are v.mark m.Comma p.0) (declared-sound h vs read.0 read.1)))
      (λ p. let read = map_some (one_name name.span) (f (v ∷ vs)) y p.1 in
      subst (λ z. g.Declared S (name ∷ v ∷ vs) z.0 z.1) read.2
      (g.one name is (h (v ∷ vs) read.0 read.1)))
      (choice (same_mark v.mark m.Comma) (with_name name.span <$> reads.declared f vs)
      (one_name name.span <$> f (v ∷ vs)) (Some y) test.1)

  field_body-sound : Sound → (ws : List Word) (y : List Span × TypeExpr)
      → reads.field_body f ws ≡ Some y → g.IsFieldBody S ws y.0 y.1
  unfolding reads.field_body
  field_body-sound h [] y e = absurd (cc)
  field_body-sound h (w ∷ []) y e =
      let test = guard_some (same_mark w.mark m.Ident) (reads.embedded f (w ∷ [])) y e in
      let read = map_some no_names (f (w ∷ [])) y test.1 in
      subst (λ z. g.IsFieldBody S (w ∷ []) z.0 z.1) read.2
      (g.embedded w (marks_are w.mark m.Ident test.0) (h (w ∷ []) read.0 read.1))
  field_body-sound h (w ∷ v ∷ vs) y e = ⊎_elim
      (λ p. let test = guard_some (same_mark v.mark m.Ident) (reads.embedded f (w ∷ v ∷ vs)) y p.1
      in
      let read = map_some no_names (f (w ∷ v ∷ vs)) y test.1 in
      subst (λ z. g.IsFieldBody S (w ∷ v ∷ vs) z.0 z.1) read.2
      (g.embedded_pointer w v (marks_are w.mark m.Star p.0) (marks_are v.mark m.Ident test.0)
      (h (w ∷ v ∷ vs) read.0 read.1)))
      (λ p. ⊎_elim
      (λ q. g.with_names (declared-sound h (w ∷ v ∷ vs) y q.1))
      (λ q. let test = guard_some (same_mark w.mark m.Ident) (reads.embedded f (w ∷ v ∷ vs)) y q.1
      in
      let read = map_some no_names (f (w ∷ v ∷ vs)) y test.1 in
      subst (λ z. g.IsFieldBody S (w ∷ v ∷ vs) z.0 z.1) read.2
      (g.embedded w (marks_are w.mark m.Ident test.0) (h (w ∷ v ∷ vs) read.0 read.1)))
      (choice (looks_named (w ∷ v ∷ vs)) (reads.declared f (w ∷ v ∷ vs))
      (cond (same_mark w.mark m.Ident) (reads.embedded f (w ∷ v ∷ vs)) None) (Some y) p.1))
      (choice (same_mark w.mark m.Star)
      (cond (same_mark v.mark m.Ident) (reads.embedded f (w ∷ v ∷ vs)) None)
      (cond (looks_named (w ∷ v ∷ vs)) (reads.declared f (w ∷ v ∷ vs))
      (cond (same_mark w.mark m.Ident) (reads.embedded f (w ∷ v ∷ vs)) None)) (Some y) e)

  field-sound : Sound → (ws : List Word) (y : Field) → reads.read_field f ws ≡ Some y
      → g.IsField S ws y
  unfolding reads.read_field
  field-sound h [] y e = absurd (cc)
  field-sound h (w ∷ ws) y e =
      let parts = split_tag (w ∷ ws) in
      let read = map_some (field_of (range_of w ws) parts.1) (reads.field_body f parts.0) y e in
      subst (g.IsField S (w ∷ ws)) read.2 (g.declared w (field_body-sound h parts.0 read.0 read.1))

  pub structure-sound : Sound → (word : Word) (ws : List Word) (x : TypeExpr) → word.mark ≡ m.Struct
      → reads.structure f ws ≡ Some x → g.IsType S (word ∷ ws) x
  unfolding reads.structure
  structure-sound h word [] x is e = absurd (cc)
  structure-sound h word (w ∷ ws) x is e =
      let test = guard_some (same_mark w.mark m.OpenBrace)
      (alone m.CloseBrace ws >>= reads.fields f) x e in
      let inner = bind_some (alone m.CloseBrace ws) (reads.fields f) x test.1 in
      let all = map_some t.Struct (each (reads.read_field f) (pieces m.Semi inner.0)) x inner.2 in
      subst (g.IsType S (word ∷ w ∷ ws)) all.2
      (g.structure word all.0 is
      (alone-sound m.OpenBrace m.CloseBrace w ws inner.0 (marks_are w.mark m.OpenBrace test.0)
      inner.1)
      (each-sound (reads.read_field f) (g.IsField S) (field-sound h) (pieces m.Semi inner.0) all.0
      all.1))

  term-sound : Sound → (ws : List Word) (y : Term) → reads.read_term f ws ≡ Some y → g.IsTerm S ws y
  unfolding reads.read_term
  term-sound h [] y e = absurd (cc)
  term-sound h (w ∷ ws) y e = ⊎_elim
      (λ p. let read = map_some (term true) (f ws) y p.1 in
      subst (g.IsTerm S (w ∷ ws)) read.2
      (g.underlying w (marks_are w.mark m.Tilde p.0) (h ws read.0 read.1)))
      (λ p. let read = map_some (term false) (f (w ∷ ws)) y p.1 in
      subst (g.IsTerm S (w ∷ ws)) read.2 (g.exactly (h (w ∷ ws) read.0 read.1)))
      (choice (same_mark w.mark m.Tilde) (term true <$> f ws) (term false <$> f (w ∷ ws)) (Some y)
      e)

  pub terms-sound : Sound → (ws : List Word) (ys : List Term) → reads.read_terms f ws ≡ Some ys
      → g.AreTerms S ws ys
  unfolding reads.read_terms
  terms-sound h [] ys e = absurd (cc)
  terms-sound h (w ∷ ws) ys e = ⊎_elim
      (λ p. absurd (cc p.1))
      (λ p. let all = bind_some (each (reads.read_term f) (pieces m.Bar (w ∷ ws))) not_empty ys p.1
      in
      let some = not_empty_some all.0 ys all.2 in
      let shown : ys ≡ some.0 ∷ some.1 = some.2 in
      let spelled = each-sound (reads.read_term f) (g.IsTerm S) (term-sound h)
      (pieces m.Bar (w ∷ ws)) (some.0 ∷ some.1) (all.1 ∙ ap Some (some.3 ∙ shown)) in
      subst (g.AreTerms S (w ∷ ws)) (sym shown)
      (g.terms w (differ_marks (last_of w ws).mark m.Bar p.0) spelled))
      (choice (same_mark (last_of w ws).mark m.Bar) None
      (each (reads.read_term f) (pieces m.Bar (w ∷ ws)) >>= not_empty) (Some ys) e)

  method-named : (w : Word) (ws : List Word) → is_method w ws ≡ true → w.mark ≡ m.Ident
  unfolding is_method
  method-named w [] e = absurd (cc)
  method-named w (v ∷ vs) e = marks_are w.mark m.Ident
      (and-left (same_mark w.mark m.Ident) (same_mark v.mark m.OpenParen) e)

  element-sound : Sound → (ws : List Word) (y : Element) → reads.read_element f ws ≡ Some y
      → g.IsElement S ws y
  unfolding reads.read_element
  element-sound h [] y e = absurd (cc)
  element-sound h (w ∷ ws) y e = ⊎_elim
      (λ p. let read = map_some (elements.Method (range_of w ws) w.span) (reads.read_signature f ws)
      y p.1 in
      subst (g.IsElement S (w ∷ ws)) read.2
      (g.method w (method-named w ws p.0) (signature-sound f S h ws read.0 read.1)))
      (λ p. let read = map_some (elements.Terms (range_of w ws)) (reads.read_terms f (w ∷ ws)) y p.1
      in
      subst (g.IsElement S (w ∷ ws)) read.2 (g.union w (terms-sound h (w ∷ ws) read.0 read.1)))
      (choice (is_method w ws) (elements.Method (range_of w ws) w.span
      <$> reads.read_signature f ws)
      (elements.Terms (range_of w ws) <$> reads.read_terms f (w ∷ ws)) (Some y) e)

  pub interface-sound : Sound → (word : Word) (ws : List Word) (x : TypeExpr)
      → word.mark ≡ m.Interface → reads.interface f ws ≡ Some x → g.IsType S (word ∷ ws) x
  unfolding reads.interface
  interface-sound h word [] x is e = absurd (cc)
  interface-sound h word (w ∷ ws) x is e =
      let test = guard_some (same_mark w.mark m.OpenBrace)
      (alone m.CloseBrace ws >>= reads.elements_of f) x e in
      let inner = bind_some (alone m.CloseBrace ws) (reads.elements_of f) x test.1 in
      let all = map_some t.Interface (each (reads.read_element f) (pieces m.Semi inner.0)) x inner.2
      in
      subst (g.IsType S (word ∷ w ∷ ws)) all.2
      (g.interface word all.0 is
      (alone-sound m.OpenBrace m.CloseBrace w ws inner.0 (marks_are w.mark m.OpenBrace test.0)
      inner.1)
      (each-sound (reads.read_element f) (g.IsElement S) (element-sound h) (pieces m.Semi inner.0)
      all.0 all.1))

  -- the other way round
  pub declared-complete : Complete → Reads f → (ws : List Word) (names : List Span) (x : TypeExpr)
      → g.Declared S ws names x → reads.declared f ws ≡ Some (names, x)
  declared-complete h r _ _ x (g.one name {ws = []} is s) = absurd (cc (h [] x s, r.nothing))
  declared-complete h r _ _ x (g.one name {ws = w ∷ ws} is s) =
      rw (
        marks_same name.mark m.Ident is,
        marks_differ w.mark m.Comma (r.no_comma w ws x (h (w ∷ ws) x s)),
        h (w ∷ ws) x s,
      ) refl
  declared-complete h r _ _ x (g.more name comma {ws} {names} is is_comma d) =
      rw (
        marks_same name.mark m.Ident is,
        marks_same comma.mark m.Comma is_comma,
        declared-complete h r ws names x d,
      ) refl

  declared-begins : Complete → Reads f → (ws : List Word) (names : List Span) (x : TypeExpr)
      → g.Declared S ws names x
      → (w v : Word) × (vs : List Word) × (ws ≡ w ∷ v ∷ vs) × (w.mark ≡ m.Ident)
      × (looks_named (w ∷ v ∷ vs) ≡ true)
  unfolding same_mark
  declared-begins h r _ _ x (g.one name {ws = []} is s) = absurd (cc (h [] x s, r.nothing))
  declared-begins h r _ _ x (g.one name {ws = w ∷ ws} is s) = (
    name,
    w,
    ws,
    refl,
    is,
    looks-by name (w ∷ ws) w ws is refl
        (r.begins w ws x (h (w ∷ ws) x s)),
  )
  declared-begins h r _ _ x (g.more name comma {ws} {names} is is_comma d) = (
    name,
    comma,
    ws,
    refl,
    is,
    looks-by name (comma ∷ ws) comma ws is refl
        (plain-begins m.Comma comma ws is_comma refl refl),
  )

  named-body : (w v : Word) (vs : List Word) (y : List Span × TypeExpr) → w.mark ≡ m.Ident
      → looks_named (w ∷ v ∷ vs) ≡ true
      → reads.declared f (w ∷ v ∷ vs) ≡ Some y → reads.field_body f (w ∷ v ∷ vs) ≡ Some y
  unfolding reads.field_body
  named-body w v vs y is looks all = rw
      (marks_differ w.mark m.Star (λ e. absurd (cc (is, e))), looks) all

  embedded-body : Complete → Reads f → (w : Word) (ws : List Word) (x : TypeExpr) → w.mark ≡ m.Ident
      → S (w ∷ ws) x
      → reads.field_body f (w ∷ ws) ≡ Some (no_names x)
  unfolding reads.field_body
  embedded-body h r w [] x is s = rw (marks_same w.mark m.Ident is, h (w ∷ []) x s) refl
  embedded-body h r w (v ∷ vs) x is s =
      rw (
        marks_differ w.mark m.Star (λ e. absurd (cc (is, e))),
        r.unnamed (w ∷ v ∷ vs) x (h (w ∷ v ∷ vs) x s),
        marks_same w.mark m.Ident is,
        h (w ∷ v ∷ vs) x s,
      ) refl

  field_body-complete : Complete → Reads f → (ws : List Word) (names : List Span) (x : TypeExpr)
      → g.IsFieldBody S ws names x
      → reads.field_body f ws ≡ Some (names, x)
  unfolding reads.field_body
  field_body-complete h r _ _ x (g.with_names {ws} {names} d) =
      let begun = declared-begins h r ws names x d in
      let all = subst (λ us. reads.declared f us ≡ Some (names, x)) begun.3
      (declared-complete h r ws names x d) in
      subst (λ us. reads.field_body f us ≡ Some (names, x)) (sym begun.3)
      (named-body begun.0 begun.1 begun.2 (names, x) begun.4 begun.5 all)
  field_body-complete h r _ _ x (g.embedded name {ws} is s) = embedded-body h r name ws x is s
  field_body-complete h r _ _ x (g.embedded_pointer star name {ws} is is_name s) =
      rw (
        marks_same star.mark m.Star is,
        marks_same name.mark m.Ident is_name,
        h (star ∷ name ∷ ws) x s,
      ) refl

  field-complete : Complete → Reads f → (ws : List Word) (y : Field) → g.IsField S ws y
      → reads.read_field f ws ≡ Some y
  unfolding reads.read_field
  field-complete h r _ _ (g.declared w {ws} {names} {x} b) =
      ap (λ o. field_of (range_of w ws) (split_tag (w ∷ ws)).1 <$> o)
      (field_body-complete h r (split_tag (w ∷ ws)).0 names x b)

  pub structure-complete : Complete → Reads f → (ws inner : List Word) (fields : List Field)
      → Encloses m.OpenBrace m.CloseBrace ws inner []
      → Each (g.IsField S) (pieces m.Semi inner) fields
      → reads.structure f ws ≡ Some (t.Struct fields)
  unfolding reads.structure
  structure-complete h r ws inner fields brackets s =
      let begun = opens-with m.OpenBrace m.CloseBrace ws inner [] refl brackets in
      rw (
        begun.2,
        marks_same begun.0.mark m.OpenBrace begun.3,
        alone-complete m.CloseBrace begun.1 inner begun.4,
        each-complete (reads.read_field f) (g.IsField S) (field-complete h r) (pieces m.Semi inner)
            fields s,
      ) refl

  term-complete : Complete → Reads f → (ws : List Word) (y : Term) → g.IsTerm S ws y
      → reads.read_term f ws ≡ Some y
  unfolding reads.read_term
  term-complete h r _ _ (g.exactly {ws = []} {x} s) = absurd (cc (h [] x s, r.nothing))
  term-complete h r _ _ (g.exactly {ws = w ∷ ws} {x} s) =
      rw (marks_differ w.mark m.Tilde (r.no_tilde w ws x (h (w ∷ ws) x s)), h (w ∷ ws) x s) refl
  term-complete h r _ _ (g.underlying tilde {ws} {x} is s) =
      rw (marks_same tilde.mark m.Tilde is, h ws x s) refl

  pub terms-complete : Complete → Reads f → (ws : List Word) (ys : List Term) → g.AreTerms S ws ys
      → reads.read_terms f ws ≡ Some ys
  unfolding reads.read_terms
  terms-complete h r _ _ (g.terms w {ws} {x} {xs} last s) =
      rw (
        marks_differ (last_of w ws).mark m.Bar last,
        each-complete (reads.read_term f) (g.IsTerm S) (term-complete h r) (pieces m.Bar (w ∷ ws))
            (x ∷ xs) s,
      ) refl

  -- no term begins with a name and a parenthesis
  no-call : Complete → Reads f → (w v : Word) (us : List Word) (y : Term) → w.mark ≡ m.Ident
      → v.mark ≡ m.OpenParen → g.IsTerm S (w ∷ v ∷ us) y → ⊥
  unfolding same_mark
  no-call h r w v us _ is paren (g.exactly {x} s) =
      let named = looks-by w (v ∷ us) v us is refl (plain-begins m.OpenParen v us paren refl refl)
      in
      cc (named, r.unnamed (w ∷ v ∷ us) x (h (w ∷ v ∷ us) x s))
  no-call h r w v us _ is paren (g.underlying _ {x} is_tilde s) = cc (is, is_tilde)

  no-calls : Complete → Reads f → (w v : Word) (vs : List Word) (ys : List Term) → w.mark ≡ m.Ident
      → v.mark ≡ m.OpenParen → g.AreTerms S (w ∷ v ∷ vs) ys → ⊥
  no-calls h r w v vs _ is paren (g.terms _ {x} {xs} last s) =
      let piece = call-piece w v vs is paren in
      let each = subst (λ ps. Each (g.IsTerm S) ps (x ∷ xs)) piece.2 s in
      no-call h r w v piece.0 x is paren each.0

  no-method : Complete → Reads f → (w : Word) (ws : List Word) (ys : List Term)
      → g.AreTerms S (w ∷ ws) ys → is_method w ws ≡ false
  unfolding is_method
  no-method h r w [] ys s = refl
  no-method h r w (v ∷ vs) ys s = go (same_mark w.mark m.Ident) (same_mark v.mark m.OpenParen) refl
      refl
    where
      go : (a b : Bool) → same_mark w.mark m.Ident ≡ a → same_mark v.mark m.OpenParen ≡ b
          → (a && b) ≡ false
      go false b p q = refl
      go true false p q = refl
      go true true p q =
          absurd (no-calls h r w v vs ys (marks_are w.mark m.Ident p)
          (marks_are v.mark m.OpenParen q) s)

  is-method : (name : Word) (ws : List Word) (v : Word) (vs : List Word) → name.mark ≡ m.Ident
      → ws ≡ v ∷ vs → v.mark ≡ m.OpenParen → is_method name ws ≡ true
  unfolding is_method
  is-method name ws v vs is e paren =
      rw (e, marks_same name.mark m.Ident is, marks_same v.mark m.OpenParen paren) refl

  element-complete : Complete → Reads f → (ws : List Word) (y : Element) → g.IsElement S ws y
      → reads.read_element f ws ≡ Some y
  unfolding reads.read_element
  element-complete h r _ _ (g.method name {ws} {sig} is s) =
      let begun = signature-begins f S ws sig s in
      rw (is-method name ws begun.0 begun.1 is begun.2 begun.3, signature-complete f S h r ws sig s)
      refl
  element-complete h r _ _ (g.union w {ws} {xs} s) =
      rw (no-method h r w ws xs s, terms-complete h r (w ∷ ws) xs s) refl

  pub interface-complete : Complete → Reads f → (ws inner : List Word) (es : List Element)
      → Encloses m.OpenBrace m.CloseBrace ws inner []
      → Each (g.IsElement S) (pieces m.Semi inner) es → reads.interface f ws ≡ Some (t.Interface es)
  unfolding reads.interface
  interface-complete h r ws inner es brackets s =
      let begun = opens-with m.OpenBrace m.CloseBrace ws inner [] refl brackets in
      rw (
        begun.2,
        marks_same begun.0.mark m.OpenBrace begun.3,
        alone-complete m.CloseBrace begun.1 inner begun.4,
        each-complete (reads.read_element f) (g.IsElement S) (element-complete h r)
            (pieces m.Semi inner) es s,
      ) refl
