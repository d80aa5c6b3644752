-- Type parameters, signatures and names with a type: what is read is spelled so, and what is
-- spelled so is read.
use Rattle.std.proofs.Common.{◌≡◌, ◌∙◌, ap, sym, refl, subst, true, false, Bool, List, [], ◌∷◌}
use Rattle.std.proofs.Common.{Option, Some, None, if◌then◌else◌, Result, Ok, Err, IfOk, MatchOption}
use Rattle.std.proofs.Common.{slice_get}
use Rattle.go_ast.specs.declared.declaration.TypeParam.{TypeParam}
use Rattle.go_ast.specs.declared.token.Span.{Span}
use Rattle.go_ast.specs.declared.tree.Signature.{Signature}
use Rattle.go_ast.specs.declared.tree.Term.{Term}
use Rattle.go_ast.specs.declared.tree.TheConstants.{MAX_TYPE_LEVELS}
use Rattle.go_ast.specs.declared.tree.TypeExpr.{TypeExpr}
use Rattle.go_ast.specs.declared.word.Word.{Word}
use Rattle.go_ast.specs.declared.word.Mark.TheVariants as m
use Rattle.go_ast.specs.Cutting.{pieces}
use Rattle.go_ast.specs.Marks.{same_mark}
use Rattle.go_ast.specs.Types.{AreTerms, Declared, IsSignature, Spells}
use Rattle.go_ast.specs.TypeParameters as g
use Rattle.go_ast.specs.TypeParameters.{AreTypeParams, Entries, type_param}
use Rattle.go_ast.specs.TypeParameters.{is_array_like, sharing_type_param}
use Rattle.type_parser.specs.Reading.{◌>>=◌, ◌<$>◌, not_empty, type_of, read_signature, read_terms}
use Rattle.type_parser.specs.Reading.{declared}
use Rattle.type_parser.specs.TypeParams as reads
use Rattle.type_parser.proofs.Closing.{marks_are, marks_same, pair-is, some-is}
use Rattle.type_parser.proofs.MemberLaws.{terms-sound, terms-complete, declared-sound}
use Rattle.type_parser.proofs.MemberLaws.{declared-complete}
use Rattle.type_parser.proofs.Options.{bind_some, map_some, guard_some, not_empty_some}
use Rattle.type_parser.proofs.ParamLaws.{signature-sound, signature-complete}
use Rattle.type_parser.proofs.TypeLaws.{type-sound, type-complete, type-reads}

abbrev f : List Word → Option TypeExpr
f = type_of MAX_TYPE_LEVELS

-- an entry that is the last
last-entry : (e : List Word) (p : TypeParam) → reads.entry f e None ≡ Some p
    → Entries (e ∷ []) (p ∷ [])
unfolding reads.entry
last-entry [] p e = absurd (cc)
last-entry (name ∷ []) p e =
    let test = guard_some (same_mark name.mark m.Ident) None p e in
    absurd (cc test.1)
last-entry (name ∷ w ∷ ws) p e =
    let test = guard_some (same_mark name.mark m.Ident)
    (type_param name.span <$> read_terms f (w ∷ ws)) p e in
    let read = map_some (type_param name.span) (read_terms f (w ∷ ws)) p test.1 in
    subst (λ q. Entries ((name ∷ w ∷ ws) ∷ []) (q ∷ [])) read.2
    (g.final name (marks_are name.mark m.Ident test.0)
    (terms-sound f (Spells MAX_TYPE_LEVELS) (type-sound MAX_TYPE_LEVELS) (w ∷ ws) read.0 read.1))

-- an entry before others
earlier-entry : (e : List Word) (p next : TypeParam) (es : List (List Word)) (ps : List TypeParam)
    → Entries es (next ∷ ps) → reads.entry f e (Some next) ≡ Some p
    → Entries (e ∷ es) (p ∷ next ∷ ps)
unfolding reads.entry
earlier-entry [] p next es ps others e = absurd (cc)
earlier-entry (name ∷ []) p next es ps others e =
    let test = guard_some (same_mark name.mark m.Ident)
    (Some (sharing_type_param name.span next.bound)) p e in
    subst (λ q. Entries ((name ∷ []) ∷ es) (q ∷ next ∷ ps)) (some-is _ p test.1)
    (g.shared name (marks_are name.mark m.Ident test.0) others)
earlier-entry (name ∷ w ∷ ws) p next es ps others e =
    let test = guard_some (same_mark name.mark m.Ident)
    (type_param name.span <$> read_terms f (w ∷ ws)) p e in
    let read = map_some (type_param name.span) (read_terms f (w ∷ ws)) p test.1 in
    subst (λ q. Entries ((name ∷ w ∷ ws) ∷ es) (q ∷ next ∷ ps)) read.2
    (g.bounded name (marks_are name.mark m.Ident test.0)
    (terms-sound f (Spells MAX_TYPE_LEVELS) (type-sound MAX_TYPE_LEVELS) (w ∷ ws) read.0 read.1)
    others)

some-entry : (es : List (List Word)) → Entries es [] → ⊥
some-entry es s = elim s [ ]

entries-sound : (e : List Word) (es : List (List Word)) (ps : List TypeParam)
    → reads.entries f (e ∷ es) ≡ Some ps → Entries (e ∷ es) ps
entries-sound e [] ps h =
    let read = map_some (λ p. p ∷ []) (reads.entry f e None) ps h in
    subst (Entries (e ∷ [])) read.2 (last-entry e read.0 read.1)
entries-sound e (d ∷ es) ps h =
    let others = bind_some (reads.entries f (d ∷ es)) (reads.add_entry f e) ps h in
    go others.0 (entries-sound d es others.0 others.1) others.2
  where
    go : (qs : List TypeParam) → Entries (d ∷ es) qs → reads.add_entry f e qs ≡ Some ps
        → Entries (e ∷ d ∷ es) ps
    go [] s r = absurd (some-entry (d ∷ es) s)
    go (q ∷ qs) s r =
        let read = map_some (λ p. p ∷ q ∷ qs) (reads.entry f e (Some q)) ps r in
        subst (Entries (e ∷ d ∷ es)) read.2 (earlier-entry e read.0 q (d ∷ es) qs s read.1)

-- an entry with a bound of its own
own-bound : (name : Word) (ws : List Word) (xs : List Term) (next : Option TypeParam)
    → name.mark ≡ m.Ident → AreTerms (Spells MAX_TYPE_LEVELS) ws xs
    → reads.entry f (name ∷ ws) next ≡ Some (type_param name.span xs)
unfolding reads.entry
own-bound name [] xs next is s = elim s [ ]
own-bound name (w ∷ ws) xs next is s =
    rw (
      marks_same name.mark m.Ident is,
      terms-complete f (Spells MAX_TYPE_LEVELS) (type-complete MAX_TYPE_LEVELS)
          (type-reads MAX_TYPE_LEVELS) (w ∷ ws) xs s,
    ) refl

entries-complete : (es : List (List Word)) (ps : List TypeParam) → Entries es ps
    → reads.entries f es ≡ Some ps
unfolding reads.entry
entries-complete _ _ (g.final name {ws} {xs} is s) = rw (own-bound name ws xs None is s) refl
entries-complete _ _ (g.bounded name {ws} {xs} {es} {ps} is s others) =
    rw (entries-complete es ps others, own-bound name ws xs (slice_get ps 0) is s) refl
entries-complete _ _ (g.shared name {es} {p} {ps} is others) =
    rw (entries-complete es (p ∷ ps) others, marks_same name.mark m.Ident is) refl

not-empty : {A : Type 0} (o : Option (List A)) (xs : List A) → (o >>= not_empty) ≡ Some xs
    → o ≡ Some xs
not-empty o xs e =
    let read = bind_some o not_empty xs e in
    let some = not_empty_some read.0 xs read.2 in
    read.1 ∙ ap Some some.3

-- what is read as type parameters
pub read_entries-sound : (ws : List Word) (ps : List TypeParam) → reads.read_entries f ws ≡ Some ps
    → Entries (pieces m.Comma ws) ps
unfolding reads.read_entries
read_entries-sound ws ps e = go (pieces m.Comma ws)
    (not-empty (reads.entries f (pieces m.Comma ws)) ps e) e
  where
    go : (es : List (List Word)) → reads.entries f es ≡ Some ps
        → (reads.entries f es >>= not_empty) ≡ Some ps → Entries es ps
    go [] h all = absurd (cc)
    go (d ∷ es) h all = entries-sound d es ps h

pub read_entries-complete : (ws : List Word) (ps : List TypeParam) → Entries (pieces m.Comma ws) ps
    → reads.read_entries f ws ≡ Some ps
unfolding reads.read_entries
read_entries-complete ws [] s = absurd (some-entry (pieces m.Comma ws) s)
read_entries-complete ws (p ∷ ps) s = rw (entries-complete (pieces m.Comma ws) (p ∷ ps) s) refl

pub read_type_params-sound : (ws : List Word) (ps : List TypeParam)
    → reads.read_type_params f ws ≡ Some ps → AreTypeParams ws ps
unfolding reads.read_type_params
read_type_params-sound ws ps e = go (is_array_like ws) refl e
  where
    go : (b : Bool) → is_array_like ws ≡ b → (if b then None else reads.read_entries f ws) ≡ Some ps
        → AreTypeParams ws ps
    go true is h = absurd (cc)
    go false is h = record { entries = read_entries-sound ws ps h; not_array = is }

pub read_type_params-complete : (ws : List Word) (ps : List TypeParam) → AreTypeParams ws ps
    → reads.read_type_params f ws ≡ Some ps
unfolding reads.read_type_params
read_type_params-complete ws ps s = rw s.not_array (read_entries-complete ws ps s.entries)

pub read_signature-sound : (ws : List Word) (x : Signature) → read_signature f ws ≡ Some x
    → IsSignature (Spells MAX_TYPE_LEVELS) ws x
read_signature-sound = signature-sound f (Spells MAX_TYPE_LEVELS) (type-sound MAX_TYPE_LEVELS)

pub read_signature-complete : (ws : List Word) (x : Signature)
    → IsSignature (Spells MAX_TYPE_LEVELS) ws x → read_signature f ws ≡ Some x
read_signature-complete = signature-complete f (Spells MAX_TYPE_LEVELS)
    (type-complete MAX_TYPE_LEVELS) (type-reads MAX_TYPE_LEVELS)

pub read_declared-sound : (ws : List Word) (p : List Span × TypeExpr) → declared f ws ≡ Some p
    → Declared (Spells MAX_TYPE_LEVELS) ws p.0 p.1
read_declared-sound = declared-sound f (Spells MAX_TYPE_LEVELS) (type-sound MAX_TYPE_LEVELS)

pub read_declared-complete : (ws : List Word) (names : List Span) (x : TypeExpr)
    → Declared (Spells MAX_TYPE_LEVELS) ws names x → declared f ws ≡ Some (names, x)
read_declared-complete = declared-complete f (Spells MAX_TYPE_LEVELS)
    (type-complete MAX_TYPE_LEVELS) (type-reads MAX_TYPE_LEVELS)

-- what a call answers that reads as the program does
module _ {A : Type 0} (read : List Word → Option A) (S : List Word → A → Type 0) where
  pub once : ((ws : List Word) (x : A) → S ws x → read ws ≡ Some x)
      → (ws : List Word) (x y : A) → S ws x → S ws y → x ≡ y
  once complete ws x y s r = some-is x y (sym (complete ws x s) ∙ complete ws y r)

  pub answers : {E : Type 0} → ((ws : List Word) (x : A) → read ws ≡ Some x → S ws x)
      → ((ws : List Word) (x : A) → S ws x → read ws ≡ Some x)
      → (ws : List Word) (r : Result (Option A) E) → IfOk r (λ o. o ≡ read ws)
      → IfOk r (λ o. MatchOption o ((x : A) → S ws x → ⊥) (λ x. S ws x))
  answers sound complete ws (Ok None) h = λ x s. absurd (cc (h, complete ws x s))
  answers sound complete ws (Ok (Some x)) h = sound ws x (sym h)
  answers sound complete ws (Err e) h = tt

-- the same of names and a type, which are two
pub declared-answers : {E : Type 0} (ws : List Word) (r : Result (Option (List Span × TypeExpr)) E)
    → IfOk r (λ o. o ≡ declared f ws)
    → IfOk r (λ o. MatchOption o
    ((names : List Span) (x : TypeExpr) → Declared (Spells MAX_TYPE_LEVELS) ws names x → ⊥)
    (λ p. Declared (Spells MAX_TYPE_LEVELS) ws p.0 p.1))
declared-answers ws (Ok None) h = λ names x s. absurd (cc (h, read_declared-complete ws names x s))
declared-answers ws (Ok (Some p)) h = read_declared-sound ws p (sym h)
declared-answers ws (Err e) h = tt

pub one-declared : (ws : List Word) (xs ys : List Span) (x y : TypeExpr)
    → Declared (Spells MAX_TYPE_LEVELS) ws xs x → Declared (Spells MAX_TYPE_LEVELS) ws ys y
    → (xs ≡ ys) × (x ≡ y)
one-declared ws xs ys x y s r =
    pair-is xs ys x y (sym (read_declared-complete ws xs x s) ∙ read_declared-complete ws ys y r)

pub one-entries : (es : List (List Word)) (xs ys : List TypeParam) → Entries es xs → Entries es ys
    → xs ≡ ys
one-entries es xs ys s r =
    some-is xs ys (sym (entries-complete es xs s) ∙ entries-complete es ys r)

-- by the rule of arrays
pub array-reads : (ws : List Word) → is_array_like ws ≡ true → reads.read_type_params f ws ≡ None
unfolding reads.read_type_params
array-reads ws h = rw h refl

pub entries-read : (ws : List Word) → is_array_like ws ≡ false
    → reads.read_type_params f ws ≡ reads.read_entries f ws
unfolding reads.read_type_params
entries-read ws h = rw h refl
