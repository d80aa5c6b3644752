-- What is read is spelled so, and what is spelled so is read.
use Rattle.std.proofs.Common.{◌≡◌, ◌≢◌, ◌∙◌, ap, sym, refl, subst, ℕ, zero, suc, Bool, true, false}
use Rattle.std.proofs.Common.{not, ◌&&◌, List, [], ◌∷◌, Option, Some, None, Result, Ok}
use Rattle.std.proofs.Common.{Err, IfOk, MatchOption, ⊎_elim}
use Rattle.go_ast.specs.declared.tree.TypeExpr.{TypeExpr}
use Rattle.go_ast.specs.declared.tree.TypeExpr.TheVariants as t
use Rattle.go_ast.specs.declared.tree.ChanDir.TheVariants as dirs
use Rattle.go_ast.specs.declared.token.Span.{Span}
use Rattle.go_ast.specs.declared.word.Word.{Word}
use Rattle.go_ast.specs.declared.word.Mark.{Mark}
use Rattle.go_ast.specs.declared.word.Mark.TheVariants as m
use Rattle.go_ast.specs.Cutting.{pieces, Encloses, encloses}
use Rattle.go_ast.specs.Marks.{closes, same_mark}
use Rattle.go_ast.specs.Types.{Arguments, absent, present, IsType, local, qualified, in_parentheses}
use Rattle.go_ast.specs.Types.{pointer, slice, array, map, channel, sending, receiving, function}
use Rattle.go_ast.specs.Types.{structure, interface, Spells}
use Rattle.type_parser.specs.Cut.{enclosed}
use Rattle.type_parser.specs.Reading as reads
use Rattle.type_parser.specs.Reading.{◌>>=◌, ◌<$>◌, each, only, alone, array_or_slice}
use Rattle.type_parser.specs.Reading.{may_be_length, type_of, may_be_type, looks_named}
use Rattle.type_parser.proofs.Closing.{marks_are, marks_same, marks_differ, differ_marks}
use Rattle.type_parser.proofs.Closing.{some-is}
use Rattle.type_parser.proofs.Closed.{enclosed-sound, alone-sound, opens-with, alone-complete}
use Rattle.type_parser.proofs.ParamLaws.{Reads, plain-begins, signature-sound, signature-complete}
use Rattle.type_parser.proofs.MemberLaws.{structure-sound, structure-complete, interface-sound}
use Rattle.type_parser.proofs.MemberLaws.{interface-complete}
use Rattle.type_parser.proofs.Options.{bind_some, map_some, guard_some, choice}
use Rattle.type_parser.proofs.Options.{not_empty_some, each-sound, each-complete}

module _ (f : List Word → Option TypeExpr) (S : List Word → TypeExpr → Type 0) where
  -- what f reads S spells
  abbrev Sound : Type 0
  Sound = (ws : List Word) (x : TypeExpr) → f ws ≡ Some x → S ws x

  abbrev Complete : Type 0
  Complete = (ws : List Word) (x : TypeExpr) → S ws x → f ws ≡ Some x

  arguments-sound : Sound → (ws : List Word) (xs : List TypeExpr) → reads.arguments f ws ≡ Some xs
      → Arguments S ws xs
  unfolding reads.arguments reads.list
  arguments-sound h [] xs e = let none : [] ≡ xs = cc in subst (Arguments S []) none absent
  arguments-sound h (w ∷ ws) xs e =
      let test = guard_some (same_mark w.mark m.OpenBracket)
      (alone m.CloseBracket ws >>= reads.list f) xs e in
      let inner = bind_some (alone m.CloseBracket ws) (reads.list f) xs test.1 in
      let all = bind_some (each f (pieces m.Comma inner.0)) reads.not_empty xs inner.2 in
      let some = not_empty_some all.0 xs all.2 in
      let shown : xs ≡ some.0 ∷ some.1 = some.2 in
      let spelled = each-sound f S h (pieces m.Comma inner.0) (some.0 ∷ some.1)
      (all.1 ∙ ap Some (some.3 ∙ shown)) in
      subst (Arguments S (w ∷ ws)) (sym shown)
      (present (alone-sound m.OpenBracket m.CloseBracket w ws inner.0
      (marks_are w.mark m.OpenBracket test.0) inner.1) spelled)

  arguments-complete : Complete → (ws : List Word) (xs : List TypeExpr) → Arguments S ws xs
      → reads.arguments f ws ≡ Some xs
  unfolding reads.arguments reads.list
  arguments-complete h _ _ absent = refl
  arguments-complete h _ _ (present {ws} {inner} {x} {xs} brackets spelled) =
      let begun = opens-with m.OpenBracket m.CloseBracket ws inner [] refl brackets in
      rw (
        begun.2,
        marks_same begun.0.mark m.OpenBracket begun.3,
        alone-complete m.CloseBracket begun.1 inner begun.4,
        each-complete f S h (pieces m.Comma inner) (x ∷ xs) spelled,
      ) refl

  -- a name without a qualifier, and one with it
  named-sound : Sound → (first : Option Span) (name : Word) (ws : List Word) (x : TypeExpr)
      → reads.named f first name ws ≡ Some x
      → (xs : List TypeExpr) × (name.mark ≡ m.Ident) × Arguments S ws xs
      × (t.Name first name.span xs ≡ x)
  unfolding reads.named
  named-sound h first name ws x e =
      let test = guard_some (same_mark name.mark m.Ident)
      (t.Name first name.span <$> reads.arguments f ws) x e in
      let all = map_some (t.Name first name.span) (reads.arguments f ws) x test.1 in
      (all.0, marks_are name.mark m.Ident test.0, arguments-sound h ws all.0 all.1, all.2)

  named-complete : Complete → (first : Option Span) (name : Word) (ws : List Word)
      (xs : List TypeExpr) → name.mark ≡ m.Ident → Arguments S ws xs
      → reads.named f first name ws ≡ Some (t.Name first name.span xs)
  unfolding reads.named
  named-complete h first name ws xs is spelled =
      rw (marks_same name.mark m.Ident is, arguments-complete h ws xs spelled) refl

  unqualified-sound : Sound → (name : Word) (ws : List Word) (x : TypeExpr) → name.mark ≡ m.Ident
      → reads.named f None name ws ≡ Some x → IsType S (name ∷ ws) x
  unqualified-sound h name ws x is e =
      let found = named-sound h None name ws x e in
      subst (IsType S (name ∷ ws)) found.3 (local name is found.2)

  qualified-sound : Sound → (first dot : Word) (ws : List Word) (x : TypeExpr)
      → first.mark ≡ m.Ident → dot.mark ≡ m.Dot → reads.qualified f first.span ws ≡ Some x
      → IsType S (first ∷ dot ∷ ws) x
  qualified-sound h first dot [] x is is_dot e = absurd (cc)
  qualified-sound h first dot (name ∷ ws) x is is_dot e =
      let found = named-sound h (Some first.span) name ws x e in
      subst (IsType S (first ∷ dot ∷ name ∷ ws)) found.3
      (qualified first dot name is is_dot found.1 found.2)

  name-sound : Sound → (first : Word) (ws : List Word) (x : TypeExpr) → first.mark ≡ m.Ident
      → reads.name f first ws ≡ Some x → IsType S (first ∷ ws) x
  unfolding reads.name
  name-sound h first [] x is e = unqualified-sound h first [] x is e
  name-sound h first (w ∷ ws) x is e = ⊎_elim
      (λ p. qualified-sound h first w ws x is (marks_are w.mark m.Dot p.0) p.1)
      (λ p. unqualified-sound h first (w ∷ ws) x is p.1)
      (choice (same_mark w.mark m.Dot) (reads.qualified f first.span ws)
      (reads.named f None first (w ∷ ws)) (Some x) e)

  element-of : (o : Word) (ws inner rest : List Word) (y : TypeExpr)
      → Encloses m.OpenBracket m.CloseBracket (o ∷ ws) inner rest → may_be_length inner ≡ true
      → S rest y
      → IsType S (o ∷ ws) (array_or_slice inner y)
  unfolding may_be_length
  element-of o ws [] rest y brackets run s = slice brackets s
  element-of o ws (w ∷ inner) rest y brackets run s = array w inner brackets run s

  bracketed-sound : Sound → (o : Word) (ws : List Word) (x : TypeExpr) → o.mark ≡ m.OpenBracket
      → reads.bracketed f ws ≡ Some x → IsType S (o ∷ ws) x
  unfolding reads.bracketed
  bracketed-sound h o ws x is e =
      let parts = bind_some (enclosed m.CloseBracket ws) (reads.bracketed_of f) x e in
      let test = guard_some (may_be_length parts.0.0) (array_or_slice parts.0.0 <$> f parts.0.1) x
      parts.2 in
      let elem = map_some (array_or_slice parts.0.0) (f parts.0.1) x test.1 in
      let brackets = enclosed-sound m.OpenBracket m.CloseBracket o ws parts.0.0 parts.0.1 is parts.1
      in
      subst (IsType S (o ∷ ws)) elem.2
      (element-of o ws parts.0.0 parts.0.1 elem.0 brackets test.0 (h parts.0.1 elem.0 elem.1))

  map-sound : Sound → (word : Word) (ws : List Word) (x : TypeExpr) → word.mark ≡ m.Map
      → reads.map f ws ≡ Some x → IsType S (word ∷ ws) x
  unfolding reads.map
  map-sound h word [] x is e = absurd (cc)
  map-sound h word (w ∷ ws) x is e =
      let test = guard_some (same_mark w.mark m.OpenBracket)
      (enclosed m.CloseBracket ws >>= reads.map_of f) x e in
      let parts = bind_some (enclosed m.CloseBracket ws) (reads.map_of f) x test.1 in
      let key = bind_some (f parts.0.0) _ x parts.2 in
      let value = map_some (t.Map key.0) (f parts.0.1) x key.2 in
      let brackets = enclosed-sound m.OpenBracket m.CloseBracket w ws parts.0.0 parts.0.1
      (marks_are w.mark m.OpenBracket test.0) parts.1 in
      subst (IsType S (word ∷ w ∷ ws)) value.2
      (map word is brackets (h parts.0.0 key.0 key.1) (h parts.0.1 value.0 value.1))

  channel-sound : Sound → (word : Word) (ws : List Word) (x : TypeExpr) → word.mark ≡ m.Chan
      → reads.channel f ws ≡ Some x → IsType S (word ∷ ws) x
  unfolding reads.channel
  channel-sound h word [] x is e = absurd (cc)
  channel-sound h word (w ∷ ws) x is e = ⊎_elim
      (λ p. let elem = map_some (t.Chan dirs.Send) (f ws) x p.1 in
      subst (IsType S (word ∷ w ∷ ws)) elem.2
      (sending word w is (marks_are w.mark m.Arrow p.0) (h ws elem.0 elem.1)))
      (λ p. let elem = map_some (t.Chan dirs.Both) (f (w ∷ ws)) x p.1 in
      subst (IsType S (word ∷ w ∷ ws)) elem.2
      (channel word is (differ_marks w.mark m.Arrow p.0) (h (w ∷ ws) elem.0 elem.1)))
      (choice (same_mark w.mark m.Arrow) (t.Chan dirs.Send <$> f ws)
      (t.Chan dirs.Both <$> f (w ∷ ws)) (Some x) e)

  receiving-sound : Sound → (arrow : Word) (ws : List Word) (x : TypeExpr) → arrow.mark ≡ m.Arrow
      → reads.receiving f ws ≡ Some x → IsType S (arrow ∷ ws) x
  unfolding reads.receiving
  receiving-sound h arrow [] x is e = absurd (cc)
  receiving-sound h arrow (w ∷ ws) x is e =
      let test = guard_some (same_mark w.mark m.Chan) (t.Chan dirs.Receive <$> f ws) x e in
      let elem = map_some (t.Chan dirs.Receive) (f ws) x test.1 in
      subst (IsType S (arrow ∷ w ∷ ws)) elem.2
      (receiving arrow w is (marks_are w.mark m.Chan test.0) (h ws elem.0 elem.1))

  by_mark-sound : Sound → (mark : Mark) (w : Word) (ws : List Word) (x : TypeExpr) → w.mark ≡ mark
      → reads.by_mark f mark w ws ≡ Some x → IsType S (w ∷ ws) x
  by_mark-sound h m.Ident w ws x is e = name-sound h w ws x is e
  by_mark-sound h m.OpenParen w ws x is e =
      let inner = bind_some (alone m.CloseParen ws) f x e in
      in_parentheses (alone-sound m.OpenParen m.CloseParen w ws inner.0 is inner.1)
      (h inner.0 x inner.2)
  by_mark-sound h m.Star w ws x is e =
      let elem = map_some t.Pointer (f ws) x e in
      subst (IsType S (w ∷ ws)) elem.2 (pointer w is (h ws elem.0 elem.1))
  by_mark-sound h m.Func w ws x is e =
      let sig = map_some t.Func (reads.read_signature f ws) x e in
      subst (IsType S (w ∷ ws)) sig.2 (function w is (signature-sound f S h ws sig.0 sig.1))
  by_mark-sound h m.OpenBracket w ws x is e = bracketed-sound h w ws x is e
  by_mark-sound h m.Map w ws x is e = map-sound h w ws x is e
  by_mark-sound h m.Chan w ws x is e = channel-sound h w ws x is e
  by_mark-sound h m.Arrow w ws x is e = receiving-sound h w ws x is e
  by_mark-sound h m.Struct w ws x is e = structure-sound f S h w ws x is e
  by_mark-sound h m.Interface w ws x is e = interface-sound f S h w ws x is e
  by_mark-sound h _ w ws x is e = absurd (cc)

  pub step-sound : Sound → (ws : List Word) (x : TypeExpr) → reads.step f ws ≡ Some x
      → IsType S ws x
  step-sound h [] x e = absurd (cc)
  step-sound h (w ∷ ws) x e = by_mark-sound h w.mark w ws x refl e

  -- by the first word's mark
  at_mark : (w : Word) (ws : List Word) (x : TypeExpr) (mark : Mark) → w.mark ≡ mark
      → reads.by_mark f mark w ws ≡ Some x → reads.step f (w ∷ ws) ≡ Some x
  at_mark w ws x mark is e = subst (λ v. reads.by_mark f v w ws ≡ Some x) (sym is) e

  -- the same where brackets come first
  at_bracket : (ws : List Word) (x : TypeExpr) (opening close : Mark) (inner rest : List Word)
      → closes close ≡ true → Encloses opening close ws inner rest
      → ((o : Word) (us : List Word) → enclosed close us ≡ Some (inner, rest)
      → reads.by_mark f opening o us ≡ Some x) → reads.step f ws ≡ Some x
  at_bracket ws x opening close inner rest closed brackets read =
      let begun = opens-with opening close ws inner rest closed brackets in
      rw begun.2 (at_mark begun.0 begun.1 x opening begun.3 (read begun.0 begun.1 begun.4))

  name-complete : Complete → (name : Word) (ws : List Word) (xs : List TypeExpr)
      → name.mark ≡ m.Ident → Arguments S ws xs
      → reads.name f name ws ≡ Some (t.Name None name.span xs)
  unfolding reads.name
  name-complete h name [] xs is spelled = named-complete h None name [] xs is spelled
  name-complete h name (w ∷ ws) xs is spelled =
      rw (marks_differ w.mark m.Dot (no_dot w ws xs spelled))
      (named-complete h None name (w ∷ ws) xs is spelled)
    where
      no_dot : (v : Word) (vs : List Word) (ys : List TypeExpr) → Arguments S (v ∷ vs) ys
          → v.mark ≢ m.Dot
      no_dot v vs _ (present (encloses o c inner rest opened ended nests) s) dot = absurd (cc)

  map-complete : Complete → (ws inner rest : List Word) (key value : TypeExpr)
      → Encloses m.OpenBracket m.CloseBracket ws inner rest → S inner key → S rest value
      → reads.map f ws ≡ Some (t.Map key value)
  unfolding reads.map
  map-complete h ws inner rest key value brackets k v =
      let begun = opens-with m.OpenBracket m.CloseBracket ws inner rest refl brackets in
      rw (
        begun.2,
        marks_same begun.0.mark m.OpenBracket begun.3,
        begun.4,
        h inner key k,
        h rest value v,
      ) refl

  pub step-complete : Complete → Reads f → (ws : List Word) (x : TypeExpr) → IsType S ws x
      → reads.step f ws ≡ Some x
  unfolding reads.name reads.bracketed may_be_length reads.channel reads.receiving
  step-complete h r _ _ (local name {ws} {xs} is spelled) =
      at_mark name ws _ m.Ident is (name-complete h name ws xs is spelled)
  step-complete h r _ _ (qualified first dot name {ws} {xs} is is_dot is_name spelled) =
      at_mark first (dot ∷ name ∷ ws) _ m.Ident is
      (rw (marks_same dot.mark m.Dot is_dot)
      (named-complete h (Some first.span) name ws xs is_name spelled))
  step-complete h r _ _ (in_parentheses {ws} {inner} {x} brackets s) =
      at_bracket ws x m.OpenParen m.CloseParen inner [] refl brackets
      (λ o us e. rw (alone-complete m.CloseParen us inner e) (h inner x s))
  step-complete h r _ _ (pointer star {ws} {x} is s) =
      at_mark star ws _ m.Star is (rw (h ws x s) refl)
  step-complete h r _ _ (function word {ws} {sig} is s) =
      at_mark word ws _ m.Func is (rw (signature-complete f S h r ws sig s) refl)
  step-complete h r _ _ (structure word {ws} {inner} fields is brackets s) =
      at_mark word ws _ m.Struct is (structure-complete f S h r ws inner fields brackets s)
  step-complete h r _ _ (interface word {ws} {inner} es is brackets s) =
      at_mark word ws _ m.Interface is (interface-complete f S h r ws inner es brackets s)
  step-complete h r _ _ (slice {ws} {rest} {x} brackets s) =
      at_bracket ws _ m.OpenBracket m.CloseBracket [] rest refl brackets
      (λ o us e. rw (e, h rest x s) refl)
  step-complete h r _ _ (array {ws} {rest} first run {x} brackets is_run s) =
      at_bracket ws _ m.OpenBracket m.CloseBracket (first ∷ run) rest refl brackets
      (λ o us e. rw (e, is_run, h rest x s) refl)
  step-complete h r _ _ (map word {ws} {inner} {rest} {key} {value} is brackets k v) =
      at_mark word ws _ m.Map is (map-complete h ws inner rest key value brackets k v)
  step-complete h r _ _ (channel word {next} {ws} {x} is other s) =
      at_mark word (next ∷ ws) _ m.Chan is
      (rw (marks_differ next.mark m.Arrow other, h (next ∷ ws) x s) refl)
  step-complete h r _ _ (sending word arrow {ws} {x} is is_arrow s) =
      at_mark word (arrow ∷ ws) _ m.Chan is
      (rw (marks_same arrow.mark m.Arrow is_arrow, h ws x s) refl)
  step-complete h r _ _ (receiving arrow word {ws} {x} is is_chan s) =
      at_mark arrow (word ∷ ws) _ m.Arrow is
      (rw (marks_same word.mark m.Chan is_chan, h ws x s) refl)

and-false : (b : Bool) → not (b && false) ≡ true
and-false true = refl
and-false false = refl

dot_ends : (u : Word) (us : List Word) → same_mark u.mark m.Dot ≡ true → may_be_type u us ≡ false
unfolding may_be_type
dot_ends u us h = rw h refl

-- how words begin that are read as a type
module _ (f : List Word → Option TypeExpr) (nothing : f [] ≡ None) where
  bracketed-more : (w : Word) (ws : List Word) (x : TypeExpr) → w.mark ≡ m.OpenBracket
      → reads.bracketed f ws ≡ Some x → may_be_type w ws ≡ true
  unfolding may_be_type reads.is_all_bracketed alone reads.bracketed
  bracketed-more w ws x is e = go (enclosed m.CloseBracket ws) refl e
    where
      go : (o : Option (List Word × List Word)) → enclosed m.CloseBracket ws ≡ o
          → (o >>= reads.bracketed_of f) ≡ Some x → may_be_type w ws ≡ true
      go None is_o e = absurd (cc)
      go (Some (inner, [])) is_o e =
          let test = guard_some (may_be_length inner) (array_or_slice inner <$> f []) x e in
          let read = map_some (array_or_slice inner) (f []) x test.1 in
          absurd (cc (read.1, nothing))
      go (Some (inner, v ∷ vs)) is_o e = rw
          (is_o, marks_differ w.mark m.Dot (λ d. absurd (cc (is, d))))
          (and-false (same_mark w.mark m.OpenBracket))

  by_mark-begins : (mark : Mark) (w : Word) (ws : List Word) (x : TypeExpr) → w.mark ≡ mark
      → reads.by_mark f mark w ws ≡ Some x → may_be_type w ws ≡ true
  unfolding same_mark
  by_mark-begins m.OpenBracket w ws x is e = bracketed-more w ws x is e
  by_mark-begins m.Dot w ws x is e = absurd (cc)
  by_mark-begins mark w ws x is e = plain-begins mark w ws is refl refl

  dots-end : (w : Word) (ws : List Word) (x : TypeExpr) → reads.step f (w ∷ ws) ≡ Some x
      → w.mark ≢ m.Ellipsis
  dots-end w ws x e is = let none = subst (λ v. reads.by_mark f v w ws ≡ Some x) is e in cc none

  tilde-ends : (w : Word) (ws : List Word) (x : TypeExpr) → reads.step f (w ∷ ws) ≡ Some x
      → w.mark ≢ m.Tilde
  tilde-ends w ws x e is = let none = subst (λ v. reads.by_mark f v w ws ≡ Some x) is e in cc none

  comma-ends : (w : Word) (ws : List Word) (x : TypeExpr) → reads.step f (w ∷ ws) ≡ Some x
      → w.mark ≢ m.Comma
  comma-ends w ws x e is = let none = subst (λ v. reads.by_mark f v w ws ≡ Some x) is e in cc none

  arguments-all : (w : Word) (ws : List Word) (xs : List TypeExpr)
      → reads.arguments f (w ∷ ws) ≡ Some xs → may_be_type w ws ≡ false
  unfolding reads.arguments may_be_type reads.is_all_bracketed
  arguments-all w ws xs e =
      let test = guard_some (same_mark w.mark m.OpenBracket)
      (alone m.CloseBracket ws >>= reads.list f) xs e in
      let inner = bind_some (alone m.CloseBracket ws) (reads.list f) xs test.1 in
      rw (test.0, inner.1) (false-right (not (same_mark w.mark m.Dot)))
    where
      false-right : (b : Bool) → (b && false) ≡ false
      false-right true = refl
      false-right false = refl

  name-looks : (w v : Word) (vs : List Word) (x : TypeExpr) → reads.name f w (v ∷ vs) ≡ Some x
      → may_be_type v vs ≡ false
  unfolding reads.name reads.named
  name-looks w v vs x e = ⊎_elim
      (λ p. dot v vs (p.0))
      (λ p. let test = guard_some (same_mark w.mark m.Ident)
      (t.Name None w.span <$> reads.arguments f (v ∷ vs)) x p.1 in
      let all = map_some (t.Name None w.span) (reads.arguments f (v ∷ vs)) x test.1 in
      arguments-all v vs all.0 all.1)
      (choice (same_mark v.mark m.Dot) (reads.qualified f w.span vs) (reads.named f None w (v ∷ vs))
      (Some x) e)
    where
      dot : (u : Word) (us : List Word) → same_mark u.mark m.Dot ≡ true → may_be_type u us ≡ false
      dot = dot_ends

  looks : (ws : List Word) (x : TypeExpr) → reads.step f ws ≡ Some x → looks_named ws ≡ false
  unfolding looks_named
  looks [] x e = refl
  looks (w ∷ []) x e = refl
  looks (w ∷ v ∷ vs) x e = go (same_mark w.mark m.Ident) refl
    where
      go : (b : Bool) → same_mark w.mark m.Ident ≡ b
          → (same_mark w.mark m.Ident && may_be_type v vs) ≡ false
      go true h = let named = subst (λ k. reads.by_mark f k w (v ∷ vs) ≡ Some x)
          (marks_are w.mark m.Ident h) e in rw (h, name-looks w v vs x named) refl
      go false h = rw h refl

  pub step-reads : Reads (reads.step f)
  step-reads = record {
    nothing = refl;
    begins = λ w ws x e. by_mark-begins w.mark w ws x refl e;
    no_dots = dots-end;
    no_tilde = tilde-ends;
    no_comma = comma-ends;
    unnamed = looks;
  }

pub type-reads : (levels : ℕ) → Reads (type_of levels)
unfolding type_of
type-reads zero =
    record {
      nothing = refl;
      begins = λ w ws x e. absurd (cc e);
      no_dots = λ w ws x e is. cc e;
      no_tilde = λ w ws x e is. cc e;
      no_comma = λ w ws x e is. cc e;
      unnamed =
          λ ws x e. absurd (cc e);
    }
type-reads (suc levels) = step-reads (type_of levels) ((type-reads levels).nothing)

-- what is read is spelled so, and what is spelled so is read
pub type-sound : (levels : ℕ) (ws : List Word) (x : TypeExpr) → type_of levels ws ≡ Some x
    → Spells levels ws x
unfolding type_of Spells
type-sound zero ws x e = absurd (cc)
type-sound (suc levels) ws x e = step-sound (type_of levels) (Spells levels) (type-sound levels) ws
    x e

pub type-complete : (levels : ℕ) (ws : List Word) (x : TypeExpr) → Spells levels ws x
    → type_of levels ws ≡ Some x
unfolding type_of Spells
type-complete zero ws x s = absurd s
type-complete (suc levels) ws x s =
    step-complete (type_of levels) (Spells levels) (type-complete levels) (type-reads levels) ws x s

-- words spell at most one type
pub one-type : (levels : ℕ) (ws : List Word) (x y : TypeExpr) → Spells levels ws x
    → Spells levels ws y → x ≡ y
one-type levels ws x y s r = some-is x y
    (sym (type-complete levels ws x s) ∙ type-complete levels ws y r)

-- what the reader answers
pub answer-is : {E : Type 0} (levels : ℕ) (ws : List Word) (r : Result (Option TypeExpr) E)
    → IfOk r (λ o. o ≡ type_of levels ws)
    → IfOk r (λ o. MatchOption o ((x : TypeExpr) → Spells levels ws x → ⊥)
    (λ x. Spells levels ws x))
answer-is levels ws (Ok None) h = λ x s. absurd (cc (h, type-complete levels ws x s))
answer-is levels ws (Ok (Some x)) h = type-sound levels ws x (sym h)
answer-is levels ws (Err e) h = tt
