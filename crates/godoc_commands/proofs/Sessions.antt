-- A session over a history of one edition.
use Rattle.std.proofs.Common.{◌≡◌, ℕ, zero, suc, List, [], ◌∷◌, ◌++◌, length, replicate, Option}
use Rattle.std.proofs.Common.{All, refl, sym, ap, ◌∙◌, subst}
use Rattle.std.specs.Prelude.{IsSome}
use Rattle.std.proofs.lemmas.Bool.{false≢true}
use Rattle.std.proofs.lemmas.List.Elements.{All-head, All-tail, All-weaker}
use Rattle.corpus.specs.Corpora.{Edition}
use Rattle.publication.specs.View.{View, StartsWith, newcomer}
use Rattle.session.specs.declared.session_end.SessionEnd.{SessionEnd}
use Rattle.session.specs.declared.session_end.SessionEnd.TheVariants as ends
use Rattle.session.specs.Session.{Exchange, LinkState, Session}
use Rattle.session.specs.Text.{edition_at}
use Rattle.session.proofs.SessionLaws.{Exchange-grown, Session-unbegun, edition_at-grown}
use Rattle.godoc_commands.specs.Replies.{reply_of}
use Rattle.godoc_commands.specs.Serving.{Serves}

-- the one edition has the number 1
number_is : {E : Type 0} (edition : E) (entry : ℕ) → IsSome (edition_at (edition ∷ []) entry)
    → entry ≡ 1
number_is edition zero known = absurd (false≢true known)
number_is edition (suc zero) known = refl
number_is edition (suc (suc place)) known = absurd (false≢true known)

entries_are : {E : Type 0} (edition : E) (entries : List ℕ)
    → All (λ entry. IsSome (edition_at (edition ∷ []) entry)) entries
    → entries ≡ replicate (length entries) 1
entries_are edition [] known = refl
entries_are edition (entry ∷ entries) known =
    let P : ℕ → Type 0 = λ n. IsSome (edition_at (edition ∷ []) n) in
    let first = number_is edition entry (All-head P entry entries known) in
    let rest = entries_are edition entries (All-tail P entry entries known) in
    ap (λ n. n ∷ entries) first ∙ ap (λ ns. 1 ∷ ns) rest

-- a session of a reader that saw so much of the history
serves_by : (edition : Edition) (before after : LinkState) (old new : View Edition)
    (result : SessionEnd) (more : List Edition)
    → (s : Session reply_of before after old new result) → new.seen ++ more ≡ edition ∷ []
    → s.entries ≡ replicate (length s.entries) 1
    → Serves edition before.remaining after.remaining before.held after.held result
serves_by edition before after old new result more s whole ones = record {
  read = s.read;
  written = s.written;
  count = length s.entries;
  ended = s.ended;
  takes = s.takes;
  adds = s.adds;
  end_is = s.end_is;
  exchange =
      subst (λ (entries : List ℕ). Exchange reply_of (edition ∷ []) s.read s.written s.ended
      entries result) ones
      (subst (λ (history : List Edition). Exchange reply_of history s.read s.written s.ended
      s.entries result) whole
      (Exchange-grown reply_of new.seen more s.entries s.known s.read s.written s.ended result
      s.exchange));
}

-- a session of a reader that has seen nothing beyond this one edition
pub Serves-session : (edition : Edition) (before after : LinkState) (old new : View Edition)
    (result : SessionEnd)
    → Session reply_of before after old new result → StartsWith (edition ∷ []) new.seen
    → Serves edition before.remaining after.remaining before.held after.held result
Serves-session edition before after old new result s begins =
    let known : All (λ entry. IsSome (edition_at (edition ∷ []) entry)) s.entries =
    All-weaker (λ entry. IsSome (edition_at new.seen entry))
    (λ entry. IsSome (edition_at (edition ∷ []) entry))
    (λ entry some. subst (λ (w : Option Edition). IsSome w)
    (sym (ap (λ (w : List Edition). edition_at w entry) begins.1
    ∙ edition_at-grown new.seen begins.0 entry some)) some)
    s.entries s.known in
    serves_by edition before after old new result begins.0 s (sym begins.1)
    (entries_are edition s.entries known)

-- a session that was not begun for lack of memory
pub Serves-unbegun : (edition : Edition) (left held : Option (List ℕ))
    → Serves edition left left held held ends.NoMemory
Serves-unbegun edition left held =
    let view : View Edition = newcomer
    (record {
      book = record { number = 0; log_name = 0; cells_name = 0 };
      editions = edition ∷ [];
    }) in
    let link : LinkState =
    record { remaining = left; held = held; read_faults = 0; write_faults = 0 } in
    Serves-session edition link link view view ends.NoMemory
    (Session-unbegun reply_of link view) (edition ∷ [], refl)
