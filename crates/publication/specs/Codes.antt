-- Cited by private clauses and proofs. How openings, histories and views are stored in a proof.
use Rattle.std.specs.Prelude.{ℕ, Bool, List, refl}
use Rattle.std.specs.Coded.{Coded, code_by, coded×, coded_list, coded_ℕ, coded_bool}
use Rattle.logbook.specs.Pages.{Book, book_coded}
use Rattle.publication.specs.View.{History, Opening, View}

abbrev pub opening_code : {E : Type 0} → Coded E → Coded (Opening E)
opening_code {E} code =
    code_by (Book × List E) (coded× book_coded (coded_list code))
    (λ opening. (opening.book, opening.editions)) (λ p. record { book = p.0; editions = p.1 })
    (λ _. refl)

abbrev pub history_code : {E : Type 0} → Coded E → Coded (History E)
history_code {E} code =
    code_by (Opening E × (List E × Bool))
    (coded× (opening_code code) (coded× (coded_list code) coded_bool))
    (λ history. (history.opening, (history.editions, history.closed)))
    (λ p. record { opening = p.0; editions = p.1.0; closed = p.1.1 })
    (λ _. refl)

abbrev pub view_code : {E : Type 0} → Coded E → Coded (View E)
view_code {E} code =
    code_by ((Opening E × List E) × ((List E × Bool) × (List ℕ × List ℕ)))
    (coded× (coded× (opening_code code) (coded_list code))
    (coded× (coded× (coded_list code) coded_bool)
    (coded× (coded_list coded_ℕ) (coded_list coded_ℕ))))
    (λ view. ((view.opening, view.seen), ((view.told, view.closed), (view.entries, view.looks))))
    (λ p. record {
      opening = p.0.0;
      seen = p.0.1;
      told = p.1.0.0;
      closed = p.1.0.1;
      entries = p.1.1.0;
      looks = p.1.1.1;
    })
    (λ _. refl)
