-- A log that replays, and one entry more.
use Rattle.std.proofs.Common.{fold, ◌≡◌, refl, sym, ◌∙◌, ap, List, [], ◌∷◌, ◌++◌, map}
use Rattle.std.proofs.lemmas.List.Sums.{fold-append}
use Rattle.set_model.specs.Control.{Control}
use Rattle.control_desk.specs.declared.entry.Entry.{Entry}
use Rattle.control_desk.specs.Woven.{after_entry, entry_done, tellings, said}

pub after_more : (c : Control) (log : List Entry) (e : Entry) → fold after_entry c (log ++ e ∷ []) ≡ after_entry (fold after_entry c log) e
after_more c log e = fold-append after_entry c log (e ∷ [])

pub tellings_more : (c : Control) (log : List Entry) (e : Entry) → tellings c (log ++ e ∷ []) ≡ tellings c log ++ (entry_done (fold after_entry c log) e).events ∷ []
tellings_more c [] e = refl
tellings_more c (x ∷ log) e = ap (λ z. (entry_done c x).events ∷ z) (tellings_more (after_entry c x) log e)

said_more : (log : List Entry) (e : Entry) → map said (log ++ e ∷ []) ≡ map said log ++ said e ∷ []
said_more [] e = refl
said_more (x ∷ log) e = ap (λ z. said x ∷ z) (said_more log e)

-- One more entry that names the events it has.
pub tells_more : (c : Control) (log : List Entry) (e : Entry) → tellings c log ≡ map said log → (entry_done (fold after_entry c log) e).events ≡ said e → tellings c (log ++ e ∷ []) ≡ map said (log ++ e ∷ [])
tells_more c log e before told = tellings_more c log e ∙ (λ i. before i ++ told i ∷ []) ∙ sym (said_more log e)
