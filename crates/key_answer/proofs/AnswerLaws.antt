-- The answer that a lookup finds, and the output of all.
use Rattle.std.proofs.Common.{unwrap_or, inl, inr, true≢false, ◌≤◌, ◌≡◌, refl, sym, ◌∙◌, ap, subst, ℕ, ◌+◌, ◌<◌, Bool, true, false, not, ◌||◌, take, map, get_or, arith, append-nil, add-one, List, [], ◌∷◌, ◌++◌, length, filter, codes, decimal, Option, Some, None, is_some, option_map, slice_get, append_assoc}
use Rattle.std.specs.List.{list_any}
use Rattle.std.proofs.lemmas.Option.{get_or_from_slice_get}
use Rattle.std.proofs.lemmas.List.Quantifiers.{position-Some}
use Rattle.std.proofs.lemmas.List.Elements.{filter-append}
use Rattle.std.proofs.lemmas.List.{map-append}
use Rattle.std.proofs.lemmas.Grind.{flat_map-append}
use Rattle.std.proofs.Math.Seq.{take-suc}
use Rattle.key_answer.specs.Question.{key_text, IsKey, at_moment}
use Rattle.set_tables.proofs.RowLaws.{find-at, find-none}
use Rattle.set_model.specs.declared.element.Element.{Element}
use Rattle.set_model.specs.declared.packet.Found.{Found}
use Rattle.set_model.specs.SetState.{State, first, place, answers, element_at}
use Rattle.pipapo_image.specs.Image.Found.{found}
use Rattle.set_model.specs.declared.packet.Packet.{Packet}
use Rattle.set_model.specs.declared.report.Event.{Event}
use Rattle.set_model.specs.declared.script.Script.{Script}
use Rattle.set_model.specs.declared.script.SetDecl.{SetDecl}
use Rattle.set_model.specs.Control.{Mode, Control, Generation, start, history, is_refusal}
use Rattle.set_model.specs.Text.{numbered, line_feed}
use Rattle.set_report.specs.ListText.{element_text}
use Rattle.set_report.specs.Remarks.{remarks_text}
use Rattle.gen_publish.specs.Publish.{Steering}
use Rattle.packet_pool.specs.Running.{run, StandsAt}
use Rattle.key_answer.specs.Origin.{traced}
use Rattle.std.specs.Borrow.{Bor}
use Rattle.std.specs.Prelude.{All, IfSome, nat_lt, ◌⊎◌}
use Rattle.std.proofs.lemmas.Option.{slice_get_within, slice_get_cases, slice_get-get_or}
use Rattle.std.proofs.lemmas.Bool.{ltb-true, lt-ltb}
use Rattle.set_model.specs.Key.{key_fits, parts_fit}
use Rattle.set_model.specs.Runnable.{IsFitting}
use Rattle.set_report.specs.Writes.{AreSetsOf}
use Rattle.element_text.specs.ElementText.{line_text}
use Rattle.key_answer.specs.Answer.{first_in, answer_in, origin_text, answer_text, get_text, has_no_answer, GivesAnswer}
use Rattle.key_answer.proofs.TraceLaws.{traced-history}

-- If a lookup finds nothing, no live element holds the key.
pub none-first : (s : State) (key : List ℕ) (now : ℕ) → found s key now ≡ None → first s key now ≡ None
none-first s key now e = go (place s key now) refl e where
  go : (o : Option ℕ) → place s key now ≡ o → option_map {U = Found} (λ i. record { place = i; id = (element_at s i).id }) o ≡ None → first s key now ≡ None
  go None is f = find-none (answers key now) s.elements is
  go (Some i) is f = absurd (cc f)

-- The place that a lookup finds is the place of the first live element that holds the key.
pub some-place : (s : State) (key : List ℕ) (now : ℕ) (f : Found) → found s key now ≡ Some f → place s key now ≡ Some f.place
some-place s key now f e = go (place s key now) refl e where
  go : (o : Option ℕ) → place s key now ≡ o → option_map {U = Found} (λ i. record { place = i; id = (element_at s i).id }) o ≡ Some f → place s key now ≡ Some f.place
  go None is g = absurd (cc g)
  go (Some i) is g = let same : i ≡ f.place = cc g in is ∙ ap Some same

-- The element at that place is the first live one that holds the key.
pub some-first : (s : State) (key : List ℕ) (now i : ℕ) (e : Element) → place s key now ≡ Some i → slice_get s.elements i ≡ Some e → first s key now ≡ Some e
some-first s key now i e is at = find-at (answers key now) s.elements i e is ∙ ap Some (get_or_from_slice_get s.elements i e e at)

-- A place that a lookup finds is within the list.
pub found-within : (s : State) (key : List ℕ) (now : ℕ) (f : Found) → found s key now ≡ Some f → f.place < length s.elements
found-within s key now f e = (position-Some (answers key now) s.elements f.place (element_at s 0) (some-place s key now f e)).0

front-word : (rest : List ℕ) → codes "element " ++ rest ≡ codes "element" ++ (codes " " ++ rest)
front-word rest = refl

-- An element's pieces, one after another.
pub origin-parts : (d : SetDecl) (now : ℕ) (lines old a b c : List ℕ) (e : Element) (line : Option ℕ) → line ≡ slice_get lines e.id → a ≡ old ++ (codes "element " ++ (decimal e.id ++ (codes ": " ++ []))) → b ≡ a ++ element_text d now e → c ≡ b ++ line_text line
    → c ≡ old ++ origin_text d now lines e
origin-parts d now lines old a b c e line is one two three =
    let element = element_text d now e in
    let last = line_text line in
    let front = codes "element " ++ (decimal e.id ++ (codes ": " ++ [])) in
    let rest = codes ": " ++ (element ++ last) in
    let joined : (front ++ element) ++ last ≡ numbered (codes "element") e.id ++ rest =
    append_assoc front element last
    ∙ ap (λ z. codes "element " ++ z) (append_assoc (decimal e.id) (codes ": ") (element ++ last))
    ∙ front-word (decimal e.id ++ rest)
    ∙ ap (λ z. codes "element" ++ z) (sym (append_assoc (codes " ") (decimal e.id) rest))
    ∙ sym (append_assoc (codes "element") (codes " " ++ decimal e.id) rest) in
    three
    ∙ ap (λ z. z ++ last) (two ∙ ap (λ z. z ++ element) one ∙ append_assoc old front element)
    ∙ append_assoc old (front ++ element) last
    ∙ ap (λ z. old ++ z) joined
    ∙ ap (λ z. old ++ z) (sym (append_assoc (numbered (codes "element") e.id) (codes ": ") (element ++ last)) ∙ sym (append_assoc (numbered (codes "element") e.id ++ codes ": ") element last))
    ∙ ap (λ o. old ++ (((numbered (codes "element") e.id ++ codes ": ") ++ element) ++ line_text o)) is

-- The line of an element that answers, and of none.
pub found-line : (d : SetDecl) (now : ℕ) (lines old a b : List ℕ) (e : Element) (answer : Option Element) → answer ≡ Some e → a ≡ old ++ origin_text d now lines e → b ≡ a ++ (line_feed ++ []) → b ≡ old ++ answer_text (Some d) now lines answer
found-line d now lines old a b e answer is one two =
    two ∙ ap (λ z. z ++ line_feed) one ∙ append_assoc old (origin_text d now lines e) line_feed ∙ ap (λ o. old ++ answer_text (Some d) now lines o) (sym is)

pub none-line : (d : SetDecl) (now : ℕ) (lines old b : List ℕ) (answer : Option Element) → answer ≡ None → b ≡ old ++ (codes "none\n" ++ []) → b ≡ old ++ answer_text (Some d) now lines answer
none-line d now lines old b answer is written = written ∙ ap (λ o. old ++ answer_text (Some d) now lines o) (sym is)

-- The refused changes, and the answer after them.
pub two-parts : (old a b front rest : List ℕ) → a ≡ old ++ front → b ≡ a ++ rest → b ≡ old ++ (front ++ rest)
two-parts old a b front rest e f = f ∙ ap (λ z. z ++ rest) e ∙ append_assoc old front rest

-- The text and the mark of a run that stands at the definition's control.
pub text-at : (mode : Mode) (s : Script) (p : Packet) (control : Steering) (events : List Event) (lines : List ℕ) → StandsAt [] (history mode s.schema s.sections) (run control false events) → lines ≡ (traced mode p.set s.schema s.sections).lines → control.schema ≡ s.schema
    → (remarks_text control.schema (filter is_refusal events) ++ answer_text (slice_get control.schema p.set) p.now lines (answer_in control.work.base p)) ≡ get_text mode s p
text-at mode s p control events lines stood lines_are schema =
    let t = traced mode p.set s.schema s.sections in
    let st : StandsAt [] t.control (run control false events) = subst (λ (c : Control). StandsAt [] c (run control false events)) (sym (traced-history mode p.set (record { control = start s.schema; lines = [] }) s.sections)) stood in
    ap (λ z. remarks_text z (filter is_refusal events) ++ answer_text (slice_get z p.set) p.now lines (answer_in control.work.base p)) schema
    ∙ ap (λ z. remarks_text s.schema (filter is_refusal z) ++ answer_text (slice_get s.schema p.set) p.now lines (answer_in control.work.base p)) (sym st.told)
    ∙ ap (λ z. remarks_text s.schema (filter is_refusal t.control.events) ++ answer_text (slice_get s.schema p.set) p.now z (answer_in control.work.base p)) lines_are
    ∙ ap (λ (g : Generation). remarks_text s.schema (filter is_refusal t.control.events) ++ answer_text (slice_get s.schema p.set) p.now t.lines (answer_in g p)) (sym st.last)

pub mark-at : (mode : Mode) (s : Script) (p : Packet) (control : Steering) (events : List Event) (found : Bool) → StandsAt [] (history mode s.schema s.sections) (run control false events) → found ≡ is_some (answer_in control.work.base p)
    → (list_any is_refusal events || not found) ≡ has_no_answer mode s p
mark-at mode s p control events found st is =
    ap (λ z. list_any is_refusal z || not found) (sym st.told)
    ∙ ap (λ b. list_any is_refusal (history mode s.schema s.sections).events || not b) (is ∙ ap (λ (g : Generation). is_some (answer_in g p)) (sym st.last))

-- A run stands as it does with no events of its own, after its events.
pub fresh-stands : (c : Control) (k : Steering) (events : List Event) → StandsAt [] c (run k false events) → StandsAt events c (run k false [])
fresh-stands c k events st = record { committed = st.committed; last = st.last; sets = st.sets; failed = st.failed; told = st.told ∙ sym (append-nil events) }

-- One event more among the refusals, or one that is none.
pub filter-more : (xs : List Event) (i : ℕ) (x : Event) → i < length xs → x ≡ get_or xs i x → filter is_refusal (take (i + 1) xs) ≡ filter is_refusal (take i xs) ++ filter is_refusal (x ∷ [])
filter-more xs i x h e =
    let front : take (i + 1) xs ≡ take i xs ++ x ∷ [] = rw add-one (take-suc xs i x h ∙ ap (λ y. take i xs ++ y ∷ []) (sym e)) in
    ap (filter is_refusal) front ∙ filter-append is_refusal (take i xs) (x ∷ [])

pub kept-more : (xs some more : List Event) (i : ℕ) (x : Event) → i < length xs → x ≡ get_or xs i x → is_refusal x ≡ true → some ≡ filter is_refusal (take i xs) → more ≡ some ++ x ∷ [] → more ≡ filter is_refusal (take (i + 1) xs)
kept-more xs some more i x h e is so_far add =
    let one : filter is_refusal (x ∷ []) ≡ x ∷ [] = rw is refl in
    add ∙ ap (λ z. z ++ x ∷ []) so_far ∙ ap (λ z. filter is_refusal (take i xs) ++ z) (sym one) ∙ sym (filter-more xs i x h e)

pub left-out : (xs some : List Event) (i : ℕ) (x : Event) → i < length xs → x ≡ get_or xs i x → is_refusal x ≡ false → some ≡ filter is_refusal (take i xs) → some ≡ filter is_refusal (take (i + 1) xs)
left-out xs some i x h e is so_far =
    let none : filter is_refusal (x ∷ []) ≡ [] = rw is refl in
    so_far ∙ sym (append-nil (filter is_refusal (take i xs))) ∙ ap (λ z. filter is_refusal (take i xs) ++ z) (sym none) ∙ sym (filter-more xs i x h e)

-- One word more of a key.
pub key-more : {X : Type 0} (f : X → List ℕ) (xs : List X) (i : ℕ) (x : X) (a b c : List ℕ) → i < length xs → x ≡ get_or xs i x → a ≡ key_text (map f (take i xs)) → b ≡ a ++ f x → c ≡ b ++ codes " " → c ≡ key_text (map f (take (i + 1) xs))
key-more {X} f xs i x a b c h e so_far word blank =
    let front : take (i + 1) xs ≡ take i xs ++ x ∷ [] = rw add-one (take-suc xs i x h ∙ ap (λ y. take i xs ++ y ∷ []) (sym e)) in
    let words : map f (take (i + 1) xs) ≡ map f (take i xs) ++ f x ∷ [] = ap (map f) front ∙ map-append f (take i xs) (x ∷ []) in
    let old = key_text (map f (take i xs)) in
    blank ∙ ap (λ z. z ++ codes " ") (word ∙ ap (λ z. z ++ f x) so_far) ∙ append_assoc old (f x) (codes " ") ∙ ap (λ z. old ++ z) (sym (append-nil (f x ++ codes " ")))
    ∙ sym (flat_map-append (λ w. w ++ codes " ") (map f (take i xs)) (f x ∷ [])) ∙ ap key_text (sym words)

-- The output of a run that wrote the answer.
pub gives : (mode : Mode) (s : Script) (words : List (List ℕ)) (moment : Option ℕ) (asked : Packet) (now : ℕ) (control : Steering) (events : List Event) (lines old text : List ℕ) (found refused : Bool)
    → now ≡ unwrap_or moment s.last → IsKey s.schema words asked
    → StandsAt [] (history mode s.schema s.sections) (run control false events) → lines ≡ (traced mode asked.set s.schema s.sections).lines → control.schema ≡ s.schema
    → old ≡ [] → text ≡ old ++ (remarks_text control.schema (filter is_refusal events) ++ answer_text (slice_get control.schema asked.set) now lines (answer_in control.work.base (record asked { now = now })))
    → found ≡ is_some (answer_in control.work.base (record asked { now = now })) → refused ≡ (list_any is_refusal events || not found)
    → GivesAnswer mode s words moment refused text
gives mode s words moment asked now control events lines old text found refused at is_key st lines_are schema empty wrote is_found is_refused =
    let p : Packet = record asked { now = now } in
    let same : p ≡ at_moment moment s asked = ap (λ (n : ℕ). record asked { now = n }) at in
    record {
      packet = asked;
      is_key = is_key;
      text_is = wrote ∙ ap (λ z. z ++ (remarks_text control.schema (filter is_refusal events) ++ answer_text (slice_get control.schema asked.set) now lines (answer_in control.work.base p))) empty ∙ text-at mode s p control events lines st lines_are schema ∙ ap (get_text mode s) same;
      refused_is = is_refused ∙ mark-at mode s p control events found st is_found ∙ ap (has_no_answer mode s) same;
    }

-- The one packet of a key file fits if all do.
pub only-fits : (P : Packet → Type 0) (keys : List (List Packet)) (p : Packet) → keys ≡ (p ∷ []) ∷ [] → All (All P) keys → P p
only-fits P keys p is all = (subst (λ z. All (All P) z) is all) 0 [] (omega arith) 0 p (omega arith)

module _ (schema : List SetDecl) (sets : List State) (p : Packet) (fits : IsFitting schema p) (are : AreSetsOf schema sets) where
  -- A packet's set is there, and its key fits it.
  pub set-within : p.set < length sets
  set-within = let within = slice_get_within schema p.set fits.set fits.declared in let same = are.one_each in omega (arith, within, same)

  pub key-fits : (s : State) → slice_get sets p.set ≡ Some s → key_fits s.kinds p.key ≡ true
  key-fits s at = subst (λ k. key_fits k p.key ≡ true) (sym (are.each p.set fits.set s fits.declared at).kinds) fits.fits

  -- Intervals that fit the set fit the declared set.
  pub parts-fit : (s : State) (d : SetDecl) (answer : Option (Bor Element)) → slice_get sets p.set ≡ Some s → slice_get schema p.set ≡ Some d → IfSome answer (λ e. parts_fit s.kinds e.now.parts ≡ true) → IfSome answer (λ e. parts_fit d.kinds e.now.parts ≡ true)
  parts-fit s d answer at declared h = subst (λ k. IfSome answer (λ e. parts_fit k e.now.parts ≡ true)) (are.each p.set d s declared at).kinds h

-- The answer was written.
pub answer-written : (schema : List SetDecl) (g : Generation) (p : Packet) (d : SetDecl) (s : State) (lines other old b : List ℕ) (answer : Option Element) → other ≡ lines → slice_get schema p.set ≡ Some d → slice_get g.sets p.set ≡ Some s → answer ≡ first s p.key p.now
    → b ≡ old ++ answer_text (Some d) p.now other answer → b ≡ old ++ answer_text (slice_get schema p.set) p.now lines (answer_in g p)
answer-written schema g p d s lines other old b answer same declared at answers wrote =
    wrote
    ∙ ap (λ z. old ++ answer_text (Some d) p.now z answer) same
    ∙ ap (λ z. old ++ answer_text z p.now lines answer) (sym declared)
    ∙ ap (λ z. old ++ answer_text (slice_get schema p.set) p.now lines z) (answers ∙ ap (first_in p.key p.now) (sym at))

pub answer-found : (g : Generation) (p : Packet) (s : State) (answer : Option Element) → slice_get g.sets p.set ≡ Some s → answer ≡ first s p.key p.now → is_some answer ≡ is_some (answer_in g p)
answer-found g p s answer at answers = ap is_some (answers ∙ ap (first_in p.key p.now) (sym at))
