-- The packets of sections in a run of a script.
use Rattle.std.proofs.Common.{◌≡◌, refl, sym, ◌∙◌, ap, subst, ℕ, zero, suc, ◌+◌, ◌<◌, ◌≤◌, ◌||◌, Bool, true, false, List, [], ◌∷◌, ◌++◌, length, take, filter, flat_map, get_or, All, Option, Some, None, slice_get, is_none, option_map, append_assoc, arith}
use Rattle.std.specs.Prelude.{IfSome}
use Rattle.std.specs.Borrow.{Bor}
use Rattle.std.specs.List.{list_any, enumerate_from}
use Rattle.std.proofs.lemmas.List.{take_all}
use Rattle.std.proofs.lemmas.Option.{slice_get_within, slice_get-get_or}
use Rattle.script_laws.proofs.Lists.{All-head, All-tail, list_any-append, length-enumerate, of-item}
use Rattle.set_model.specs.declared.element.Element.{Element}
use Rattle.set_model.specs.declared.packet.Packet.{Packet}
use Rattle.set_model.specs.declared.report.Event.{Event}
use Rattle.set_model.specs.declared.script.Script.{Script}
use Rattle.set_model.specs.declared.script.SetDecl.{SetDecl}
use Rattle.set_model.specs.declared.script.Step.{Step}
use Rattle.set_model.specs.Control.{Mode, Generation, history, is_refusal}
use Rattle.set_model.specs.Key.{key_fits}
use Rattle.set_model.specs.Runnable.{IsFitting}
use Rattle.set_model.specs.SetState.{State, first}
use Rattle.set_report.specs.Remarks.{remarks_text}
use Rattle.set_report.specs.Writes.{AreSetsOf}
use Rattle.packet_pool.specs.Running.{run, StandsAt}
use Rattle.script_laws.proofs.RunLaws.{sets_declared}
use Rattle.key_answer.specs.declared.trace.Trace.{Trace}
use Rattle.key_answer.specs.Answer.{first_in, answer_in}
use Rattle.key_answer.specs.Origin.{lines_of, traced}
use Rattle.key_answer.specs.Sections.{IsTraceOf}
use Rattle.key_match.proofs.ListLaws.{take-get}
use Rattle.explain_answer.specs.Explained.{After, after_sections, said_of, packet_in, lacks_answer, section_text, section_lacks, explain_text, lacks_any, Explains}
use Rattle.explain_answer.specs.Runs.{after_run, HasDone}

-- an item that is read at a place
pub read-item : {X : Type 0} (xs : List X) (i : ℕ) (x : X) → i < length xs → x ≡ get_or xs i x → slice_get xs i ≡ Some x
read-item xs i x within is = slice_get-get_or xs i x within ∙ ap Some (sym is)

-- One more thing that may be so.
pub any-next : {X : Type 0} (p : X → Bool) (xs : List X) (i : ℕ) (x : X) (so_far one new : Bool) → slice_get xs i ≡ Some x → so_far ≡ list_any p (take i xs) → one ≡ p x → new ≡ (so_far || one) → new ≡ list_any p (take (i + 1) xs)
any-next {X} p xs i x so_far one new at is is_one step =
    step ∙ ap (λ b. b || one) is ∙ ap (λ b. list_any p (take i xs) || b) (is_one ∙ last (p x)) ∙ sym (ap (λ (z : List X). list_any p z) (take-get xs i x at) ∙ list_any-append p (take i xs) (x ∷ [])) where
      last : (b : Bool) → b ≡ (b || false)
      last true = refl
      last false = refl

-- A numbered item.
numbered : {X : Type 0} (from : ℕ) (xs : List X) (i : ℕ) (x : X) → slice_get xs i ≡ Some x → slice_get (enumerate_from from xs) i ≡ Some (from + i, x)
numbered from [] i x at = absurd (cc at)
numbered from (y ∷ xs) zero x at =
    let same : y ≡ x = cc at in
    let n : from ≡ from + 0 = omega arith in
    ap (λ z. Some (from, z)) same ∙ ap (λ m. Some (m, x)) n
numbered from (y ∷ xs) (suc i) x at =
    let n : from + 1 + i ≡ from + suc i = omega arith in
    numbered (from + 1) xs i x at ∙ ap (λ m. Some (m, x)) n

pub item_at : {X : Type 0} (xs : List X) (i : ℕ) (x : X) → slice_get xs i ≡ Some x → slice_get (enumerate_from 0 xs) i ≡ Some (i, x)
item_at xs i x at = let n : 0 + i ≡ i = omega arith in numbered 0 xs i x at ∙ ap (λ m. Some (m, x)) n

pub items-all : {X : Type 0} (xs : List X) (i : ℕ) → length xs ≤ i → take i (enumerate_from 0 xs) ≡ enumerate_from 0 xs
items-all xs i past = take_all i (enumerate_from 0 xs) (let long = length-enumerate 0 xs in omega (arith, long, past))

-- The set of a packet is there.
pub at-set : (schema : List SetDecl) (sets : List State) (p : Packet) → IsFitting schema p → AreSetsOf schema sets → (p.set < length sets) × Unit {0}
at-set schema sets p fits are = let within = slice_get_within schema p.set fits.set fits.declared in let same = are.one_each in (omega (arith, within, same), tt)

-- Texts and tests that agree on all items of a list.
pub text-same : {X : Type 0} (P : X → Type 0) (f g : X → List ℕ) (xs : List X) → All P xs → ((x : X) → P x → f x ≡ g x) → flat_map f xs ≡ flat_map g xs
text-same P f g [] all same = refl
text-same P f g (x ∷ xs) all same = ap (λ t. t ++ flat_map f xs) (same x (All-head P x xs all)) ∙ ap (λ t. g x ++ t) (text-same P f g xs (All-tail P x xs all) same)

module _ (mode : Mode) (s : Script) (n : ℕ) (t : Trace) (h : HasDone mode s n t) where
  -- The sets of the run are the declared ones.
  pub sets-of : AreSetsOf t.control.schema t.control.work.base.sets
  sets-of = subst (λ (z : List SetDecl). AreSetsOf z t.control.work.base.sets) (sym h.schema_is) (sets_declared mode s.schema (take n s.sections) t.control t.events h.stands)

  generation-is : t.control.work.base ≡ (after_sections mode s n).generation
  generation-is = sym h.stands.last

  -- What is said of a packet in the run is what is said of it at this point of the script.
  pub packet-same : (p : Packet) → IsFitting s.schema p → packet_in (after_run t) p ≡ packet_in (after_sections mode s n) p
  packet-same p fits =
      let within = slice_get_within s.schema p.set fits.set fits.declared in
      ap (λ (z : List SetDecl). said_of (slice_get z p.set) (lines_of t.lines p.set) p (slice_get t.control.work.base.sets p.set)) h.schema_is
      ∙ ap (λ (ls : List ℕ). said_of (slice_get s.schema p.set) ls p (slice_get t.control.work.base.sets p.set)) (h.lines_are p.set within)
      ∙ ap (λ (g : Generation). said_of (slice_get s.schema p.set) ((after_sections mode s n).lines p.set) p (slice_get g.sets p.set)) generation-is

  pub packets-same : (packets : List Packet) → All (IsFitting s.schema) packets → flat_map (packet_in (after_run t)) packets ≡ flat_map (packet_in (after_sections mode s n)) packets
  packets-same packets fit = text-same (IsFitting s.schema) (packet_in (after_run t)) (packet_in (after_sections mode s n)) packets fit packet-same

  pub lacks-same : (packets : List Packet) → list_any (lacks_answer (after_run t)) packets ≡ list_any (lacks_answer (after_sections mode s n)) packets
  lacks-same packets = ap (λ (g : Generation). list_any (λ p. is_none (answer_in g p)) packets) generation-is

-- The packets of one more section.
pub section-said : (mode : Mode) (s : Script) (i n : ℕ) (t : Trace) (packets : List Packet) (old new : List ℕ) → n ≡ i + 2 → HasDone mode s n t → All (IsFitting s.schema) packets
    → new ≡ old ++ flat_map (packet_in (after_run t)) packets → new ≡ old ++ section_text mode s (i, packets)
section-said mode s i n t packets old new is h fit wrote =
    wrote ∙ ap (λ z. old ++ z) (packets-same mode s n t h packets fit) ∙ ap (λ m. old ++ flat_map (packet_in (after_sections mode s m)) packets) is

pub section-lacks : (mode : Mode) (s : Script) (i n : ℕ) (t : Trace) (packets : List Packet) (one : Bool) → n ≡ i + 2 → HasDone mode s n t → one ≡ list_any (lacks_answer (after_run t)) packets → one ≡ section_lacks mode s (i, packets)
section-lacks mode s i n t packets one is h found =
    found ∙ lacks-same mode s n t h packets ∙ ap (λ m. list_any (lacks_answer (after_sections mode s m)) packets) is

-- A number of sections that is another, or past the last.
pub done-as : (mode : Mode) (s : Script) (n m : ℕ) (t : Trace) → n ≡ m → HasDone mode s n t → HasDone mode s m t
done-as mode s n m t is h = subst (λ k. HasDone mode s k t) is h

pub done-past : (mode : Mode) (s : Script) (n : ℕ) (t : Trace) → length s.sections ≤ n → HasDone mode s n t → HasDone mode s (n + 1) t
done-past mode s n t past h =
    let all : take n s.sections ≡ take (n + 1) s.sections = take_all n s.sections past ∙ sym (take_all (n + 1) s.sections (omega (arith, past))) in
    subst (λ (z : List (List Step)). IsTraceOf mode s.schema z t) all h

pub done-all : (mode : Mode) (s : Script) (n : ℕ) (t : Trace) → length s.sections ≤ n → HasDone mode s n t → IsTraceOf mode s.schema s.sections t
done-all mode s n t past h = subst (λ (z : List (List Step)). IsTraceOf mode s.schema z t) (take_all n s.sections past) h

-- The output of a run.
pub gives : (mode : Mode) (s : Script) (keys : List (List Packet)) (t : Trace) (said text : List ℕ) (lacks refused : Bool) → IsTraceOf mode s.schema s.sections t
    → said ≡ flat_map (section_text mode s) (enumerate_from 0 keys) → lacks ≡ list_any (section_lacks mode s) (enumerate_from 0 keys)
    → text ≡ remarks_text t.control.schema (filter is_refusal t.events) ++ said → refused ≡ (list_any is_refusal t.events || lacks) → Explains mode s keys refused text
gives mode s keys t said text lacks refused h said_is lacks_is text_is refused_is = record {
  text_is =
      text_is
      ∙ ap (λ (z : List SetDecl). remarks_text z (filter is_refusal t.events) ++ said) h.schema_is
      ∙ ap (λ (z : List Event). remarks_text s.schema (filter is_refusal z) ++ said) (sym h.stands.told)
      ∙ ap (λ z. remarks_text s.schema (filter is_refusal (history mode s.schema s.sections).events) ++ z) said_is;
  refused_is =
      refused_is
      ∙ ap (λ (z : List Event). list_any is_refusal z || lacks) (sym h.stands.told)
      ∙ ap (λ b. list_any is_refusal (history mode s.schema s.sections).events || b) lacks_is;
}
