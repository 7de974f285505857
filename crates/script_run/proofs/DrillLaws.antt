-- The line of a generated workload: its packets meet the last generation alone.
use Rattle.std.proofs.Common.{◌≡◌, refl, sym, ◌∙◌, ap, subst, ℕ, suc, ◌+◌, false, true, List, [], ◌∷◌, ◌++◌, length, map, slice_get, Some, arith, append-nil}
use Rattle.std.proofs.lemmas.List.FromFn.{length-map-range_with_len}
use Rattle.set_model.specs.declared.packet.Packet.{Packet}
use Rattle.set_model.specs.declared.packet.Verdict.{Verdict}
use Rattle.set_model.specs.declared.report.Event.{Event}
use Rattle.set_model.specs.declared.report.Line.{Line}
use Rattle.set_model.specs.declared.script.Step.{Step}
use Rattle.set_model.specs.declared.script.Script.{Script}
use Rattle.set_model.specs.declared.script.SetDecl.{SetDecl}
use Rattle.set_model.specs.Control.{Control, Generation, KeepGoing, first_generation, start, section}
use Rattle.set_model.specs.Runnable.{EndsClosed}
use Rattle.set_model.proofs.ClosedLaws.{closed-section}
use Rattle.set_space.specs.Open.{opened}
use Rattle.gen_publish.specs.Publish.{Steering}
use Rattle.packet_pool.specs.declared.section.SectionResult.{SectionResult}
use Rattle.packet_pool.specs.Running.{run, StandsAt, Ran}
use Rattle.packet_pool.specs.Section.{IsSection}
use Rattle.drill_gen.specs.Drill.{drill_script, drill_steps, drill_keys, drill_packet, drill_packets}
use Rattle.set_report.specs.SummaryText.{summary_of, summary_text}
use Rattle.script_run.specs.Drill.{last_verdicts, drill_text, IsDrilled}
use Rattle.script_run.specs.Telling.{looked_up}
use Rattle.script_laws.proofs.ControlLaws.{section_numbered, start_numbered}
use Rattle.script_laws.proofs.RunLaws.{start_stands}

-- Two lists look the same if their items do, place by place.
places-same : {A B X : Type 0} (f : A → X) (g : B → X) (xs : List A) (ys : List B) → length xs ≡ length ys → ((p : ℕ) (y : B) (x : A) → slice_get ys p ≡ Some y → slice_get xs p ≡ Some x → f x ≡ g y) → map f xs ≡ map g ys
places-same f g [] [] long h = refl
places-same f g [] (y ∷ ys) long h = absurd (cc long)
places-same f g (x ∷ xs) [] long h = absurd (cc long)
places-same f g (x ∷ xs) (y ∷ ys) long h =
    let here : f x ≡ g y = h 0 y x refl refl in
    let rest : map f xs ≡ map g ys = places-same f g xs ys (cc long) (λ p z w e k. h (suc p) z w e k) in
    cc

-- If no generation is committed beside the packets, each of them gets the last one's verdict.
pub last-answers : (verdict : Generation → Packet → Verdict) (packets : List Packet) (first threads : ℕ) (committed : List Generation) (last : Generation) (lines : List Line)
    → slice_get committed last.number ≡ Some last → length committed ≡ last.number + 1 → IsSection verdict packets first threads (length committed) committed lines
    → map (λ l. l.verdict) lines ≡ map (verdict last) packets
last-answers verdict packets first threads committed last lines at long s = places-same (λ l. l.verdict) (verdict last) lines packets s.one_each each where
  each : (p : ℕ) (packet : Packet) (l : Line) → slice_get packets p ≡ Some packet → slice_get lines p ≡ Some l → l.verdict ≡ verdict last packet
  each p packet l e k =
      let line = s.each p packet l e k in
      let old = line.not_too_old in
      let new = line.not_too_new in
      let number : l.generation ≡ last.number = omega (arith, old, new, long) in
      let found : Some line.answer.0 ≡ Some last = sym line.answer.1 ∙ ap (slice_get committed) number ∙ at in
      let same : line.answer.0 ≡ last = cc found in
      line.answer.2 ∙ ap (λ g. verdict g packet) same

-- Steps were run to their end, and then packets were answered.
module _ (steps : List Step) (packets : List Packet) (threads : ℕ) (old mid new : Steering) (events more : List Event) (lines : List Line)
    (committed : old.committed ≡ first_generation old.schema ∷ []) (work : old.work ≡ opened (first_generation old.schema)) (closed : EndsClosed steps)
    (built : Ran true steps old mid events) (rest : Ran true [] mid new more) (answers : IsSection looked_up packets 0 threads (length mid.committed) new.committed lines) where
  abbrev done : Control
  done = section KeepGoing (start old.schema) steps

  behind : StandsAt [] done (run mid built.failed events)
  behind = built.goes_on.stands [] (start old.schema) (start_stands old.schema old committed work)

  quiet : StandsAt done.events done (run mid false [])
  quiet = record { committed = behind.committed; last = behind.last; sets = behind.sets; failed = closed-section steps closed KeepGoing (start old.schema) refl; told = sym (append-nil done.events) }

  ended : StandsAt done.events done (run new rest.failed more)
  ended = rest.goes_on.stands done.events done quiet

  pub drilled-behind : (r : SectionResult) → r.events ≡ events → r.lines ≡ lines → IsDrilled done packets new r
  drilled-behind r told lines_are =
      let numbered = section_numbered KeepGoing (start old.schema) steps (start_numbered old.schema) in
      let section : IsSection looked_up packets 0 threads (length done.committed) done.committed lines =
      subst (λ (z : List Generation). IsSection looked_up packets 0 threads (length z) done.committed lines) (sym behind.committed)
      (subst (λ (z : List Generation). IsSection looked_up packets 0 threads (length mid.committed) z lines) (sym ended.committed) answers) in
      record {
        last = sym ended.last;
        events = told ∙ sym behind.told;
        verdicts = ap (map (λ l. l.verdict)) lines_are ∙ last-answers looked_up packets 0 threads done.committed done.last lines numbered.at numbered.long section;
      }

-- The script's first section and the key file's are the workload's.
pub drill-section : (seed count : ℕ) {script : Script} {steps : List Step} → script ≡ drill_script seed count → slice_get script.sections 0 ≡ Some steps → steps ≡ drill_steps seed count
drill-section seed count e at = let same : Some (drill_steps seed count) ≡ Some _ = sym (ap (λ (s : Script). slice_get s.sections 0) e) ∙ at in sym (cc same)

pub drill-packets : (seed count : ℕ) {keys : List (List Packet)} {packets : List Packet} → keys ≡ drill_keys seed count → slice_get keys 0 ≡ Some packets → packets ≡ drill_packets seed count
drill-packets seed count e at = let same : Some (drill_packets seed count) ≡ Some _ = sym (ap (λ (z : List (List Packet)). slice_get z 0) e) ∙ at in sym (cc same)

pub drill-count : (seed count : ℕ) {packets : List Packet} → packets ≡ drill_packets seed count → length packets ≡ count
drill-count seed count e = ap length e ∙ length-map-range_with_len (drill_packet seed count) 0 count

-- What is written of it is the workload's line.
pub drill-line : (seed count : ℕ) (schema : List SetDecl) (steps : List Step) (packets : List Packet) (control : Steering) (r : SectionResult) (generation : Generation) (old new : List ℕ)
    → schema ≡ (drill_script seed count).schema → steps ≡ drill_steps seed count → packets ≡ drill_packets seed count
    → IsDrilled (section KeepGoing (start schema) steps) packets control r → generation ≡ control.work.base → old ≡ [] → new ≡ old ++ summary_text r.events r.lines generation
    → new ≡ drill_text seed count
unfolding drill_text
drill-line seed count schema steps packets control r generation old new schema_is steps_are packets_are drilled last empty wrote =
    let c : section KeepGoing (start schema) steps ≡ section KeepGoing (start (drill_script seed count).schema) (drill_steps seed count) = (λ i. section KeepGoing (start (schema_is i)) (steps_are i)) in
    let verdicts = drilled.verdicts ∙ (λ i. last_verdicts (c i) (packets_are i)) in
    let events = drilled.events ∙ ap (λ (k : Control). k.events) c in
    let generation_is = last ∙ drilled.last ∙ ap (λ (k : Control). k.last) c in
    wrote ∙ ap (λ z. z ++ summary_text r.events r.lines generation) empty
    ∙ (λ i. summary_of (events i) (verdicts i) (generation_is i))
