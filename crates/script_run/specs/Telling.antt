-- What a run writes for a section: the events of its steps, and the lines of its packets.
use Rattle.std.specs.Prelude.{◌≡◌, ℕ, ◌+◌, ◌||◌, Bool, false, List, [], ◌∷◌, ◌++◌, length, slice_get}
use Rattle.std.specs.List.{list_any}
use Rattle.set_model.specs.declared.packet.Packet.{Packet}
use Rattle.set_model.specs.declared.packet.Verdict.{Verdict}
use Rattle.set_model.specs.declared.report.Event.{Event}
use Rattle.set_model.specs.declared.report.Line.{Line}
use Rattle.set_model.specs.declared.script.SetDecl.{SetDecl}
use Rattle.set_model.specs.declared.script.Step.{Step}
use Rattle.set_model.specs.Control.{Generation, is_refusal, first_generation}
use Rattle.set_model.specs.Runnable.{IsFitting}
use Rattle.set_model.specs.Text.{events_text}
use Rattle.set_space.specs.Open.{opened}
use Rattle.gen_publish.specs.Publish.{Grown, kinds_of, declared_kinds}
use Rattle.packet_pool.specs.Running.{Ran}
use Rattle.script_laws.specs.Reports.{refusals_in}
use Rattle.packet_pool.specs.Section.{IsSection, verdict_in}
use Rattle.packet_pool.specs.Work.{AllReady}
use Rattle.script_run.specs.declared.telling.Telling.{Telling}

-- the verdict of a lookup on a packet in a generation
abbrev pub looked_up : Generation → Packet → Verdict
looked_up g p = verdict_in p.key p.now (slice_get g.sets p.set)

-- Nothing is done yet: the control is at generation 0, and so are all readers.
pub record IsAtStart (schema : List SetDecl) (threads : ℕ) (t : Telling) : Type 0 where
  pub schema_is : t.control.schema ≡ schema
  pub committed : t.control.committed ≡ first_generation schema ∷ []
  pub work : t.control.work ≡ opened (first_generation schema)
  pub threads_are : length t.readers.items ≡ threads
  pub ready : AllReady t.control t.readers.items
  pub packets : t.packets ≡ 0
  pub text : t.output.text.items ≡ []
  pub refused : t.output.refused ≡ false
  pub refusals : t.output.refusals.items ≡ []
  pub failed : t.output.failed ≡ false

-- the line's verdict is the judge's verdict on some packet in some generation
abbrev pub IsLineOf : (Generation → Packet → Verdict) → Line → Type 0
IsLineOf verdict l = (g : Generation) × (p : Packet) × (l.verdict ≡ verdict g p)

-- A judge's verdicts on packets of declared sets, in generations that have these sets.
pub record IsAnsweredBy (verdict : Generation → Packet → Verdict) (schema : List SetDecl) (generation : Generation) (packet : Packet) (answer : Verdict) : Type 0 where
  pub sets : kinds_of generation.sets ≡ declared_kinds schema
  pub fits : IsFitting schema packet
  pub answer_is : answer ≡ verdict generation packet

-- A section was done by a judge with this verdict, whose lines have this text: its steps beside its
-- packets.
pub record TellsSection (verdict : Generation → Packet → Verdict) (packets_text : List Line → List ℕ) (keep_going : Bool) (steps : List Step) (packets : List Packet) (old new : Telling) : Type 0 where
  pub events : List Event
  pub lines : List Line
  pub ran : Ran keep_going steps old.control new.control events
  pub answers : IsSection verdict packets old.packets (length old.readers.items) (length old.control.committed) new.control.committed lines
  pub grown : Grown new.control.schema 0 new.control.committed
  pub threads_are : length new.readers.items ≡ length old.readers.items
  pub ready : AllReady new.control new.readers.items
  pub text : new.output.text.items ≡ old.output.text.items ++ (events_text old.control.schema events ++ packets_text lines)
  pub refused : new.output.refused ≡ (old.output.refused || list_any is_refusal events)
  pub refusals : new.output.refusals.items ≡ old.output.refusals.items ++ refusals_in 0 events
  pub failed : new.output.failed ≡ old.output.failed
  pub count : new.packets ≡ old.packets + length packets
