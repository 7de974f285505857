-- Which transcripts are legal: which answers the packets of a run may get.
use Rattle.std.specs.Prelude.{ℕ, ◌+◌, ◌-◌, ◌/◌, ◌<◌, ◌≤◌, ◌≡◌, List, [], ◌∷◌, ◌++◌, length, map, take, drop, Option, Some, None, slice_get}
use Rattle.std.specs.List.{enumerate_from}
use Rattle.set_model.specs.declared.script.Script.{Script}
use Rattle.set_model.specs.declared.packet.Packet.{Packet}
use Rattle.set_model.specs.declared.packet.Verdict.{Verdict}
use Rattle.set_model.specs.declared.packet.Verdict.TheVariants as verdicts
use Rattle.set_model.specs.declared.report.Line.{Line}
use Rattle.set_model.specs.declared.report.Event.{Event}
use Rattle.set_model.specs.declared.element.Element.{Element}
use Rattle.set_model.specs.SetState.{State, first}
use Rattle.set_model.specs.Control.{Mode, Generation, Control, history}

-- the control before section j of a script, and after it
abbrev pub before : Mode → Script → ℕ → Control
before mode script j = history mode script.schema (take j script.sections)

abbrev pub after : Mode → Script → ℕ → Control
after mode script j = before mode script (j + 1)

-- the number of the last generation after sections 0 to j
abbrev pub last : Mode → Script → ℕ → ℕ
last mode script j = (after mode script j).last.number

-- the events of section j
abbrev pub section_events : Mode → Script → ℕ → List Event
section_events mode script j = drop (length (before mode script j).events) (after mode script j).events

-- a packet, its section, and its place in the section
pub record Placed : Type 0 where
  pub section : ℕ
  pub place : ℕ
  pub packet : Packet

abbrev pub placed_from : ℕ → List (List Packet) → List Placed
placed_from j [] = []
placed_from j (packets ∷ sections) = map (λ p. record { section = j; place = p.0; packet = p.1 }) (enumerate_from 0 packets) ++ placed_from (j + 1) sections

-- The packets of a key file in file order. Its first section is section 1.
abbrev pub placed : List (List Packet) → List Placed
placed keys = placed_from 1 keys

-- a lookup's answer as a verdict
abbrev pub verdict_of : Option Element → Verdict
verdict_of None = verdicts.None
verdict_of (Some e) = verdicts.Element e.id

-- A lookup's verdict on a packet in a generation: the first element of the packet's set that is live and holds its key.
pub record IsFirstMatch (generation : Generation) (packet : Packet) (verdict : Verdict) : Type 0 where
  pub state : State
  pub is_set : slice_get generation.sets packet.set ≡ Some state
  pub first_match : verdict ≡ verdict_of (first state packet.key packet.now)

-- Two lines: the packets of one batch of sixteen have one thread, and a thread's generations never
-- fall.
pub record IsLegalPair (a b : Placed) (earlier later : Line) : Type 0 where
  pub one_batch : a.section ≡ b.section → a.place / 16 ≡ b.place / 16 → earlier.thread ≡ later.thread
  pub never_falls : earlier.thread ≡ later.thread → earlier.generation ≤ later.generation

-- What is said of packets in a generation. A lookup says it, or a judge that asks several sets.
module _ (Says : Generation → Packet → Verdict → Type 0) where
  -- The verdict on a packet in the generation of a number. That generation is committed, and the
  -- verdict is what is said of the packet in it.
  pub record IsVerdict (committed : List Generation) (packet : Packet) (number : ℕ) (verdict : Verdict) : Type 0 where
    pub generation : Generation
    pub is_committed : slice_get committed number ≡ Some generation
    pub says : Says generation packet verdict

  -- The line of packet p names the packet, a thread and a generation, and has that generation's
  -- verdict. The generation is no older than the last one before the packet's section, and no newer
  -- than the last one after it.
  pub record IsLegalLine (mode : Mode) (script : Script) (threads p : ℕ) (at : Placed) (line : Line) : Type 0 where
    pub names_packet : line.packet ≡ p
    pub thread : line.thread < threads
    pub not_too_old : last mode script (at.section - 1) ≤ line.generation
    pub not_too_new : line.generation ≤ last mode script at.section
    pub verdict : IsVerdict (after mode script at.section).committed at.packet line.generation line.verdict

  -- The lines of a run: one for each packet. Each line is legal, and so is each pair of lines.
  pub record AreLegal (script : Script) (keys : List (List Packet)) (threads : ℕ) (mode : Mode) (lines : List Line) : Type 0 where
    pub one_each : length lines ≡ length (placed keys)
    pub each : (p : ℕ) (at : Placed) (line : Line) → slice_get (placed keys) p ≡ Some at → slice_get lines p ≡ Some line → IsLegalLine mode script threads p at line
    pub pairs : (p q : ℕ) (a b : Placed) (earlier later : Line) → p < q
        → slice_get (placed keys) p ≡ Some a → slice_get (placed keys) q ≡ Some b
        → slice_get lines p ≡ Some earlier → slice_get lines q ≡ Some later → IsLegalPair a b earlier later

-- The lines of a run whose packets are looked up.
abbrev pub Legal : Script → List (List Packet) → ℕ → Mode → List Line → Type 0
Legal = AreLegal IsFirstMatch
