-- What the lines of a section say.
use Rattle.std.specs.Prelude.{Option, None, ◌==◌, ◌≡◌, ℕ, ◌+◌, ◌/◌, ◌<◌, ◌≤◌, List, length, Some, slice_get, count_by}
use Rattle.set_model.specs.declared.packet.Packet.{Packet}
use Rattle.set_model.specs.declared.report.Line.{Line}
use Rattle.set_model.specs.declared.packet.Verdict.{Verdict}
use Rattle.set_model.specs.declared.packet.Verdict.TheVariants as verdicts
use Rattle.set_model.specs.SetState.{State, first}
use Rattle.set_model.specs.Control.{Generation}
use Rattle.set_model.specs.Legal.{verdict_of}

-- the verdict of a lookup of a key at a moment in a set
abbrev pub verdict_in : List ℕ → ℕ → Option State → Verdict
verdict_in key now None = verdicts.None
verdict_in key now (Some s) = verdict_of (first s key now)

-- the line names a generation of the list that was seen, and has its verdict
abbrev pub AnswersPacket : (Generation → Packet → Verdict) → List Generation → Packet → Line → Type 0
AnswersPacket verdict seen packet l = (g : Generation) × (slice_get seen l.generation ≡ Some g) × (l.verdict ≡ verdict g packet)

-- The lines of a section, in the order of its packets. low: how many generations were committed before
-- the section. after: all generations that are committed after it.
module _ (verdict : Generation → Packet → Verdict) (packets : List Packet) (first threads low : ℕ) (after : List Generation) where
  -- The line of the packet at a place names the packet, a thread and a generation, and has that
  -- generation's verdict. The generation is no older than the last one before the section, and no newer
  -- than the last one after it.
  pub record IsSectionLine (p : ℕ) (packet : Packet) (l : Line) : Type 0 where
    pub names : l.packet ≡ first + p
    pub thread : l.thread < threads
    pub not_too_old : low ≤ l.generation + 1
    pub not_too_new : l.generation < length after
    pub answer : AnswersPacket verdict after packet l

  -- One line for each packet. The packets of a batch of sixteen have one thread, and along one thread
  -- generations never fall.
  pub record IsSection (lines : List Line) : Type 0 where
    pub one_each : length lines ≡ length packets
    pub each : (p : ℕ) (packet : Packet) (l : Line) → slice_get packets p ≡ Some packet → slice_get lines p ≡ Some l → IsSectionLine p packet l
    pub one_batch : (p q : ℕ) (a b : Line) → slice_get lines p ≡ Some a → slice_get lines q ≡ Some b → p / 16 ≡ q / 16 → a.thread ≡ b.thread
    pub never_falls : (p q : ℕ) (a b : Line) → p < q → slice_get lines p ≡ Some a → slice_get lines q ≡ Some b → a.thread ≡ b.thread → a.generation ≤ b.generation

-- how many lines a thread has
abbrev pub by_thread : ℕ → List Line → ℕ
by_thread i lines = count_by (λ l. l.thread == i) lines
