-- The readers of a section, and what workers do with them.
use Rattle.std.specs.Prelude.{◌≡◌, ℕ, ◌+◌, ◌*◌, ◌/◌, ◌<◌, ◌≤◌, ◌==◌, List, [], length, Option, Some, slice_get, slice_index, slice_index_or, count_by, flat_map}
use Rattle.history_laws.specs.Histories.{StartsWith}
use Rattle.atomic_table.specs.Seated.{TableId}
use Rattle.set_model.specs.declared.packet.Packet.{Packet}
use Rattle.set_model.specs.declared.report.Line.{Line}
use Rattle.set_model.specs.declared.packet.Verdict.{Verdict}
use Rattle.set_model.specs.declared.script.SetDecl.{SetDecl}
use Rattle.set_model.specs.Control.{Generation}
use Rattle.set_model.specs.Runnable.{IsFitting}
use Rattle.gen_publish.specs.Publish.{ReaderView, Steering}
use Rattle.packet_pool.specs.declared.worker.Worker.{Worker}
use Rattle.packet_pool.specs.Draws.{times, hand}
use Rattle.packet_pool.specs.Section.{AnswersPacket, by_thread}

-- every place has a reader that has seen all of the control's list and has its place as its number
abbrev pub AllReady : Steering → List (Option ReaderView) → Type 0
AllReady c readers = (i : ℕ) (o : Option ReaderView) → slice_get readers i ≡ Some o → (d : ReaderView) × (o ≡ Some d) × (d.of ≡ c.of) × (d.schema ≡ c.schema) × (d.seen ≡ c.committed) × (d.reader ≡ i)

-- every packet is of a declared set, and its key fits
abbrev pub AllFit : List SetDecl → List Packet → Type 0
AllFit schema packets = (k : ℕ) (p : Packet) → slice_get packets k ≡ Some p → IsFitting schema p

-- how many batches of sixteen so many packets are
abbrev pub batches_of : ℕ → ℕ
batches_of packets = (packets + 15) / 16

-- how often a packet is named
abbrev pub named : ℕ → List Line → ℕ
named n lines = count_by (λ l. l.packet == n) lines

-- all packets that the lines name come before this one
abbrev pub Before : ℕ → List Line → Type 0
Before n lines = (k : ℕ) (l : Line) → slice_get lines k ≡ Some l → l.packet < n

module _ (verdict : Generation → Packet → Verdict) (packets : List Packet) (first thread low : ℕ) (seen : List Generation) where
  -- A thread's line for the packet at a place. low: how many generations the thread had seen before the
  -- section. seen: those that it has seen by now.
  pub record IsLine (place : ℕ) (l : Line) : Type 0 where
    pub names : l.packet ≡ first + place
    pub thread_is : l.thread ≡ thread
    pub packet : Packet
    pub packet_is : slice_get packets place ≡ Some packet
    pub is_late : low ≤ l.generation + 1
    pub answer : AnswersPacket verdict seen packet l

  -- a thread's lines, in the order in which they were made
  pub record Told (lines : List Line) : Type 0 where
    pub each : (k : ℕ) (l : Line) → slice_get lines k ≡ Some l → (place : ℕ) × IsLine place l
    pub rising : (k m : ℕ) (a b : Line) → k < m → slice_get lines k ≡ Some a → slice_get lines m ≡ Some b → (a.packet < b.packet) × (a.generation ≤ b.generation)

-- a worker before its first draw
pub record IsFresh (batches : ℕ) (table : TableId) (w : Worker) : Type 0 where
  pub table_is : w.place.table_id ≡ table
  pub place : w.place.me ≡ (hand 1 batches [] 0, [])
  pub blank : w.lines.items ≡ []

-- its reader's sets can be judged, and the packets fit them
pub record Serves (serves : List SetDecl → Type 0) (packets : List Packet) (w : Worker) : Type 0 where
  pub schema : serves w.reader.schema
  pub packets_fit : AllFit w.reader.schema packets

-- a worker's seat represents one worker at this counter
pub record IsSeated (table : TableId) (w : Worker) : Type 0 where
  pub table_is : w.place.table_id ≡ table
  pub place : (w.place.me.1 ≡ []) × (w.place.me.0.workers ≡ 1)

-- What a worker has done: it has a line for each packet of the batches that it drew, and it drew until
-- there were no more. Each line took one enter and one leave.
pub record HasWorked (verdict : Generation → Packet → Verdict) (packets : List Packet) (first : ℕ) (old new : Worker) : Type 0 where
  pub thread_is : new.thread ≡ old.thread
  pub seen : StartsWith new.reader.seen old.reader.seen
  pub same : (new.reader.of ≡ old.reader.of) × (new.reader.schema ≡ old.reader.schema) × (new.reader.reader ≡ old.reader.reader)
  pub moves : new.reader.moves ≡ old.reader.moves + 2 * length new.lines.items
  pub told : Told verdict packets first new.thread (length old.reader.seen) new.reader.seen new.lines.items
  pub seated : IsSeated old.place.table_id new
  pub drawn : (p : ℕ) → p < length packets → named (first + p) new.lines.items ≡ times (p / 16) new.place.me.0.drawn
  pub last : (x : ℕ) × (batches_of (length packets) ≤ x) × (0 < times x new.place.me.0.drawn)

-- each of the workers has done its part
pub record AllWorked (verdict : Generation → Packet → Verdict) (packets : List Packet) (first : ℕ) (old new : List Worker) : Type 0 where
  pub size : length new ≡ length old
  pub each : (i : ℕ) (v w : Worker) → slice_get old i ≡ Some v → slice_get new i ≡ Some w → HasWorked verdict packets first v w

-- the workers have the first readers and their numbers
pub record AreDealt (readers : List (Option ReaderView)) (batches : ℕ) (table : TableId) (workers : List Worker) : Type 0 where
  pub thread_is : (i : ℕ) (w : Worker) → slice_get workers i ≡ Some w → w.thread ≡ i
  pub reader_is : (i : ℕ) (w : Worker) → slice_get workers i ≡ Some w → slice_get readers i ≡ Some (Some w.reader)
  pub fresh : (i : ℕ) (w : Worker) → slice_get workers i ≡ Some w → IsFresh batches table w

-- the workers' readers are at their places again, and the others stayed
pub record AreBack (old : List (Option ReaderView)) (workers : List Worker) (new : List (Option ReaderView)) : Type 0 where
  pub size : length new ≡ length old
  pub back : (i : ℕ) (w : Worker) → slice_get workers i ≡ Some w → slice_get new i ≡ Some (Some w.reader)
  pub idle : (i : ℕ) → length workers ≤ i → slice_get new i ≡ slice_get old i

-- the readers have met a control: each had seen a beginning of this list, and has now seen all of it
pub record HaveMet (all : List Generation) (old new : List (Option ReaderView)) : Type 0 where
  pub size : length new ≡ length old
  pub begun : (i : ℕ) (d : ReaderView) → slice_get old i ≡ Some (Some d) → StartsWith all d.seen
  pub met : (i : ℕ) (d : ReaderView) → slice_get old i ≡ Some (Some d) → slice_get new i ≡ Some (Some (record d { seen = all }))

-- all numbers that the workers have drawn
abbrev pub drawn_by : List Worker → List ℕ
drawn_by workers = flat_map (λ w. w.place.me.0.drawn) workers

-- the lines of a thread, in the order in which it made them
abbrev pub lines_of : List (List Line) → ℕ → List Line
lines_of lists i = slice_index_or lists i []

-- the packets from first on, split among threads: each packet has one line, each batch one thread, and
-- a thread's packets rise
pub record IsSplit (first count : ℕ) (lists : List (List Line)) : Type 0 where
  pub thread_is : (i k : ℕ) (l : Line) → slice_get (lines_of lists i) k ≡ Some l → l.thread ≡ i
  pub within : (i k : ℕ) (l : Line) → slice_get (lines_of lists i) k ≡ Some l → (p : ℕ) × (p < count) × (l.packet ≡ first + p)
  pub rising : (i k m : ℕ) (a b : Line) → k < m → slice_get (lines_of lists i) k ≡ Some a → slice_get (lines_of lists i) m ≡ Some b → a.packet < b.packet
  pub whole : (p : ℕ) → p < count → (i : ℕ) × (k : ℕ) × (l : Line) × (slice_get (lines_of lists i) k ≡ Some l) × (l.packet ≡ first + p)
  pub together : (i j k m : ℕ) (a b : Line) (p q : ℕ) → slice_get (lines_of lists i) k ≡ Some a → slice_get (lines_of lists j) m ≡ Some b → a.packet ≡ first + p → b.packet ≡ first + q → p / 16 ≡ q / 16 → i ≡ j

-- the lines of a section, thread by thread
pub record AreAnswers (verdict : Generation → Packet → Verdict) (packets : List Packet) (first threads low : ℕ) (after : List Generation) (lists : List (List Line)) : Type 0 where
  pub few : length lists ≤ threads
  pub split : IsSplit first (length packets) lists
  pub each : (i k : ℕ) (l : Line) → slice_get (lines_of lists i) k ≡ Some l → (p : ℕ) × IsLine verdict packets first i low after p l
  pub never_falls : (i k m : ℕ) (a b : Line) → k < m → slice_get (lines_of lists i) k ≡ Some a → slice_get (lines_of lists i) m ≡ Some b → a.generation ≤ b.generation

-- the same lines in the order of the packets
pub record IsFiled (first count : ℕ) (lists : List (List Line)) (lines : List Line) : Type 0 where
  pub size : length lines ≡ count
  pub names : (p : ℕ) (l : Line) → slice_get lines p ≡ Some l → l.packet ≡ first + p
  pub from : (p : ℕ) (l : Line) → slice_get lines p ≡ Some l → (i : ℕ) × (k : ℕ) × (slice_get (lines_of lists i) k ≡ Some l)
  pub counts : (i : ℕ) → by_thread i lines ≡ length (lines_of lists i)

-- the next line of list i is this packet's; next says how many lines of each list were taken
abbrev pub GoesOnWith : List (List Line) → List ℕ → ℕ → ℕ → Type 0
GoesOnWith lists next packet i = (l : Line) × (slice_get (lines_of lists i) (slice_index next i) ≡ Some l) × (l.packet ≡ packet)
