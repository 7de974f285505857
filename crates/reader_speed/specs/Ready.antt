-- What a section requires of a control, its readers and packets.
use Rattle.std.specs.Prelude.{◌≡◌, ◌<◌, ◌≤◌, length, All, List, Option, Some}
use Rattle.set_model.specs.declared.packet.Packet.{Packet}
use Rattle.set_model.specs.Runnable.{IsFitting}
use Rattle.gen_publish.specs.Publish.{Steering, ReaderView}
use Rattle.packet_pool.specs.Work.{AllReady}

-- each packet is of a set that every reader has, and its key fits the set's kinds
abbrev pub Serve : List (Option ReaderView) → List Packet → Type 0
Serve readers packets = All (λ slot. (d : ReaderView) → slot ≡ Some d → All (IsFitting d.schema) packets) readers

-- There are 1 to 16 readers, which have seen all committed generations. Each packet is of a
-- declared set, and its key fits the set's kinds.
pub record AreReadersReady (control : Steering) (readers : List (Option ReaderView)) (packets : List Packet) : Type 0 where
  pub some : 0 < length readers
  pub few : length readers ≤ 16
  pub ready : AllReady control readers
  pub fitting : All (IsFitting control.schema) packets
  pub serve : Serve readers packets
