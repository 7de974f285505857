-- Readers that have seen all generations serve packets of declared sets.
use Rattle.std.proofs.Common.{◌<◌, ◌≤◌, length, List, All, Option, ap, sym, ◌∙◌, subst}
use Rattle.std.proofs.lemmas.Option.{same_Some, slice_get-get_or}
use Rattle.set_model.specs.declared.packet.Packet.{Packet}
use Rattle.set_model.specs.Runnable.{IsFitting}
use Rattle.gen_publish.specs.Publish.{ReaderView, Steering}
use Rattle.packet_pool.specs.Work.{AllReady}
use Rattle.reader_speed.specs.Ready.{AreReadersReady}

pub are_ready : (control : Steering) (readers : List (Option ReaderView)) (packets : List Packet) → 0 < length readers → length readers ≤ 16 → AllReady control readers → All (IsFitting control.schema) packets → AreReadersReady control readers packets
are_ready control readers packets some few ready fitting = record {
  some = some;
  few = few;
  ready = ready;
  fitting = fitting;
  serve = λ k x within.
      let r = ready k _ (slice_get-get_or readers k x within) in λ d is.
      subst (λ s. All (IsFitting s) packets) (sym r.3 ∙ ap (λ (z : ReaderView). z.schema) (same_Some r.0 d (sym r.1 ∙ is))) fitting;
}
