use Rattle.std.proofs.Common.{rules, ◌≡◌, ℕ, ◌+◌, ◌<◌, ◌++◌, List, take, drop, length, Option, Some, ap, sym, ◌∙◌, subst, arith, slice_get, slice_set}
use Rattle.std.proofs.Math.Seq.{take-append_seam}
use Rattle.std.proofs.lemmas.List.{set-get_or}
use Rattle.std.proofs.lemmas.Option.{slice_get_within, slice_get-get_or}
use Rattle.history_laws.specs.Histories.{StartsWith}
use Rattle.set_model.specs.Control.{Generation}
use Rattle.gen_publish.specs.Publish.{ReaderView}
use Rattle.packet_pool.specs.Work.{HaveMet}
use Rattle.packet_pool.proofs.Dealing.{MetBefore, SameFrom, met_more, met_none}
use Rattle.packet_pool.proofs.readers.meet_all.Goals as goal
use Rattle.packet_pool.proofs.readers.meet_all.Goals.{in-Some, in_default}

pub meet-requires : goal.meet-requires
meet-requires c =
    let inv = c.loop-slot.invariant in let k = c.loop-slot.slot-index in let items = c.loop-slot.slot-items in let within : k < length items = search rules in
    let at = slice_get-get_or items k c.slot-item.result within ∙ ap Some c.in-Some.is in
    c.requires k c.in-Some.reader (ap (λ (z : List (Option ReaderView)). slice_get z k) (sym c.deref_mut-slot-items.ensures.value) ∙ sym (inv.rest k (omega arith)) ∙ at) ∙ sym (ap (λ x. x.of) inv.control)

pub loop-slot-preserved : goal.loop-slot-preserved
loop-slot-preserved c =
    let inv = c.loop-slot.invariant in let k = c.loop-slot.slot-index in let items = c.loop-slot.slot-items in let within : k < length items = search rules in
    let all = c.args.control.now.committed in let old = c.deref_mut-slot-items.result.now in let read = slice_get-get_or items k c.slot-item.result within in
    elim c.match-slot.branch [
      | in-Some w ↦
          let d = w.in-Some.reader in let same = ap (λ x. x.committed) inv.control in
          let m = met_more all old k items d within inv.rest (read ∙ ap Some w.in-Some.is) (subst (λ (z : List Generation). StartsWith z d.seen) same w.meet.ensures.begins) inv.met in
          let is : c.match-slot.slot-items ≡ slice_set items k (Some (record d { seen = all })) = w.slot-items-is ∙ ap (λ x. slice_set items k (Some x)) (w.meet.ensures.met ∙ ap (λ z. record d { seen = z }) same) in
          record {
            control = w.control-is ∙ w.meet.ensures.same ∙ inv.control;
            met = subst (MetBefore all old (k + 1)) (sym is) m.0;
            rest = subst (SameFrom all old (k + 1)) (sym is) m.1;
          }
      | in_default w ↦
          let m = met_none all old k items inv.rest (read ∙ ap Some w.in_default.is) inv.met in
          let is : c.match-slot.slot-items ≡ items = w.slot-items-is ∙ set-get_or items k c.slot-item.result in
          record {
            control = w.control-is ∙ inv.control;
            met = subst (MetBefore all old (k + 1)) (sym is) m.0;
            rest = subst (SameFrom all old (k + 1)) (sym is) m.1;
          }
    ]

pub returns-clause-met : goal.returns-clause-met
returns-clause-met c =
    let inv = c.loop-slot.invariant in let items = c.loop-slot.slot-items in let size = c.loop-slot.auto.slot-items in let view = c.deref_mut-slot-items.ensures in let past = c.loop-slot-test.false in let len = view.len in
    let back : take c.args.readers.now.len (items ++ drop (length items) c.args.readers.now.items) ≡ items = ap (λ n. take n (items ++ drop (length items) c.args.readers.now.items)) (omega (arith, size, len)) ∙ take-append_seam items _ in
    let met : (i : ℕ) (d : ReaderView) → slice_get c.args.readers.now.items i ≡ Some (Some d) → StartsWith c.args.control.now.committed d.seen × (slice_get items i ≡ Some (Some (record d { seen = c.args.control.now.committed }))) =
    λ i d e. let at = ap (λ (z : List (Option ReaderView)). slice_get z i) view.value ∙ e in let l = slice_get_within c.deref_mut-slot-items.result.now i (Some d) at in inv.met i d (omega (arith, l, past)) at in
    subst (HaveMet c.args.control.now.committed c.args.readers.now.items) (sym back) (record {
      size = size ∙ ap length view.value;
      begun = λ i d e. (met i d e).0;
      met = λ i d e. (met i d e).1;
    })
