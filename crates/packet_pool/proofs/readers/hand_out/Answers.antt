use Rattle.std.proofs.Common.{rules, ◌≡◌, ◌+◌, ◌-◌, ◌<◌, ◌∷◌, [], length, length-append, length-set, Some, ap, sym, refl, ◌∙◌, subst, arith, slice_get}
use Rattle.std.specs.Prelude.{IsSome}
use Rattle.std.proofs.lemmas.Option.{slice_get_read, same_Some}
use Rattle.packet_pool.specs.declared.worker.Worker.{Worker}
use Rattle.packet_pool.specs.Draws.{hand}
use Rattle.packet_pool.specs.Work.{AreDealt}
use Rattle.packet_pool.proofs.Lists.{get_set_other}
use Rattle.packet_pool.proofs.Dealing.{dealt_more}
use Rattle.packet_pool.proofs.readers.hand_out.Goals as goal

pub unwrap-reader-requires : goal.unwrap-reader-requires
unwrap-reader-requires c =
    let inv = c.loop-i.invariant in let i = c.loop-i.i in let here = c.requires.there i c.loop-i-test.true in let within : i < length c.loop-i.readers.items = search rules in
    let read = slice_get_read c.loop-i.readers.items (length c.loop-i.readers.items) i c.index_mut.result.now refl within c.index_mut.ensures.value in
    let same = same_Some _ _ (sym here.1 ∙ (sym (inv.idle i (omega arith)) ∙ read)) in
    subst (λ o. IsSome o) (same ∙ sym c.take.ensures.value) (search rules)

pub loop-i-preserved : goal.loop-i-preserved
loop-i-preserved c =
    let inv = c.loop-i.invariant in let i = c.loop-i.i in let was = c.loop-i.workers.items in let readers = c.loop-i.readers.items in let did = c.deal.ensures in
    let within : i < length readers = search rules in
    let read = slice_get_read readers (length readers) i c.index_mut.result.now refl within c.index_mut.ensures.value in
    let reader : slice_get c.args.readers.now.items i ≡ Some (Some c.unwrap-reader.result) = sym (inv.idle i (omega arith)) ∙ read ∙ ap Some (sym c.take.ensures.value ∙ c.unwrap-reader.ensures) in
    let w : Worker = record { thread = i; reader = c.unwrap-reader.result; place = c.deal.result; lines = c.new.result } in
    let items = c.in_ok-push.ensures.items in let many = inv.many in let size = ap length items in let one = length-append was (w ∷ []) in
    let fewer : c.args.count - i - 1 ≡ c.args.count - (i + 1) = omega arith in record {
      many = omega (arith, many, size, one);
      dealt = subst (AreDealt c.args.readers.now.items c.args.batches c.args.counter.now.shared.table_id) (sym items)
          (dealt_more _ _ _ was w inv.dealt (sym many) (ap (slice_get c.args.readers.now.items) many ∙ reader)
          (record { table_is = did.table.1 ∙ inv.table ∙ c.requires.table.0; place = did.right ∙ ap (λ m. (hand 1 m.0.batches [] 0, [])) inv.place; blank = c.new.ensures.items }));
      table = did.table.0 ∙ inv.table;
      place = did.left ∙ ap (λ m. (hand (m.0.workers - 1) m.0.batches m.0.drawn m.0.past, m.1)) inv.place ∙ ap (λ k. (hand k c.args.batches [] 0, [])) fewer;
      size = length-set readers i c.take.new.self ∙ inv.size;
      idle = λ k le. get_set_other readers i k c.take.new.self (λ e. omega arith) ∙ inv.idle k (omega arith);
    }
