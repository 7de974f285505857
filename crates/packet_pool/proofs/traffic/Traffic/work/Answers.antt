use Rattle.std.proofs.Common.{◌≡◌, ◌+◌, ◌-◌, ◌/◌, ◌<◌, length, ap, sym, refl, ◌∙◌, subst, arith}
use Rattle.history_laws.proofs.Prefixes.{begins_all, starts_through}
use Rattle.packet_pool.specs.Draws.{times}
use Rattle.packet_pool.proofs.Drawing.{times_last, times-push, rises}
use Rattle.packet_pool.proofs.Telling.{no_packet}
use Rattle.packet_pool.proofs.traffic.Traffic.work.Goals as goal

pub returns-then-batch-batches : goal.returns-then-batch-batches
returns-then-batch-batches g c =
    let i = c.draws.invariant in let drew = c.draw-batch.ensures.drawn.1 in let n = c.draw-batch.result in let past = c.if-batch-batches.true in let count = i.count in record {
      thread_is = refl;
      seen = i.seen;
      same = i.same;
      moves = i.moves;
      told = i.told;
      seated = record {
        table_is = c.draw-batch.ensures.table.0 ∙ i.table.0;
        place = (c.draw-batch.ensures.table.1 ∙ i.table.1, ap (λ h. h.workers) drew ∙ i.free.0);
      };
      drawn = λ p l.
          let drawn = ap (λ h. times (p / 16) h.drawn) drew in let s = times-push (p / 16) n c.draws.place.me.0.drawn in
          let z = no_packet p (length c.args.self.now.packets.now) n l (omega (arith, past, count)) in let m = i.named p l in omega (arith, drawn, s, z, m);
      last = (n, omega (arith, past, count), subst (λ h. 0 < times n h.drawn) (sym drew) (times_last n c.draws.place.me.0.drawn));
    }

pub answer_batch-requires-clause-before : goal.answer_batch-requires-clause-before
answer_batch-requires-clause-before g c κs within = λ k l e.
    let up = rises c.draws.least c.draw-batch.result c.draws.place.me.0.drawn c.draws.invariant.least.1 c.draw-batch.ensures.later in let before = c.draws.invariant.before k l e in omega (arith, up, before)

pub draws-smaller : goal.draws-smaller
draws-smaller g c = let up = rises c.draws.least c.draw-batch.result c.draws.place.me.0.drawn c.draws.invariant.least.1 c.draw-batch.ensures.later in let within = c.if-batch-batches.false in omega (arith, up, within)

pub draws-preserved : goal.draws-preserved
draws-preserved g c =
    let i = c.draws.invariant in let did = c.in_ok-reader.ensures in let drew = c.draw-batch.ensures.drawn in let n = c.draw-batch.result in let within = c.if-batch-batches.false in record {
      count = i.count;
      seen = starts_through _ _ _ did.seen i.seen;
      same = (did.same.0 ∙ i.same.0, did.same.1 ∙ i.same.1, did.same.2 ∙ i.same.2);
      moves = let a = did.moves in let b = i.moves in omega (arith, a, b);
      told = did.told _ (begins_all _ _ i.seen) i.told;
      before = did.before;
      named = λ p l.
          let drawn = ap (λ h. times (p / 16) h.drawn) drew.1 in let s = times-push (p / 16) n c.draws.place.me.0.drawn in let a = i.named p l in let b = did.named p l in omega (arith, drawn, s, a, b);
      table = (c.draw-batch.ensures.table.0 ∙ i.table.0, c.draw-batch.ensures.table.1 ∙ i.table.1);
      free = (ap (λ h. h.workers) drew.1 ∙ i.free.0, ap (λ h. h.batches) drew.1 ∙ i.free.1, ap (λ h. h.past) drew.1 ∙ (drew.2 (let z = i.free.1 in omega (arith, within, z)) ∙ i.free.2));
      least = (
        omega (arith, within),
        λ _.
            let same : n + 1 - 1 ≡ n = omega arith in
            subst (λ x. 0 < times x c.draw-batch.new.place.me.0.drawn) (sym same) (subst (λ h. 0 < times n h.drawn) (sym drew.1) (times_last n c.draws.place.me.0.drawn)),
      );
    }
