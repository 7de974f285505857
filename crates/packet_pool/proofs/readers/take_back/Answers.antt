use Rattle.std.proofs.Common.{◌∷◌, ◌++◌, [], List, length, length-append, map, ap, sym, ◌∙◌, arith, append_assoc}
use Rattle.std.proofs.lemmas.List.{map-append}
use Rattle.std.proofs.lemmas.Option.{slice_get_within}
use Rattle.set_model.specs.declared.report.Line.{Line}
use Rattle.packet_pool.specs.declared.worker.Worker.{Worker}
use Rattle.packet_pool.specs.Work.{drawn_by}
use Rattle.packet_pool.proofs.Lists.{get_next, next_more}
use Rattle.packet_pool.proofs.Dealing.{back_more, drawn-push}
use Rattle.packet_pool.proofs.readers.take_back.Goals as goal

pub index_mut-requires : goal.index_mut-requires
index_mut-requires c =
    let inv = c.loop-worker.invariant in let at = get_next c.args.workers.items c.loop-worker.yielded _ _ c.in-Some.worker inv.items c.in-Some.ensures.steps.0 in
    let n = (c.requires.numbered (length c.loop-worker.yielded) c.in-Some.worker at).0 in let l = slice_get_within c.args.workers.items (length c.loop-worker.yielded) c.in-Some.worker at in let few = c.requires.few in let size = inv.back.size in omega (arith, n, l, few, size)

pub gather-requires-clause-table : goal.gather-requires-clause-table
gather-requires-clause-table c =
    let inv = c.loop-worker.invariant in let at = get_next c.args.workers.items c.loop-worker.yielded _ _ c.in-Some.worker inv.items c.in-Some.ensures.steps.0 in
    let seated = (c.requires.numbered (length c.loop-worker.yielded) c.in-Some.worker at).1 in (inv.table ∙ c.requires.table.0, seated.table_is, c.requires.table.1, seated.place.0)

pub gather-requires-clause-worker : goal.gather-requires-clause-worker
gather-requires-clause-worker c =
    let inv = c.loop-worker.invariant in let at = get_next c.args.workers.items c.loop-worker.yielded _ _ c.in-Some.worker inv.items c.in-Some.ensures.steps.0 in
    let one = (c.requires.numbered (length c.loop-worker.yielded) c.in-Some.worker at).1.place.1 in omega (arith, one)

pub loop-worker-preserved : goal.loop-worker-preserved
loop-worker-preserved c =
    let inv = c.loop-worker.invariant in let done = c.loop-worker.yielded in let w = c.in-Some.worker in let next = c.in-Some.ensures.steps.0 in
    let at = get_next c.args.workers.items done _ _ w inv.items next in let known = c.requires.numbered (length c.loop-worker.yielded) c.in-Some.worker at in let l = slice_get_within c.args.workers.items (length c.loop-worker.yielded) c.in-Some.worker at in
    let few = c.requires.few in let both = c.gather.ensures.both in let one = known.1.place.1 in let many = inv.many in let n = length-append done (w ∷ []) in record {
      items = next_more c.args.workers.items done _ _ w inv.items next;
      lists = ap (map (λ v. v.items)) c.in_ok-push.ensures.items ∙ map-append (λ v. v.items) c.loop-worker.lists.items (w.lines ∷ [])
          ∙ ap (λ (z : List (List Line)). z ++ w.lines.items ∷ []) inv.lists ∙ sym (map-append (λ (x : Worker). x.lines.items) done (w ∷ []));
      back = back_more c.args.readers.now.items c.loop-worker.readers.items done w inv.back known.0 (omega (arith, l, few));
      table = c.gather.ensures.table.0 ∙ inv.table;
      many = let a = ap (λ h. h.workers) both in omega (arith, a, one, many, n);
      drawn = ap (λ h. h.drawn) both ∙ ap (λ z. z ++ w.place.me.0.drawn) inv.drawn ∙ append_assoc c.args.place.now.me.0.drawn (drawn_by done) w.place.me.0.drawn ∙ ap (λ z. c.args.place.now.me.0.drawn ++ z) (sym (drawn-push done w));
    }
