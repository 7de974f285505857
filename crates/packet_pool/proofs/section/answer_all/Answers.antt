use Rattle.std.proofs.Common.{rules, ◌≡◌, ◌+◌, ◌*◌, ◌++◌, length, List, ap, sym, ◌∙◌, subst, arith}
use Rattle.set_model.specs.declared.report.Line.{Line}
use Rattle.set_model.specs.Control.{Generation}
use Rattle.packet_pool.specs.Draws.{times}
use Rattle.packet_pool.specs.Work.{AllReady, AreAnswers, IsFresh, Serves, drawn_by, lines_of, batches_of}
use Rattle.packet_pool.proofs.Lists.{all_from}
use Rattle.packet_pool.proofs.RunLaws.{advances}
use Rattle.packet_pool.proofs.SectionLaws.{answers}
use Rattle.packet_pool.proofs.Restoring.{ready_at, worker_ready, worker_serves, worker_seated, back_of, ready_again, moved}
use Rattle.packet_pool.proofs.section.answer_all.Goals as goal

pub hand_out-requires-clause-there : goal.hand_out-requires-clause-there
hand_out-requires-clause-there g c = λ i l. let d = ready_at c.args.control.now c.args.readers.now.items c.requires.readers.2 i (search rules) in (d.0, d.1)

pub beside-requires-clause-workers : goal.beside-requires-clause-workers
beside-requires-clause-workers g c κs within = let packets = c.args.traffic.now.packets.now in let serves = g.J.Judge.serves c.args.traffic.now.judge.now in
    all_from (Serves serves packets) c.in_ok-workers.workers.items
    (worker_serves c.args.control.now c.args.readers.now.items c.requires.readers.2 _ _ c.in_ok-workers.workers.items c.in_ok-workers.ensures.workers.1 serves packets c.requires.judge c.requires.packets)

pub beside-requires-clause-fresh : goal.beside-requires-clause-fresh
beside-requires-clause-fresh g c κs within = let packets = c.args.traffic.now.packets.now in
    all_from (IsFresh (batches_of (length packets)) c.in_ok-counter.counter.shared.table_id) c.in_ok-workers.workers.items
    (λ i w e. subst (λ n. IsFresh n c.in_ok-counter.counter.shared.table_id w) c.batches-batches.ensures (c.in_ok-workers.ensures.workers.1.fresh i w e))

pub take_back-requires-clause-numbered : goal.take_back-requires-clause-numbered
take_back-requires-clause-numbered g c =
    worker_seated c.args.control.now c.args.readers.now.items c.requires.readers.2 _ _ c.in_ok-workers.workers.items c.in_ok-workers.ensures.workers.1 _ _ _ c.in_ok-events.workers.items c.in_ok-events.ensures.workers

pub meet_all-requires : goal.meet_all-requires
meet_all-requires g c = λ i d at.
    back_of c.args.control.now c.args.readers.now.items c.requires.readers.2 _ _ c.in_ok-workers.workers.items c.in_ok-workers.ensures.workers.1 _ _ _ c.in_ok-events.workers.items c.in_ok-events.ensures.workers
    c.hand_out.new.readers.items c.take_back.new.readers.items (λ k le. c.in_ok-workers.ensures.idle k (let n = c.in_ok-workers.ensures.workers.0 in omega (arith, n, le))) c.in_ok-lists.ensures.readers c.in_ok-workers.ensures.size i d at
    ∙ sym (advances c.args.keep_going c.args.steps.now c.args.control.now c.beside.new.control c.in_ok-events.events c.in_ok-events.ensures.steps).of_is

pub returns-clause-ready : goal.returns-clause-ready
returns-clause-ready g c = let end = c.beside.new.control in
    let go_on = advances c.args.keep_going c.args.steps.now c.args.control.now end c.in_ok-events.events c.in_ok-events.ensures.steps in
    subst (λ s. (length c.meet_all.new.readers.items ≡ length c.args.readers.now.items) × AllReady s c.meet_all.new.readers.items) (sym c.meet_all.ensures.same)
    (ready_again c.args.control.now c.args.readers.now.items c.requires.readers.2 _ _ c.in_ok-workers.workers.items c.in_ok-workers.ensures.workers.1 _ _ _ c.in_ok-events.workers.items c.in_ok-events.ensures.workers
    c.hand_out.new.readers.items c.take_back.new.readers.items (λ k le. c.in_ok-workers.ensures.idle k (let n = c.in_ok-workers.ensures.workers.0 in omega (arith, n, le))) c.in_ok-lists.ensures.readers c.in_ok-workers.ensures.size end go_on c.meet_all.new.readers.items c.meet_all.ensures.met)

pub returns-clause-moves : goal.returns-clause-moves
returns-clause-moves g c = let end = c.beside.new.control in
    let go_on = advances c.args.keep_going c.args.steps.now c.args.control.now end c.in_ok-events.events c.in_ok-events.ensures.steps in
    λ i d e at now. moved c.args.control.now c.args.readers.now.items c.requires.readers.2 _ _ c.in_ok-workers.workers.items c.in_ok-workers.ensures.workers.1 _ _ _ c.in_ok-events.workers.items c.in_ok-events.ensures.workers
    c.hand_out.new.readers.items c.take_back.new.readers.items (λ k le. c.in_ok-workers.ensures.idle k (let n = c.in_ok-workers.ensures.workers.0 in omega (arith, n, le))) c.in_ok-lists.ensures.readers c.in_ok-workers.ensures.size end go_on c.meet_all.new.readers.items c.meet_all.ensures.met i d e at now
    ∙ ap (λ (z : List (List Line)). d.moves + 2 * length (lines_of z i)) (sym c.in_ok-lists.ensures.lists)

pub returns-clause-lists : goal.returns-clause-lists
returns-clause-lists g c = let V = g.J.Judge.verdict c.args.traffic.now.judge.now in let packets = c.args.traffic.now.packets.now in let first = c.args.traffic.now.first in
    let workers = c.in_ok-workers.workers.items in let done = c.in_ok-events.workers.items in let after = c.beside.new.control.committed in let low = length c.args.control.now.committed in let threads = length c.args.readers.now.items in
    let dealt = c.in_ok-workers.ensures.workers in let worked = c.in_ok-events.ensures.workers in
    let drawn : c.take_back.new.place.me.0.drawn ≡ drawn_by done = c.in_ok-lists.ensures.drawn ∙ ap (λ m. m.0.drawn ++ drawn_by done) c.in_ok-workers.ensures.place.1 in
    let size = worked.size in let many = dealt.0 in let min_is = c.min-count.ensures in let batches = c.batches-batches.ensures in let some_reader = c.requires.readers.0 in let readers : c.len.result ≡ threads = search rules in
    let a = answers V packets first low after workers done worked
    (λ i v e. (dealt.1.thread_is i v e, ap (λ (z : List Generation). length z) (worker_ready c.args.control.now c.args.readers.now.items c.requires.readers.2 _ _ workers dealt.1 i v e).2))
    (λ i w e. c.meet_all.ensures.met.begun i w.reader (c.in_ok-lists.ensures.readers.back i w e))
    c.count_drawn.result (λ x. ap (times x) (sym drawn) ∙ c.count_drawn.ensures x) threads (omega (arith, size, many, min_is, readers)) (λ some_packet. omega (arith, size, many, min_is, readers, batches, some_reader, some_packet)) in
    subst (λ (z : List Generation × List (List Line)). AreAnswers V packets first threads low z.0 z.1) (λ t. (sym (ap (λ s. s.committed) c.meet_all.ensures.same) t, sym c.in_ok-lists.ensures.lists t)) a
