use Rattle.std.proofs.Common.{◌≡◌, ◌+◌, length, length-append, ◌∷◌, ◌++◌, [], ap, sym, ◌∙◌, subst, arith}
use Rattle.history_laws.proofs.Prefixes.{begins_all, starts_through}
use Rattle.packet_pool.specs.Work.{Told, Before, named}
use Rattle.packet_pool.proofs.Telling.{told_more, before_more, named-push, one_more, one_batch}
use Rattle.packet_pool.proofs.traffic.Traffic.answer_batch.Goals as goal

pub loop-place-preserved : goal.loop-place-preserved
loop-place-preserved g c =
    let i = c.loop-place.invariant in let e = c.answer-reader.ensures in let line = e.line.0 in let is_line = e.line.2 in let was = c.loop-place.lines.items in
    let place = c.loop-place.place in let first = c.args.self.now.first in let names = is_line.names in
    let items : c.answer-reader.new.lines.items ≡ was ++ line ∷ [] = e.line.1 in let size = ap length items in let one = length-append was (line ∷ []) in
    let old_before = i.before in let here : Before line.packet was = λ k l f. let b = old_before k l f in omega (arith, b, names) in record {
      seen = starts_through _ _ _ e.seen i.seen;
      same = (e.same.0 ∙ i.same.0, e.same.1 ∙ i.same.1, e.same.2 ∙ i.same.2);
      moves = let a = e.moves in let b = i.moves in omega (arith, a, b, size, one);
      room = let a = i.room in let b = e.room in omega (arith, a, b, size, one);
      told = λ low most t. subst (Told (g.J.Judge.verdict c.args.self.now.judge.now) c.args.self.now.packets.now first c.args.thread low c.answer-reader.result.seen) (sym items)
          (told_more (g.J.Judge.verdict c.args.self.now.judge.now) c.args.self.now.packets.now first c.args.thread low _ _ e.seen (let a = begins_all _ _ i.seen in omega (arith, most, a)) was place line is_line e.line.3 here (i.told low most t));
      before = subst (Before (first + (place + 1))) (sym items) (before_more (first + place) (first + (place + 1)) was line i.before (omega arith) (omega (arith, names)));
      named = λ p l. let a = ap (named (first + p)) items in let b = named-push (first + p) was line in let o = one_more first place p line.packet names in let n = i.named p l in omega (arith, a, b, o, n);
    }

pub returns-clause-named : goal.returns-clause-named
returns-clause-named g c = λ p l.
    let n = c.loop-place.invariant.named p l in let most = c.loop-place.auto.place-end in let past = c.loop-place-test.false in let end = c.min.ensures in let size = c.len.ensures in
    let b = one_batch p c.args.batch c.loop-place.place (length c.args.self.now.packets.now) l c.requires.batch (omega (arith, most, past, end, size)) in
    omega (arith, n, b, ap (λ v. named (c.args.self.now.first + p) v) c.in_ok-reserve.ensures.items)
