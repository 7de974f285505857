use Rattle.std.proofs.Common.{◌-◌, ◌∷◌, [], length, ap, arith}
use Rattle.std.proofs.lemmas.List.{length-append}
use Rattle.std.proofs.lemmas.Option.{slice_get_within}
use Rattle.desk_run.proofs.Taking.{one_taken}
use Rattle.desk_run.proofs.order.take_last.Goals as goal

pub loop-preserved : goal.loop-preserved
loop-preserved c =
    let section = c.loop.section in let i = c.len-in-loop.result - 1 in let len = c.len-in-loop.ensures in
    let within = slice_get_within section i c.remove.result c.remove.ensures.item in let more = c.in_ok-push.ensures.items in
    let long = ap length more in let sum = length-append c.loop.last.items (c.remove.result ∷ []) in let size = c.loop.invariant.size in record {
      whole = one_taken c.args.section.now section c.remove.new.self c.loop.last.items c.push.new.self.items c.remove.result i (omega (arith, len, within)) c.loop.invariant.whole c.remove.ensures.item c.remove.ensures.others more;
      size = omega (arith, long, sum, size);
    }
