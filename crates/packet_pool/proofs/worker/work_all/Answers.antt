use Rattle.std.proofs.Common.{rules, ◌≡◌, length, List, Some, Ok, Result, IfOk, ap, sym, ◌∙◌, subst, slice_get, option_map}
use lib.ListN.{length-map}
use Rattle.std.proofs.lemmas.Option.{slice_get_within, slice_get-map, get_or_from_slice_get}
use Rattle.std.proofs.lemmas.Result.{IfOk-weaker}
use Rattle.set_model.specs.declared.memory.Memory.{Memory}
use Rattle.packet_pool.specs.declared.worker.Worker.{Worker}
use Rattle.packet_pool.specs.Work.{HasWorked}
use Rattle.packet_pool.proofs.worker.work_all.Goals as goal

pub returns : goal.returns
returns g c =
    let V = g.J.Judge.verdict c.args.traffic.now.judge.now in let packets = c.args.traffic.now.packets.now in let first = c.args.traffic.now.first in
    let workers = c.args.workers.items in let done = c.in_ok-done.done.items in let len : length done ≡ length workers = search rules in
    IfOk-weaker c.all_done.result _ _
    (λ v same. record {
      size = sym (length-map v.items Ok) ∙ sym (ap length same) ∙ len;
      each = λ i a b at_a at_b.
          let at : slice_get done i ≡ Some (Ok b) = ap (λ (z : List (Result Worker Memory)). slice_get z i) same ∙ slice_get-map Ok v.items i ∙ ap (option_map Ok) at_b in
          let gave = (c.in_ok-done.ensures.each i (Ok b) (slice_get_within workers i a at_a)).1 in
          subst (λ j. HasWorked V packets first j b) (sym (gave.job_is a) ∙ get_or_from_slice_get workers i a a at_a)
          (subst (λ o. IfOk o (λ r. HasWorked V packets first gave.job r)) (get_or_from_slice_get done i (Ok b) (Ok b) at) gave.call.met);
    })
    c.all_done.ensures
