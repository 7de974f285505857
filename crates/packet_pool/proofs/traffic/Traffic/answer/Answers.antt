use Rattle.std.proofs.Common.{length, ap, refl, ◌∙◌, arith, slice_get}
use Rattle.packet_pool.proofs.Lists.{get_last}
use Rattle.packet_pool.proofs.traffic.Traffic.answer.Goals as goal

pub returns-clause-line : goal.returns-clause-line
returns-clause-line g c =
    let number = c.generation-generation.result in let place = c.generation-generation.ensures.place in let last = get_last c.enter-held.result.seen number place in
    let same = ap (λ r. r.seen) c.leave-reader.ensures ∙ ap (λ r. r.seen) c.judge-verdict.ensures.same in let size = ap length same in (
      _,
      c.push_reserved.ensures.items,
      record {
        names = refl;
        thread_is = refl;
        packet = c.at-packet.result.now;
        packet_is = c.at-packet.ensures;
        is_late = omega (arith, size, place);
        answer = (last.0, ap (λ seen. slice_get seen number) same ∙ last.1, c.judge-verdict.ensures.answer last.0 last.2);
      },
      omega (arith, size, place),
    )
