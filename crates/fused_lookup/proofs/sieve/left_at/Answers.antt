use Rattle.std.proofs.Common.{◌∙◌, ap, ◌+◌, ◌*◌, ◌&&◌, get_or, bit_and}
use Rattle.bit_rows.specs.Row.{bit}
use Rattle.bit_rows.proofs.Bits.{bit-and}
use Rattle.fused_lookup.proofs.sieve.left_at.Goals as goal

pub returns : goal.returns
returns c = λ k h.
    let a = get_or c.args.words.now (c.args.buckets.fourth * 8 + c.args.w) 0 in
    let b = get_or c.args.words.now (c.args.buckets.third * 8 + c.args.w) 0 in
    let d = get_or c.args.words.now (c.args.buckets.second * 8 + c.args.w) 0 in
    let e = get_or c.args.words.now (c.args.buckets.last * 8 + c.args.w) 0 in
    bit-and (bit_and (bit_and a b) d) e k
    ∙ ap (λ t. t && bit e k) (bit-and (bit_and a b) d k ∙ ap (λ t. t && bit d k) (bit-and a b k))
