use Rattle.std.proofs.Common.{◌≡◌, ◌∙◌, sym, ap, ◌+◌, ◌*◌, ◌||◌, ℕ, suc, Bool, slice_index, arith}
use Rattle.bit_rows.specs.Row.{bit}
use Rattle.bit_rows.proofs.Bits.{bit-or, bit-zero}
use Rattle.field_groups.specs.Groups.{some_from}
use Rattle.lookup_table.proofs.sharing.joined.Goals as goal

pub lines-init : goal.lines-init
lines-init c = λ k. bit-zero k

pub lines-preserved : goal.lines-preserved
lines-preserved c = λ k.
    let p = λ (j : ℕ). bit (slice_index c.args.words.now (j * 8 + c.args.w)) k in
    let more : c.lines.j + 1 ≡ suc c.lines.j = omega arith in
    bit-or c.lines.some _ k ∙ ap (λ t. t || p (c.args.first + c.lines.j)) (c.lines.invariant k) ∙ ap (some_from p c.args.first) (sym more)

pub returns : goal.returns
returns c = λ k.
    let p = λ (j : ℕ). bit (slice_index c.args.words.now (j * 8 + c.args.w)) k in
    let all : c.lines.j ≡ c.args.n = omega arith in
    c.lines.invariant k ∙ ap (some_from p c.args.first) all
