use Rattle.std.proofs.Common.{◌≡◌, ◌∙◌, ap, subst, ◌+◌, ◌-◌, ◌*◌, ◌≤◌, length, get_or, arith}
use Rattle.bit_rows.specs.Row.{bit, with_run}
use Rattle.bit_rows.proofs.Bits.{bit-zero}
use Rattle.mapping_table.proofs.WordLaws.{word-within}
use Rattle.fused_lookup.specs.Words.{IsNextBit, IsRunEnd, small_row}
use Rattle.fused_lookup.specs.Filled.{IsFilled}
use Rattle.fused_lookup.proofs.FillLaws.{no_span, run-spans, filled-bits, filled-rest}
use Rattle.fused_lookup.proofs.SmallLaws.{length-small}
use Rattle.fused_lookup.proofs.small.fill_small.Goals as goal

pub returns-then-word-eq0 : goal.returns-then-word-eq0
returns-then-word-eq0 c = λ row long is before.
    let start : 64 * c.args.i ≡ 64 * c.args.i + 0 = omega arith in
    filled-rest c.args.spans.now.items row c.args.i c.args.word 0 (small_row c.args.next) long is (omega arith) (λ k a b. ap (λ m. bit m k) c.if-word-eq0.true ∙ bit-zero k)
    (subst (λ n. IsFilled c.args.spans.now.items row n (small_row c.args.next)) start before)

pub bounds-word_spans-k : goal.bounds-word_spans-k
bounds-word_spans-k c =
    let next : IsNextBit c.args.word c.runs.from c.in-Some.k = c.in-Some.ensures in
    word-within c.args.spans.now.items c.word-word_spans.result.now c.args.i c.in-Some.k c.word-word_spans.ensures next.within (c.requires.rules.rule c.in-Some.k next.within next.set)

pub bounds-word_spans-end : goal.bounds-word_spans-end
bounds-word_spans-end c =
    let next : IsNextBit c.args.word c.runs.from c.in-Some.k = c.in-Some.ensures in
    let run : IsRunEnd c.args.word c.in-Some.k c.run_end-end.result = c.run_end-end.ensures in
    let some = run.some in
    let fits = run.within in
    let set = run.set (c.run_end-end.result - 1) (omega arith) (omega arith) in
    word-within c.args.spans.now.items c.word-word_spans.result.now c.args.i (c.run_end-end.result - 1) c.word-word_spans.ensures (omega arith) (c.requires.rules.rule (c.run_end-end.result - 1) (omega arith) set)

pub overflow_add-count : goal.overflow_add-count
overflow_add-count c =
    let are = run-spans c.args.spans.now.items c.word-word_spans.result.now c.args.i c.args.word c.in-Some.k c.run_end-end.result c.requires.chained c.word-word_spans.ensures c.requires.rules c.run_end-end.ensures in
    omega (arith, are.high, c.requires.inside (64 * c.args.i + (c.run_end-end.result - 1)) no_span are.inside)

pub overflow_sub-count : goal.overflow_sub-count
overflow_sub-count c =
    let are = run-spans c.args.spans.now.items c.word-word_spans.result.now c.args.i c.args.word c.in-Some.k c.run_end-end.result c.requires.chained c.word-word_spans.ensures c.requires.rules c.run_end-end.ensures in
    omega (arith, are.order)

pub with_ones-row-requires : goal.with_ones-row-requires
with_ones-row-requires c =
    let are = run-spans c.args.spans.now.items c.word-word_spans.result.now c.args.i c.args.word c.in-Some.k c.run_end-end.result c.requires.chained c.word-word_spans.ensures c.requires.rules c.run_end-end.ensures in
    omega (arith, are.high, are.order, c.requires.inside (64 * c.args.i + (c.run_end-end.result - 1)) no_span are.inside)

pub runs-preserved : goal.runs-preserved
runs-preserved c =
    let spans = c.args.spans.now.items in
    let k = c.in-Some.k in
    let end = c.run_end-end.result in
    let old = small_row c.runs.row in
    let new = small_row c.with_ones-row.result in
    let next : IsNextBit c.args.word c.runs.from k = c.in-Some.ensures in
    let run : IsRunEnd c.args.word k end = c.run_end-end.ensures in
    let are = run-spans spans c.word-word_spans.result.now c.args.i c.args.word k end c.requires.chained c.word-word_spans.ensures c.requires.rules run in
    let first = (get_or c.word-word_spans.result.now k no_span).first in
    let last = get_or c.word-word_spans.result.now (end - 1) no_span in
    let count = last.first + last.count - first in
    let wide = length-small c.runs.row in
    let inside : first + count ≤ length old = omega (arith, are.high, are.order, c.requires.inside (64 * c.args.i + (end - 1)) no_span are.inside, wide) in
    let made : new ≡ with_run old first count = c.with_ones-row.ensures in
    record {
      low = run.within;
      filled = λ row long is before.
          filled-bits spans row c.args.i c.args.word c.runs.from k end count old new c.requires.chained long is next run are.inside
          (omega (arith, are.low, are.high, are.order)) (omega (arith, are.high, are.order, inside)) (made ∙ ap (λ n. with_run old n count) are.low) (c.runs.invariant.filled row long is before);
    }

pub returns : goal.returns
returns c = λ row long is before.
    filled-rest c.args.spans.now.items row c.args.i c.args.word c.runs.from (small_row c.runs.row) long is c.runs.invariant.low c.in_default.ensures (c.runs.invariant.filled row long is before)
