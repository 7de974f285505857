use Rattle.std.proofs.Common.{rules, ℕ, ◌≡◌, ◌+◌, ◌-◌, ◌*◌, ◌<◌, ◌++◌, min, length, length-append, length-set, map, take, drop, List, ap, sym, ◌∙◌, subst, arith, slice_index, slice_set}
use lib.ListN.{length-map}
use Rattle.set_model.specs.declared.report.Line.{Line}
use Rattle.packet_pool.specs.Work.{lines_of}
use Rattle.packet_pool.proofs.FilingLaws.{IsFiledTo, lines-at, goes_on, filed_more, filed_all, batch_fits, batch_length}
use Rattle.packet_pool.proofs.filing.file.Goals as goal

pub whose-from-requires-clause-there : goal.whose-from-requires-clause-there
whose-from-requires-clause-there c =
    let lists : List (List Line) = map (λ v. v.items) c.args.lists.now in let b = c.loop-batch.batch in let inv = c.loop-batch.invariant in let long = inv.long in
    let test = c.loop-batch-test.true in let batches = c.div_ceil-batch-end.ensures in let in_count : 16 * b < c.args.count = omega (arith, test, batches) in
    let found = goes_on c.args.first c.args.count lists c.requires.split b in_count c.loop-batch.lines.items c.loop-batch.next inv.filed (omega (arith, long, in_count)) in
    (found.0, omega (arith, found.1, length-map c.args.lists.now (λ v. v.items)), found.2)

pub slice_bounds-extend_from_slice-end : goal.slice_bounds-extend_from_slice-end
slice_bounds-extend_from_slice-end c =
    let lists : List (List Line) = map (λ v. v.items) c.args.lists.now in let b = c.loop-batch.batch in let inv = c.loop-batch.invariant in let long = inv.long in
    let test = c.loop-batch-test.true in let batches = c.div_ceil-batch-end.ensures in let in_count : 16 * b < c.args.count = omega (arith, test, batches) in
    let fits = batch_fits c.args.first c.args.count lists c.requires.split b in_count c.loop-batch.lines.items c.loop-batch.next inv.filed (omega (arith, long, in_count)) c.whose-from.result c.whose-from.ensures.next in
    let is = lines-at (λ v. v.items) c.args.lists.now c.whose-from.result c.index-lists-from.result c.whose-from.ensures.list c.index-lists-from.is ∙ sym c.as_slice-list.ensures.value in
    let size = c.min-size.ensures in omega (arith, fits, ap (λ (z : List Line). length z) is, size)

pub loop-batch-preserved : goal.loop-batch-preserved
loop-batch-preserved c =
    let lists : List (List Line) = map (λ v. v.items) c.args.lists.now in let b = c.loop-batch.batch in let inv = c.loop-batch.invariant in let long = inv.long in
    let test = c.loop-batch-test.true in let batches = c.div_ceil-batch-end.ensures in let in_count : 16 * b < c.args.count = omega (arith, test, batches) in let so_far : length c.loop-batch.lines.items ≡ 16 * b = omega (arith, long, in_count) in
    let i = c.whose-from.result in let next = c.loop-batch.next in let size = c.min-size.ensures in
    let filed = filed_more c.args.first c.args.count lists c.requires.split b in_count c.loop-batch.lines.items next inv.filed so_far i c.whose-from.ensures.next (search rules) in
    let is = lines-at (λ v. v.items) c.args.lists.now i c.index-lists-from.result c.whose-from.ensures.list c.index-lists-from.is ∙ sym c.as_slice-list.ensures.value in
    let was = c.loop-batch.lines.items in let at = slice_index next i in let most = min 16 (c.args.count - 16 * b) in
    let taken : at + c.min-size.result - at ≡ most = omega (arith, size) in
    let items : c.extend_from_slice.new.self.items ≡ was ++ take most (drop at (lines_of lists i)) =
    c.in_ok-extend_from_slice.ensures.items ∙ ap (λ n. was ++ take n (drop at c.as_slice-list.result.now)) taken ∙ ap (λ (z : List Line). was ++ take most (drop at z)) (sym is) in
    let long_batch = batch_length c.args.first c.args.count lists c.requires.split b in_count was next inv.filed so_far i c.whose-from.ensures.next in record {
      long = omega (arith, ap length items, length-append was (take most (drop at (lines_of lists i))), long_batch, so_far, in_count);
      many = length-set next i (at + c.min-size.result) ∙ inv.many;
      filed = subst (λ (z : List Line × List ℕ). IsFiledTo c.args.first c.args.count lists z.0 z.1) (λ t. (sym items t, slice_set next i (at + sym size t))) filed;
    }

pub returns : goal.returns
returns c = let batches = c.div_ceil-batch-end.ensures in let inv = c.loop-batch.invariant in let long = inv.long in let past = c.loop-batch-test.false in
    filed_all c.args.first c.args.count (map (λ v. v.items) c.args.lists.now) c.requires.split c.loop-batch.lines.items c.loop-batch.next inv.filed (omega (arith, batches, long, past))
