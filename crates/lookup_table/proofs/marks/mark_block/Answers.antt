use Rattle.std.proofs.Common.{◌≡◌, refl, ◌<◌, ◌^◌, ◌∙◌, ◌/◌, arith}
use Rattle.lookup_table.proofs.MarkLaws.{size-lengths, block_marked-more, rules-more, run-within, code-first, code-count, cells-marked, block_marked-none}
use Rattle.lookup_table.proofs.marks.mark_block.Goals as goal

pub mark-requires-clause-within : goal.mark-requires-clause-within
mark-requires-clause-within c =
    let small : c.groups.g < 2 ^ 32 = omega arith in
    let first = code-first c.args.width c.args.bits c.groups.g _ _ c.args.block c.requires.groups.eight small c.group_mask-base.ensures.base c.group_mask-base.ensures.mask in
    let count = code-count c.args.width c.args.bits c.groups.g _ c.args.block c.requires.groups.eight c.group_mask-base.ensures.mask in
    omega (arith, first, count, run-within c.args.width c.args.bits c.groups.g c.args.block c.groups.buckets.rows (c.groups.invariant.marked.size.long ∙ c.requires.count) c.groups-test.true)

pub mark-requires-clause-place : goal.mark-requires-clause-place
mark-requires-clause-place c = size-lengths (λ n. c.args.r < n) c.args.buckets.now.rows c.groups.buckets.rows c.groups.invariant.marked.size c.requires.place

pub groups-init : goal.groups-init
groups-init c = record { marked = block_marked-none _ _ _ _ _; kept = record { cells = λ j i h. refl }; own = refl }

pub groups-preserved : goal.groups-preserved
groups-preserved c =
    let small : c.groups.g < 2 ^ 32 = omega arith in
    let first = code-first c.args.width c.args.bits c.groups.g _ _ c.args.block c.requires.groups.eight small c.group_mask-base.ensures.base c.group_mask-base.ensures.mask in
    let count = code-count c.args.width c.args.bits c.groups.g _ c.args.block c.requires.groups.eight c.group_mask-base.ensures.mask in
    record {
      marked = block_marked-more c.args.width c.args.bits c.groups.g c.args.block c.args.r _ _ c.args.buckets.now.rows c.groups.buckets.rows c.mark.new.self.rows (cc first) (cc (first, count)) c.mark.ensures.rows c.groups.invariant.marked;
      kept = cells-marked _ _ _ _ _ _ _ (omega arith) c.groups.invariant.kept c.mark.ensures.rows;
      own = c.mark.ensures.own ∙ c.groups.invariant.own;
    }

pub returns-clause-marked : goal.returns-clause-marked
returns-clause-marked c =
    let all : c.groups.g ≡ c.args.bits / c.args.width = omega arith in
    rw all at c.groups.invariant.marked

pub returns-clause-rules : goal.returns-clause-rules
returns-clause-rules c = λ before long has.
    let all : c.groups.g ≡ c.args.bits / c.args.width = omega arith in
    rules-more c.args.width c.args.bits c.args.r c.args.block c.args.buckets.now.rows c.groups.buckets.rows before c.requires.block (rw all at c.groups.invariant.marked) long has
