use Rattle.std.proofs.Common.{refl, ◌∙◌, append-nil, ◌<◌, ◌++◌, take, length, length-append, length-take, arith}
use Rattle.lookup_table.proofs.MarkLaws.{size-both, rules-step, cells-both, cells-fewer, only-none, only-more, same-size}
use Rattle.std.proofs.lemmas.List.{get_or_default}
use Rattle.lookup_table.proofs.marks.mark_blocks.Goals as goal

pub rules-init : goal.rules-init
rules-init c = record { size = same-size _; kept = record { cells = λ j i h. refl }; only = only-none _ _ _ _ _ c.requires.fresh; rules = λ before long has. rw (append-nil before) has; own = refl }

pub rules-preserved : goal.rules-preserved
rules-preserved c = record {
  size = size-both c.args.buckets.now.rows c.rules.buckets.rows c.mark_block.new.buckets.rows c.rules.invariant.size c.mark_block.ensures.size;
  kept = cells-both _ _ _ _ c.rules.invariant.kept (cells-fewer _ _ _ _ (omega arith) c.mark_block.ensures.kept);
  only = only-more c.args.width c.args.bits c.args.first c.rules.i _ c.args.blocks.now c.rules.buckets.rows c.mark_block.new.buckets.rows (get_or_default c.args.blocks.now c.rules.i _ (record { base = 0; free_bits = 0 }) (omega arith)) c.mark_block.ensures.marked c.rules.invariant.only;
  rules = λ before long has.
      let within : c.rules.i < length c.args.blocks.now = omega arith in
      rules-step c.args.width c.args.bits c.rules.i _ c.args.blocks.now before c.args.buckets.now.rows c.rules.buckets.rows c.mark_block.new.buckets.rows within
      (c.mark_block.ensures.rules (before ++ take c.rules.i c.args.blocks.now) (omega (arith, length-append before (take c.rules.i c.args.blocks.now), length-take c.rules.i c.args.blocks.now))) (c.rules.invariant.rules before long has);
  own = c.mark_block.ensures.own ∙ c.rules.invariant.own;
}
