use Rattle.std.proofs.Common.{◌<◌, ◌∙◌, refl, length, arith}
use Rattle.lookup_table.proofs.SummaryLaws.{keeps-none, keeps-both, rules-none, rules-more}
use Rattle.lookup_table.proofs.summary.mark_added.Goals as goal

pub rules-init : goal.rules-init
rules-init c = record { kept = keeps-none _; pages = c.requires.pages; own = refl; room = refl; marked = rules-none _ _ _ _ _ }

pub rules-preserved : goal.rules-preserved
rules-preserved c =
    let within : c.rules.i < length c.args.added.now = omega arith in
    record {
      kept = keeps-both _ _ _ c.rules.invariant.kept c.set_mark.ensures.kept;
      pages = c.set_mark.ensures.pages;
      own = c.set_mark.ensures.own ∙ c.rules.invariant.own;
      room = c.set_mark.ensures.room ∙ c.rules.invariant.room;
      marked = rules-more c.args.unit c.args.bits c.args.first c.rules.i _ c.args.added.now c.rules.pages.items _ within c.set_mark.ensures.kept c.set_mark.ensures.marked c.rules.invariant.marked;
    }
