use Rattle.std.proofs.Common.{sym, ◌∙◌, arith}
use Rattle.fused_lookup.proofs.WindowLaws.{untouched-more}
use Rattle.fused_lookup.proofs.window.Window.next_word.Goals as goal

pub returns-then-is_touched : goal.returns-then-is_touched
returns-then-is_touched c = record {
  from_on = c.passed.invariant.low;
  within = c.passed-test.true;
  touched = sym c.is_touched.ensures ∙ c.if-is_touched.true;
  least = c.passed.invariant.none;
}

pub passed-preserved : goal.passed-preserved
passed-preserved c = record {
  low = omega (arith, c.passed.invariant.low);
  none = untouched-more c.args.self c.args.from c.passed.i c.passed.invariant.none (sym c.is_touched.ensures ∙ c.if-is_touched.false);
}
