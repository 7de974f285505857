use Rattle.std.proofs.Common.{◌∙◌, arith}
use Rattle.std.proofs.Math.Seq.{take-add}
use Rattle.pip_base.proofs.Bytes.{appends-more, rest-cut}
use Rattle.pip_base.proofs.whole.write_whole.Goals as goal

pub pieces-preserved : goal.pieces-preserved
pieces-preserved g c = record {
  within = omega (arith, c.in-Ok.ensures);
  taken =
      rw (take-add c.pieces.from c.in-Ok.n c.args.piece.now)
      (appends-more _ _ _ _ _ c.pieces.invariant.taken (rw rest-cut at c.in-Ok.ensures.bytes));
  faults = c.in-Ok.ensures.cause.kept ∙ c.pieces.invariant.faults;
}
