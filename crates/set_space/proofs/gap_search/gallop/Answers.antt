use Rattle.std.proofs.Common.{◌≡◌, ◌∙◌, ap, length, arith}
use Rattle.set_space.proofs.GapLaws.{all_before}
use Rattle.set_space.proofs.gap_search.gallop.Goals as goal

pub steps-init : goal.steps-init
steps-init c =
    let all : c.len-count.result ≡ length c.args.lazy.now.image.elements = c.len-count.ensures ∙ ap length c.elements.ensures.same in
    record {
      all = all;
      few = c.requires.few;
      more = rw all (all_before c.args.lazy.now.passed c.args.lazy.now.image c.args.i c.requires.element);
      within = omega (arith, all, c.requires.within);
      some = omega arith;
      short = omega (arith, all, c.requires.within);
    }
