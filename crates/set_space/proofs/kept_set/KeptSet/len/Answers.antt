use Rattle.std.proofs.Common.{◌≡◌, ◌∙◌, ap, length, arith}
use Rattle.set_model.specs.SetState.{State}
use Rattle.set_space.specs.KeptSet.{gaps_before}
use Rattle.set_space.proofs.GapLaws.{gaps_and_others}
use Rattle.set_space.proofs.kept_set.KeptSet.len.Goals as goal

pub overflow_sub-result : goal.overflow_sub-result
overflow_sub-result c =
    let lazy = c.self.inside.lazy in
    let all = c.len-count.ensures ∙ ap length c.elements.ensures.same in
    let before : c.gaps_before.result ≡ gaps_before lazy.passed lazy.image c.len-count.result = c.gaps_before.ensures lazy.passed lazy.image c.self.invariant (omega (arith, all)) in
    let both = gaps_and_others lazy.passed lazy.image in
    omega (arith, both, all, before, ap (gaps_before lazy.passed lazy.image) all)

pub returns : goal.returns
returns c =
    let lazy = c.self.inside.lazy in
    let all = c.len-count.ensures ∙ ap length c.elements.ensures.same in
    let before : c.gaps_before.result ≡ gaps_before lazy.passed lazy.image c.len-count.result = c.gaps_before.ensures lazy.passed lazy.image c.self.invariant (omega (arith, all)) in
    let both = gaps_and_others lazy.passed lazy.image in
    let set = ap (λ (s : State). length s.elements) c.self.view_is in
    omega (arith, both, all, before, ap (gaps_before lazy.passed lazy.image) all, set)
