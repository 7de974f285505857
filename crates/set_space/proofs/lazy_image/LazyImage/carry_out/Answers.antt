use Rattle.std.proofs.Common.{ap, length, arith}
use Rattle.set_model.specs.SetState.{State}
use Rattle.set_space.specs.Staying.{staying}
use Rattle.set_space.proofs.LazyLaws.{staying_fewer}
use Rattle.set_space.proofs.lazy_image.LazyImage.carry_out.Goals as goal

pub overflow_add-self : goal.overflow_add-self
overflow_add-self c =
    let p = c.args.self.now.passed in
    let fewer = staying_fewer p c.carry_out.new.self in
    let same = ap (λ (s : State). length (staying p s).elements) c.in_ok-came.ensures.left in
    let grows = c.requires.grows in
    let few = c.elements-elements.ensures.few in
    let added = c.added_by-added.ensures in
    omega (arith, fewer, same, grows, few, added)
