use Rattle.std.proofs.Common.{◌≡◌, ◌+◌, ◌-◌, ◌<◌, arith, length, None, [], take}
use Rattle.set_model.specs.declared.element.Element.{Element}
use Rattle.set_model.specs.SetState.{field_rules}
use Rattle.set_tables.specs.Tables.{split}
use Rattle.pipapo_image.proofs.ImageGrowth.{image-kept}
use Rattle.pipapo_image.proofs.Renewal.{renewal, rules-next}
use Rattle.pipapo_image.proofs.image.SetImage.renew.Goals as goal

pub overflow_add-i : goal.overflow_add-i
overflow_add-i c =
    let h : c.args.i < length c.self.inside.elements = rw (← c.self.view_is) at c.requires in
    omega (arith, c.len-elements.ensures)

pub overflow_sub-n : goal.overflow_sub-n
overflow_sub-n c =
    let kinds = c.self.inside.kinds in
    let es = c.self.inside.elements in
    let d : Element = record { id = 0; parts = []; expiry = None; comment = [] } in
    let h : c.args.i < length es = rw (← c.self.view_is) at c.requires in
    let a = c.rules_before-first.ensures.rules kinds es c.self.invariant.tables.ends in
    let b = c.rules_before-end.ensures.rules kinds es c.self.invariant.tables.ends in
    let r = rules-next (split kinds (length kinds - 1)) es c.args.i d h in
    omega arith

pub invariant_of-self-2 : goal.invariant_of-self-2
invariant_of-self-2 c =
    let kinds = c.self.inside.kinds in
    let es = c.self.inside.elements in
    let d : Element = record { id = 0; parts = []; expiry = None; comment = [] } in
    let h : c.args.i < length es = rw (← c.self.view_is) at c.requires in
    let a = c.rules_before-first.ensures.rules kinds es c.self.invariant.tables.ends in
    let b = c.rules_before-end.ensures.rules kinds es c.self.invariant.tables.ends in
    let r = rules-next (split kinds (length kinds - 1)) es c.args.i d h in
    let up : c.rules_before-first.result + (c.rules_before-end.result - c.rules_before-first.result) ≡ length (field_rules kinds (length kinds - 1) (take (c.args.i + 1) es)) = omega arith in
    rw c.in_ok-set_expiry.ensures.ok (renewal kinds es c.own_ends.new.self c.args.i c.rules_before-first.result _ c.args.expiry c.set_expiry-2.new.self
    (image-kept kinds es c.self.inside.index c.own_ends.new.self c.self.invariant c.own_ends.ensures.kept) h a up c.set_expiry-2.ensures.items)

pub invariant_of-self : goal.invariant_of-self
invariant_of-self c = image-kept c.self.inside.kinds c.self.inside.elements c.self.inside.index c.own_ends.new.self c.self.invariant c.own_ends.ensures.kept

pub invariant_of-self-in_err-set_expiry : goal.invariant_of-self-in_err-set_expiry
invariant_of-self-in_err-set_expiry c =
    rw c.in_err-set_expiry.ensures.err (image-kept c.self.inside.kinds c.self.inside.elements c.self.inside.index c.own_ends.new.self c.self.invariant c.own_ends.ensures.kept)
