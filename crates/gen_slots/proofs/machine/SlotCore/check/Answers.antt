use Rattle.std.proofs.Common.{◌≡◌, ◌+◌, ◌<◌, arith, rules, subst, sym}
use Rattle.gen_slots.specs.declared.machine.Standing.TheVariants.{Retired}
use Rattle.gen_slots.specs.SlotMachine.{Machine, machine, standing_of, holders}
use Rattle.gen_slots.proofs.HolderLaws.{unheld, checked-kept, counts_agree}
use Rattle.gen_slots.proofs.machine.SlotCore.check.Goals as goal

pub invariant_of-self : goal.invariant_of-self
invariant_of-self c = let i = c.self.inside in let m : Machine = machine i.readers i.published i.done.items i.entered.items i.standing.items i.held.items in
    let v : c.args.self.now ≡ m = sym c.self.view_is in
    let low : c.args.slot < m.readers + 2 = subst (λ (m : Machine). c.args.slot < m.readers + 2) v c.requires.number in
    let wide = c.self.invariant.wide in
    let same = counts_agree m c.args.slot c.index.result.now c.index-2.result.now wide.0 wide.1 low c.index.ensures c.index-2.ensures (omega (arith, c.if-unheld.true)) in
    checked-kept m c.args.slot c.self.invariant low (subst (λ (m : Machine). standing_of m c.args.slot ≡ Retired) v c.requires.retired) same

pub returns-then-unheld-clause-nobody : goal.returns-then-unheld-clause-nobody
returns-then-unheld-clause-nobody c = let i = c.self.inside in let m : Machine = machine i.readers i.published i.done.items i.entered.items i.standing.items i.held.items in
    let v : c.args.self.now ≡ m = sym c.self.view_is in
    let low : c.args.slot < m.readers + 2 = subst (λ (m : Machine). c.args.slot < m.readers + 2) v c.requires.number in
    let wide = c.self.invariant.wide in
    let same = counts_agree m c.args.slot c.index.result.now c.index-2.result.now wide.0 wide.1 low c.index.ensures c.index-2.ensures (omega (arith, c.if-unheld.true)) in
    ((λ _. subst (λ (m : Machine). holders m c.args.slot ≡ 0) (sym v) ((unheld m c.args.slot c.self.invariant low).0 same)), (λ _. search rules))
