use Rattle.std.proofs.Common.{rules, arith, ◌≡◌, ℕ, ◌+◌, ◌-◌, List, [], ◌∷◌, ◌++◌, sym, refl, subst, ap, ◌∙◌, get_or, set, Some, None}
use Rattle.history_laws.specs.Histories.{EndsWith}
use Rattle.gen_slots.specs.SlotSteps.{berths}
use Rattle.gen_slots.specs.SlotViews.{found_plan, checks_of}
use Rattle.gen_slots.proofs.SlotStates.{states_after, stored_as}
use Rattle.gen_slots.proofs.WriterSteps.{publishes}
use Rattle.gen_slots.proofs.publisher.Writer.publish.Goals as goal

pub swap-found-requires : goal.swap-found-requires
swap-found-requires g c = let inv = c.self.invariant in let pl = inv.7 in let found = c.find-slot.ensures.seat.2 pl.0 pl.1 in let put = c.refill.ensures.seat.2 in let asked = c.requires.values in (
  search rules,
  search rules,
  publishes g.T.Version.state g.T.Version.follows _ _ _ _ (found_plan pl.0 c.find-slot.result found.0 found.1) c.find-slot.result _ asked.1.0 c.args.berths.now.items (ap (λ m. m.0.role) put ∙ found.3) refl (ap (λ m. m.1) put)
      (asked.0 ∙ (sym (ap (λ s. s.readers) c.self.view_is) ∙ sym pl.2)) asked.1.1 (λ y e. c.requires.next asked.1.0 y asked.1.1 (subst (λ z. EndsWith z y) (ap (λ m. m.0.seen) put ∙ (c.find-slot.ensures.seat.1 ∙ ap (λ s. s.made) c.self.view_is)) e)) (ap (λ (z : List ℕ). get_or z c.find-slot.result 0 + c.find-slot.result) (sym pl.4)) (let a = inv.8 c.find-slot.result in let b = c.find-slot.ensures.slot.0 in let h = c.self.ranges in let m = inv.3 in search rules),
)

pub returns-clause-made : goal.returns-clause-made
returns-clause-made g c = let pl = c.self.invariant.7 in let found = c.find-slot.ensures.seat.2 pl.0 pl.1 in let put = c.refill.ensures.seat.2 in let slot = c.find-slot.result in let view = c.self.view_is in λ x shows.
    let now = c.swap-found.ensures.2.3 (found_plan pl.0 slot found.0 found.1) (ap (λ m. m.0.role) put ∙ found.3) in
    let index : slot + 1 - 1 ≡ slot = omega arith in
    let did = now.2 x c.args.berths.now.items (ap (λ m. m.1) put ∙ ap (λ (i : ℕ). berths i 0 c.args.berths.now.items) (sym index)) (search (arith, rules)) shows in
    let made = did.2 ∙ ap (λ z. z ++ x ∷ []) (ap (λ m. m.0.seen) put ∙ (c.find-slot.ensures.seat.1 ∙ ap (λ s. s.made) view)) in
    let table = c.swap-found.ensures.0 ∙ (c.refill.ensures.seat.0 ∙ (c.find-slot.ensures.seat.0 ∙ ap (λ s. s.of) view)) in
    let states = states_after pl.0 now.0 slot x _ _ pl.1 now.1 did.1 ∙ ap (λ z. set z slot (Some x)) (ap (λ s. s.states) view) in
    λ i. record { of = table i; made = made i; readers = (view i).readers; start = (view i).start; checks = checks_of c.swap-found.new.seat.me.0.role; published = slot; states = states i }

pub returns-clause-stored : goal.returns-clause-stored
returns-clause-stored g c = let found = c.find-slot.ensures.berths in let view = c.self.view_is in
    stored_as g.T.Version.state _ _ _ _ _ _ c.find-slot.result found.0 _ found.1 found.2 (ap (λ s. s.made) view) (ap (λ s. s.readers) view) (ap (λ s. get_or s.states c.find-slot.result None) view) (search rules)
