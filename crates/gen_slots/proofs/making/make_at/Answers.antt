use Rattle.std.proofs.Common.{rules, ap, ◌≡◌, ◌+◌, ◌*◌, ℕ, List, ◌∷◌, Option, Some, None, replicate, length, ◌∙◌, sym, subst, arith}
use Rattle.atomic_table.specs.Table.{opening}
use Rattle.gen_slots.specs.declared.board.Role.TheVariants.{Keeper}
use Rattle.gen_slots.specs.SlotRule.{Kept, starting, first_plan}
use Rattle.gen_slots.specs.SlotViews.{laid, states_of}
use Rattle.history_laws.specs.States.{AllAre}
use Rattle.history_laws.proofs.States.{first_state}
use Rattle.gen_slots.proofs.OpeningSteps.{starts, length-laid}
use Rattle.gen_slots.proofs.making.make_at.Goals as goal

pub new-made-requires : goal.new-made-requires
new-made-requires g c = let asked = c.requires.one_state in let first = c.args.first.items in let count = c.requires.count in let n = c.len-readers.result in let start = c.args.start in
    let size : n ≡ length first = search rules in
    let words : c.as_slice.result.now ≡ replicate (n + 3) (256 * start) = search rules in
    let berths : c.in_ok-berths.berths.items ≡ laid first = search rules in
    let one : asked.0 ≡ g.T.Version.state c.of.result.value = sym (first_state g.T.Version.state asked.0 first c.index.result.now asked.1 (omega arith)) ∙ ap g.T.Version.state (sym c.index.ensures ∙ sym c.of.ensures) in
    subst (λ (z : List ℕ × List (Option g.row.T.Denot)). Kept g.T.Version.state g.T.Version.follows start (opening z.0 z.1 (starting n start (g.T.Version.state c.of.result.value)))) (λ i. (sym words i, sym berths i))
    (starts g.T.Version.state g.T.Version.follows start n (g.T.Version.state c.of.result.value) first size (omega arith) (omega arith) c.requires.start (subst (λ (x : g.row.T-State.Denot). AllAre g.T.Version.state x first) one asked.1))

pub deal-requires-clause-table : goal.deal-requires-clause-table
deal-requires-clause-table g c = let first = c.args.first.items in let count = c.requires.count in
    let readers : c.len-readers.result ≡ length first = search rules in
    let berths : c.in_ok-berths.berths.items ≡ laid first = search rules in
    let long = ap length berths ∙ length-laid first in
    let slots : c.in-Ok.place.table_id.slots ≡ length c.in_ok-berths.berths.items = search rules in
    let words : c.in-Ok.place.table_id.words ≡ c.len-readers.result + 3 = search rules in
    (search rules, (omega (arith, long), omega (arith, long)), omega arith, search rules)

pub seated-requires-clause-table : goal.seated-requires-clause-table
seated-requires-clause-table g c = let first = c.args.first.items in let count = c.requires.count in
    let readers : c.len-readers.result ≡ length first = search rules in
    let berths : c.in_ok-berths.berths.items ≡ laid first = search rules in
    let long = ap length berths ∙ length-laid first in
    let slots : c.deal.new.place.table_id.slots ≡ length c.in_ok-berths.berths.items = search rules in
    let words : c.deal.new.place.table_id.words ≡ c.len-readers.result + 3 = search rules in
    (search rules, (omega (arith, long), omega (arith, long)), words, omega arith, omega arith)

pub returns-clause-slots : goal.returns-clause-slots
returns-clause-slots g c = let count = c.requires.count in let seated = c.seated.ensures in
    let started : c.in-Ok.place.me.0.role ≡ Keeper (first_plan c.len-readers.result c.args.start (g.T.Version.state c.of.result.value)) = search rules in (
      ap (λ s. s.published) seated,
      λ x all. let one = ap g.T.Version.state (c.of.ensures ∙ c.index.ensures) ∙ first_state g.T.Version.state x c.args.first.items c.index.result.now all (omega arith) in
          ap (λ s. s.states) seated ∙ (ap states_of (c.in_ok-passes.ensures.seat.3 _ started) ∙ ap (λ y. Some y ∷ replicate 17 None) one),
    )
