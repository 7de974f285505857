use Rattle.std.proofs.Common.{rules, ◌≡◌, ◌++◌, ◌∷◌, ◌∙◌, sym, replicate, Some, None}
use Rattle.gen_slots.specs.SlotViews.{laid}
use Rattle.gen_slots.proofs.OpeningSteps.{laid-snoc}
use Rattle.gen_slots.proofs.making.lay.Goals as goal

pub loop-value-preserved : goal.loop-value-preserved
loop-value-preserved g c = let longer : c.lay_one.new.berths.items ≡ laid c.loop-value.yielded ++ Some c.in-Some.value ∷ replicate 31 None = search rules in
    longer ∙ sym (laid-snoc c.loop-value.yielded c.in-Some.value)
