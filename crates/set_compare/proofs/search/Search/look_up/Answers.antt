use Rattle.std.proofs.Common.{[], ◌∷◌}
use Rattle.set_compare.specs.Search.{total_volume}
use Rattle.set_compare.proofs.SearchLaws.{searched-step, fit-step, volume-step}
use Rattle.set_compare.proofs.search.Search.look_up.Goals as goal

pub regions-smaller : goal.regions-smaller
regions-smaller c =
    volume-step c.regions.self.rest.items c.pop.new.self.items c.in-Some.region (total_volume c.examine.new.self.rest.items) c.in-Some.ensures.items c.in_ok-examine.ensures.fewer

pub regions-preserved : goal.regions-preserved
regions-preserved c = record {
  searched =
      searched-step c.args.other.now c.args.now c.args.self.now.least c.regions.self.least c.examine.new.self.least (c.args.parts.now ∷ []) c.regions.self.rest.items c.pop.new.self.items c.examine.new.self.rest.items c.in-Some.region
      c.regions.invariant.searched c.in-Some.ensures.items c.in_ok-examine.ensures.searched;
  fit = c.in_ok-examine.ensures.fit c.args.other.now.kinds (fit-step c.args.other.now.kinds c.regions.self.rest.items c.pop.new.self.items c.in-Some.region c.in-Some.ensures.items c.regions.invariant.fit);
}
