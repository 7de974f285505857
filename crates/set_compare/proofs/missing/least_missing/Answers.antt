use Rattle.std.proofs.Common.{◌≡◌, sym, ◌∙◌, subst, None, [], take, ◌+◌, true, false}
use Rattle.set_model.specs.Expiry.{live}
use Rattle.set_compare.specs.declared.search.Search.{Search}
use Rattle.set_compare.specs.Search.{IsSearched, live_regions}
use Rattle.set_compare.proofs.SearchLaws.{searched-next, searched-past}
use Rattle.set_compare.proofs.missing.least_missing.Goals as goal
use Rattle.set_compare.proofs.missing.least_missing.Goals.{then-is_live+in_ok-look_up, else-is_live}

pub elements-preserved : goal.elements-preserved
elements-preserved c =
    let P : Search → Type 0 = λ z. IsSearched c.args.other.now c.args.other_at None (live_regions (take (c.elements.i + 1) c.args.held.now.elements) c.args.at) z.least [] in
    let Q : Search → Type 0 = λ z. z.rest.items ≡ [] in
    elim c.if-is_live.branch [
      | then-is_live+in_ok-look_up w ↦
          let alive : live c.at-element.result.now c.args.at ≡ true = sym c.is_live.ensures ∙ w.if-is_live.true in
          record {
            searched = subst P (sym w.search-is)
                (searched-next c.args.other.now c.args.other_at c.args.at c.elements.i c.elements.search.least w.look_up.new.self.least c.args.held.now.elements c.elements-elements.result.now c.at-element.result.now w.as_slice.result.now
                c.elements.invariant.searched c.elements-elements.ensures.same c.at-element.ensures alive w.as_slice.ensures w.in_ok-look_up.ensures.found);
            done = subst Q (sym w.search-is) w.in_ok-look_up.ensures.done;
          }
      | else-is_live w ↦
          let dead : live c.at-element.result.now c.args.at ≡ false = sym c.is_live.ensures ∙ w.if-is_live.false in
          record {
            searched = subst P (sym w.search-is)
                (searched-past c.args.other.now c.args.other_at c.args.at c.elements.i c.elements.search.least c.args.held.now.elements c.elements-elements.result.now c.at-element.result.now c.elements.invariant.searched
                c.elements-elements.ensures.same c.at-element.ensures dead);
            done = subst Q (sym w.search-is) c.elements.invariant.done;
          }
    ]
