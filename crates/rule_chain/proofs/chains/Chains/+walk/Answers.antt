use Rattle.std.proofs.Common.{◌≡◌, ◌∙◌, refl, sym, ap, subst, take, None, Some, slice_get, arith}
use Rattle.std.specs.List.{list_all}
use Rattle.std.proofs.lemmas.Option.{slice_get-get_or}
use Rattle.set_model.specs.Control.{Generation}
use Rattle.rule_chain.specs.Chains.{Rules, AreChains, rule_count}
use Rattle.rule_chain.specs.Judged.{fits_rule, meets_test, decision_of}
use Rattle.rule_chain.proofs.JudgedLaws.{walk_begins, next_unfit, next_passed, one_more_mark, marked, nothing_there}
use Rattle.rule_chain.proofs.chains.Chains.+walk.Goals.{then-meets_all+in-Jump+then-not-passed-place+else-is_some, then-meets_all+in-Jump+else-not-passed-place, else-meets_all}
use Rattle.rule_chain.proofs.chains.Chains.+walk.Goals as goal

pub rules-init : goal.rules-init
rules-init g t c =
    let view = c.self.view_is in
    let chains : c.self.inside.chains ≡ c.args.self.now.chains = ap (λ (z : Rules). z.chains) view in
    let sound = subst (λ (z : Rules). AreChains z.schema z.chains) view c.self.invariant in
    let at = ap (λ z. slice_get z c.args.chain) (sym chains) ∙ c.at.ensures in
    let first = c.count_rules-first.ensures ∙ ap (λ z. rule_count (take c.args.chain z)) (c.as_slice.ensures ∙ chains) in record {
      same = refl;
      size = c.requires.size;
      number = omega arith;
      ahead = λ x on. walk_begins c.args.self.now (fits_rule c.args.self.now.schema x c.args.packet.now) c.args.chain c.at.result.now c.count_rules-first.result c.as_slice-rules.result.now sound at first c.as_slice-rules.ensures;
      passed = c.requires.passed;
    }

pub rules-preserved : goal.rules-preserved
rules-preserved g t c =
    let i = c.rules.invariant in
    let schema = ap (λ (z : Rules). z.schema) c.self.view_is in
    let test = c.rules-test.true in
    let end = c.rules.auto.rule-index-end in
    let rules = c.as_slice-rules.result.now in
    let rule = c.rule-item.result in
    let at : slice_get rules c.rules.rule-index ≡ Some rule = slice_get-get_or rules c.rules.rule-index rule (omega (arith, test, end)) ∙ ap (λ z. Some z) (sym c.rule-item.is) in
    let earlier_state = c.meets_all.ensures.same in
    let fitting : (x : Generation) → g.L.Lookups.looks_in (g.L.Lookups.state c.rules.lookups) x → fits_rule c.args.self.now.schema x c.args.packet.now rule ≡ c.meets_all.result =
    λ x on. sym (c.meets_all.ensures.meets x on ∙ ap (λ z. list_all (meets_test z x c.args.packet.now) c.as_slice-in-rules-2.result.now) (c.as_slice-in-rules.ensures ∙ schema) ∙ ap (λ z. list_all (meets_test c.args.self.now.schema x c.args.packet.now) z) c.as_slice-in-rules-2.ensures) in
    let number = i.number in
    elim c.if-meets_all.branch [
      | then-meets_all+in-Jump+then-not-passed-place+else-is_some w ↦
          let walked : g.L.Lookups.state c.if-meets_all.lookups ≡ g.L.Lookups.state c.meets_all.new.lookups = ap (λ z. g.L.Lookups.state z) w.lookups-is ∙ w.walk-decision.ensures.same in
          let same = walked ∙ earlier_state in
          let none : (x : Generation) → g.L.Lookups.looks_in (g.L.Lookups.state c.meets_all.new.lookups) x → decision_of c.args.self.now x c.args.packet.now w.in-Jump.earlier ≡ None =
          λ x on. ap (λ z. decision_of c.args.self.now x c.args.packet.now z) (sym w.from.ensures) ∙ sym (w.walk-decision.ensures.decides x on) ∙ nothing_there w.walk-decision.result (sym w.is_some.ensures ∙ w.if-is_some.false) in record {
            same = same ∙ i.same;
            size = c.if-meets_all.auto.passed ∙ i.size;
            number = omega (arith, number);
            ahead = λ x on.
                let before = subst (λ s. g.L.Lookups.looks_in s x) same on in
                next_passed (fits_rule c.args.self.now.schema x c.args.packet.now) (decision_of c.args.self.now x c.args.packet.now) c.rules.number c.rules.rule-index rules rule at _ w.in-Jump.earlier (i.ahead x before)
                (fitting x before ∙ w.if-meets_all.true) w.in-Jump.is (none x (subst (λ s. g.L.Lookups.looks_in s x) walked on));
            passed = λ x on chain h.
                let behind = subst (λ s. g.L.Lookups.looks_in s x) walked on in
                one_more_mark (decision_of c.args.self.now x c.args.packet.now) w.walk-decision.new.passed w.in-Jump.earlier (w.walk-decision.ensures.passed x behind) (none x behind) chain (ap (λ z. slice_get z chain) (sym w.passed-is) ∙ h);
          }
      | then-meets_all+in-Jump+else-not-passed-place w ↦
          let same : g.L.Lookups.state c.if-meets_all.lookups ≡ g.L.Lookups.state c.rules.lookups = ap (λ z. g.L.Lookups.state z) w.lookups-is ∙ earlier_state in record {
            same = same ∙ i.same;
            size = c.if-meets_all.auto.passed ∙ i.size;
            number = omega (arith, number);
            ahead = λ x on.
                let before = subst (λ s. g.L.Lookups.looks_in s x) same on in
                next_passed (fits_rule c.args.self.now.schema x c.args.packet.now) (decision_of c.args.self.now x c.args.packet.now) c.rules.number c.rules.rule-index rules rule at _ w.in-Jump.earlier (i.ahead x before)
                (fitting x before ∙ w.if-meets_all.true) w.in-Jump.is (i.passed x before w.in-Jump.earlier (marked c.rules.passed w.in-Jump.earlier w.if-not-passed-place.false));
            passed = λ x on chain h. i.passed x (subst (λ s. g.L.Lookups.looks_in s x) same on) chain (ap (λ z. slice_get z chain) (sym w.passed-is) ∙ h);
          }
      | else-meets_all w ↦
          let same : g.L.Lookups.state c.if-meets_all.lookups ≡ g.L.Lookups.state c.rules.lookups = ap (λ z. g.L.Lookups.state z) w.lookups-is ∙ earlier_state in record {
            same = same ∙ i.same;
            size = c.if-meets_all.auto.passed ∙ i.size;
            number = omega (arith, number);
            ahead = λ x on.
                let before = subst (λ s. g.L.Lookups.looks_in s x) same on in
                next_unfit (fits_rule c.args.self.now.schema x c.args.packet.now) (decision_of c.args.self.now x c.args.packet.now) c.rules.number c.rules.rule-index rules rule at _ (i.ahead x before) (fitting x before ∙ w.if-meets_all.false);
            passed = λ x on chain h. i.passed x (subst (λ s. g.L.Lookups.looks_in s x) same on) chain (ap (λ z. slice_get z chain) (sym w.passed-is) ∙ h);
          }
    ]
