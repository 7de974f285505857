use Rattle.std.proofs.Common.{◌≡◌, ◌∙◌, sym, ap}
use Rattle.rule_chain.specs.Chains.{Rules}
use Rattle.rule_chain.proofs.UnmetLaws.{none_unmet, all_unmet, empty_list, not_empty}
use Rattle.rule_chain.proofs.chains.Chains.unmet.Goals as goal

pub returns-then-is_empty : goal.returns-then-is_empty
returns-then-is_empty c sets is =
    c.new-found.ensures.items ∙ none_unmet c.args.self.now.schema sets c.args.types.now c.args.self.now.chains is (empty_list c.args.types.now (sym c.is_empty.ensures ∙ c.if-is_empty.true))

pub returns : goal.returns
returns c sets is =
    let schema : c.self.inside.schema ≡ c.args.self.now.schema = ap (λ (z : Rules). z.schema) c.self.view_is in
    let chains : c.self.inside.chains ≡ c.args.self.now.chains = ap (λ (z : Rules). z.chains) c.self.view_is in
    all_unmet c.args.self.now.schema sets c.args.types.now c.args.self.now.chains c.add_unmet_of_chains.new.found.items is (not_empty c.args.types.now (sym c.is_empty.ensures ∙ c.if-is_empty.false))
    (search (c.in_ok-add_unmet_of_chains.ensures, c.new-found.ensures.items, c.as_slice.ensures, c.as_slice-2.ensures, schema, chains))
