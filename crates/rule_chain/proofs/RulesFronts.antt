-- The tokens before any place of a front of a rules file are a front, form by form.
use Rattle.std.specs.Prelude.{ℕ, List, [], ◌∷◌, Bool, true, false, Option, Some, None}
use Rattle.set_model.specs.declared.script.Family.{Family}
use Rattle.set_model.specs.declared.script.SetDecl.{SetDecl}
use Rattle.token_forms.specs.declared.token.Reason.TheVariants as reasons
use Rattle.token_forms.specs.Words.{separates}
use Rattle.token_forms.proofs.FrontLaws.{Closed, one_closed, done_closed, nowhere_closed, bind_closed, many_closed, line_closed, lines_closed}
use Rattle.set_script.specs.Script as places
use Rattle.set_script.specs.Names.{family_of}
use Rattle.rule_chain.specs.declared.chains.Test.{Test}
use Rattle.rule_chain.specs.declared.chains.Rule.{Rule}
use Rattle.rule_chain.specs.declared.chains.Chain.{Chain}
use Rattle.rule_chain.specs.declared.draft.RulesDraft.{RulesDraft}
use Rattle.rule_chain.specs.declared.draft.RulesWord.{RulesWord}
use Rattle.rule_chain.specs.declared.draft.RulesWord.TheVariants as firsts
use Rattle.rule_chain.specs.declared.draft.ActWord.{ActWord}
use Rattle.rule_chain.specs.declared.draft.ActWord.TheVariants as acts
use Rattle.rule_chain.specs.Rules as form

table_behind_closed : (w : List ℕ) (f : Option Family) → Closed (places.table_behind w f)
table_behind_closed w None = done_closed _
table_behind_closed w (Some family) = bind_closed (one_closed []) (λ _. done_closed _)

table_place_closed : Closed places.table_place
table_place_closed = bind_closed (one_closed []) (λ w. table_behind_closed w (family_of w))

act_behind_closed : (chains : List Chain) (w : ActWord) → Closed (form.act_behind chains w)
act_behind_closed chains acts.Accept = done_closed _
act_behind_closed chains acts.Drop = done_closed _
act_behind_closed chains acts.Return = done_closed _
act_behind_closed chains acts.Jump = bind_closed (one_closed []) (λ _. done_closed _)

finished_closed : (chains : List Chain) (policy : Option Bool) → Closed (form.finished chains policy)
finished_closed chains None = nowhere_closed
finished_closed chains (Some accept) = done_closed _

module _ (schema : List SetDecl) where
  test_closed : (tests : List Test) → Closed (form.test schema tests)
  test_closed tests = bind_closed (one_closed []) (λ _. bind_closed table_place_closed (λ p. bind_closed (one_closed (reasons.Set ∷ [])) (λ _. done_closed _)))

  rule_closed : (chains : List Chain) (rules : List Rule) → Closed (form.rule schema chains rules)
  rule_closed chains rules = bind_closed (many_closed test_closed []) (λ tests. bind_closed (bind_closed (one_closed []) (λ w. act_behind_closed chains w)) (λ _. done_closed _))

  rule_if_closed : (room : Bool) (chains : List Chain) (rules : List Rule) → Closed (form.rule_if room schema chains rules)
  rule_if_closed true chains rules = rule_closed chains rules
  rule_if_closed false chains rules = nowhere_closed

  chain_block_closed : (d : RulesDraft) → Closed (form.chain_block schema d)
  chain_block_closed d =
      bind_closed (one_closed []) (λ _. bind_closed (one_closed []) (λ _. bind_closed (lines_closed separates (λ rules. rule_if_closed _ d.chains rules) _) (λ _. bind_closed (one_closed []) (λ _. done_closed _))))

  statement_behind_closed : (d : RulesDraft) (w : RulesWord) → Closed (form.statement_behind schema d w)
  statement_behind_closed d firsts.Chain = chain_block_closed d
  statement_behind_closed d firsts.Policy = bind_closed (one_closed []) (λ _. done_closed _)

  statement_closed : (d : RulesDraft) → Closed (form.statement schema d)
  statement_closed d = bind_closed (one_closed []) (λ w. statement_behind_closed d w)

  pub rules_file_closed : Closed (form.rules_file schema)
  rules_file_closed =
      bind_closed (bind_closed (many_closed (λ r. line_closed separates statement_closed r.0 r.1) _) (λ s. finished_closed s.0.chains s.0.policy)) (λ _. bind_closed (one_closed []) (λ _. done_closed _))
