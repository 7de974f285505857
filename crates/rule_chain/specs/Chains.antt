-- What holds of the chains that a rules file means.
use Rattle.std.specs.Prelude.{◌≡◌, ◌≤◌, ◌<◌, ℕ, List, length, sum_by, Bool, Some, slice_get}
use Rattle.std.specs.List.{All}
use Rattle.set_model.specs.declared.script.SetDecl.{SetDecl}
use Rattle.rule_chain.specs.declared.chains.Act.{Act}
use Rattle.rule_chain.specs.declared.chains.Act.TheVariants as acts
use Rattle.rule_chain.specs.declared.chains.Test.{Test}
use Rattle.rule_chain.specs.declared.chains.Rule.{Rule}
use Rattle.rule_chain.specs.declared.chains.Chain.{Chain}

-- what a rules file means: the sets that its rules test, its chains in order, and whether its policy accepts
pub record Rules : Type 0 where
  pub schema : List SetDecl
  pub chains : List Chain
  pub accept : Bool

-- A file has at most 4 chains and 64 rules, and a rule has at most 4 tests.
abbrev pub most_chains : ℕ
most_chains = 4

abbrev pub most_rules : ℕ
most_rules = 64

abbrev pub most_tests : ℕ
most_tests = 4

-- how many rules chains have
abbrev pub rule_count : List Chain → ℕ
rule_count chains = sum_by (λ c. length c.rules) chains

-- an act that a rule of chain i may have: a jump leads to an earlier chain
abbrev pub LeadsBack : ℕ → Act → Type 0
LeadsBack i acts.Accept = Unit {0}
LeadsBack i acts.Drop = Unit {0}
LeadsBack i acts.Return = Unit {0}
LeadsBack i (acts.Jump chain) = chain < i

-- a rule of chain i: at most 4 tests, of declared sets, and an act
pub record IsRule (schema : List SetDecl) (i : ℕ) (r : Rule) : Type 0 where
  pub few : length r.tests ≤ most_tests
  pub declared : All (λ (t : Test). t.set < length schema) r.tests
  pub back : LeadsBack i r.act

-- one to four chains, with at most 64 rules in all
pub record AreChains (schema : List SetDecl) (chains : List Chain) : Type 0 where
  pub some : 0 < length chains
  pub few : length chains ≤ most_chains
  pub few_rules : rule_count chains ≤ most_rules
  pub rules : (i : ℕ) (c : Chain) → slice_get chains i ≡ Some c → All (IsRule schema i) c.rules
