-- The rules file: the table of its forms. Marks are named by their bytes: 123 is `{`, 125 `}`.
use Rattle.std.specs.Prelude.{ℕ, ◌-◌, List, [], ◌∷◌, ◌++◌, length, Bool, true, false, nat_lt, Option, Some, None}
use Rattle.set_model.specs.declared.script.SetDecl.{SetDecl}
use Rattle.token_forms.specs.Form.{Form, done, nowhere, many, ◌>>=◌, ◌>>◌}
use Rattle.token_forms.specs.Words.{word_by, mark, the_end, separates, line, lines}
use Rattle.set_script.specs.Script.{table_place, used_set}
use Rattle.rule_chain.specs.declared.chains.Act.{Act}
use Rattle.rule_chain.specs.declared.chains.Act.TheVariants as acts
use Rattle.rule_chain.specs.declared.chains.Test.{Test}
use Rattle.rule_chain.specs.declared.chains.Rule.{Rule}
use Rattle.rule_chain.specs.declared.chains.Chain.{Chain}
use Rattle.rule_chain.specs.declared.draft.RulesDraft.{RulesDraft}
use Rattle.rule_chain.specs.declared.draft.RulesWord.{RulesWord}
use Rattle.rule_chain.specs.declared.draft.RulesWord.TheVariants as firsts
use Rattle.rule_chain.specs.declared.draft.TestWord.{TestWord}
use Rattle.rule_chain.specs.declared.draft.ActWord.{ActWord}
use Rattle.rule_chain.specs.declared.draft.ActWord.TheVariants as words
use Rattle.rule_chain.specs.Chains.{most_rules}
use Rattle.rule_chain.specs.RuleNames.{test_word_of, act_of, policy_of, rules_word_of, chain_place, new_chain_of}

-- a test of this set that begins with this word
abbrev pub test_at : TestWord → ℕ → Test
test_at first set = record { set = set; inside = first.inside; line = first.line; at = first.at }

-- One more test: `in` or `out`, and a declared set. It has the place of its first word.
abbrev pub test : List SetDecl → List Test → Form (List Test)
test schema tests = do
  first ← word_by [] (test_word_of (length tests))
  p ← table_place
  i ← used_set schema p
  done (tests ++ test_at first i ∷ [])

-- the name of an earlier chain, which gives its place
abbrev pub earlier_chain : List Chain → Form ℕ
earlier_chain chains = word_by [] (λ t. chain_place chains t.bytes)

abbrev pub act_behind : List Chain → ActWord → Form Act
act_behind chains words.Accept = done acts.Accept
act_behind chains words.Drop = done acts.Drop
act_behind chains words.Return = done acts.Return
act_behind chains words.Jump = do
  i ← earlier_chain chains
  done (acts.Jump i)

-- `accept`, `drop`, `return`, or `jump` and the name of an earlier chain
abbrev pub act : List Chain → Form Act
act chains = do
  w ← word_by [] (λ t. act_of t.bytes)
  act_behind chains w

-- One more rule: its tests and its act.
abbrev pub rule : List SetDecl → List Chain → List Rule → Form (List Rule)
rule schema chains rules = do
  tests ← many (test schema) []
  a ← act chains
  done (rules ++ record { tests = tests; act = a } ∷ [])

-- a rule, if one more is allowed
abbrev pub rule_if : Bool → List SetDecl → List Chain → List Rule → Form (List Rule)
rule_if true schema chains rules = rule schema chains rules
rule_if false schema chains rules = nowhere

-- What has been read: the chains, how many more rules are allowed, and the policy.
abbrev pub no_rules : RulesDraft
no_rules = record { chains = []; left = most_rules; policy = None }

-- one more chain
abbrev pub with_chain : RulesDraft → List ℕ → List Rule → RulesDraft
with_chain d name rules = record d { chains = d.chains ++ record { name = name; rules = rules } ∷ []; left = d.left - length rules }

-- rules with separators between them, and any number of separators before the first and after the last
abbrev pub all_rules : List SetDecl → RulesDraft → Form (List Rule)
all_rules schema d = lines separates (λ rules. rule_if (nat_lt (length rules) d.left) schema d.chains rules) ([], true)

-- a new name, and rules in braces
abbrev pub chain_block : List SetDecl → RulesDraft → Form RulesDraft
chain_block schema d = do
  name ← word_by [] (λ t. new_chain_of d.chains t.bytes)
  mark 123
  rules ← all_rules schema d
  mark 125
  done (with_chain d name rules)

abbrev pub statement_behind : List SetDecl → RulesDraft → RulesWord → Form RulesDraft
statement_behind schema d firsts.Chain = chain_block schema d
statement_behind schema d firsts.Policy = do
  accept ← word_by [] (λ t. policy_of t.bytes)
  done (record d { policy = Some accept })

-- `chain` and a chain, or `policy` and `accept` or `drop`
abbrev pub statement : List SetDecl → RulesDraft → Form RulesDraft
statement schema d = do
  w ← word_by [] (λ t. rules_word_of d t.bytes)
  statement_behind schema d w

-- The chains, and the policy for a packet on which they decide nothing. A file must have a policy.
abbrev pub finished : List Chain → Option Bool → Form (List Chain × Bool)
finished chains None = nowhere
finished chains (Some accept) = done (chains, accept)

-- statements with separators between them, and any number of separators before the first and after the last
abbrev pub statements : List SetDecl → Form (RulesDraft × Bool)
statements schema = many (line separates (statement schema)) (no_rules, true)

abbrev pub body : List SetDecl → Form (List Chain × Bool)
body schema = do
  s ← statements schema
  finished s.0.chains s.0.policy

abbrev pub rules_file : List SetDecl → Form (List Chain × Bool)
rules_file schema = do
  rules ← body schema
  the_end
  done rules
