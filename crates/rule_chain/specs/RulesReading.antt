-- Reading a rules file from left to right, along the table of its forms.
use Rattle.std.specs.Prelude.{ℕ, List, [], ◌∷◌, ◌++◌, length, Bool, true, false, ◌&&◌, nat_lt, Option, Some, None, is_some}
use Rattle.set_model.specs.declared.script.SetDecl.{SetDecl}
use Rattle.token_forms.specs.Token.{Lexeme, is_word}
use Rattle.token_forms.specs.Reading.{done_read as done, nowhere_read as nowhere, ◌>>=◌, ◌>>◌}
use Rattle.token_forms.specs.Words.{any_word, separates}
use Rattle.token_forms.specs.WordReading.{Reading, word_by, mark, the_end, line, line_starts, lines, many}
use Rattle.set_script.specs.ScriptReading.{table_place, used_set}
use Rattle.rule_chain.specs.declared.chains.Act.{Act}
use Rattle.rule_chain.specs.declared.chains.Act.TheVariants as acts
use Rattle.rule_chain.specs.declared.chains.Test.{Test}
use Rattle.rule_chain.specs.declared.chains.Rule.{Rule}
use Rattle.rule_chain.specs.declared.chains.Chain.{Chain}
use Rattle.rule_chain.specs.declared.draft.RulesDraft.{RulesDraft}
use Rattle.rule_chain.specs.declared.draft.RulesWord.{RulesWord}
use Rattle.rule_chain.specs.declared.draft.RulesWord.TheVariants as firsts
use Rattle.rule_chain.specs.declared.draft.TestWord.{TestWord}
use Rattle.rule_chain.specs.declared.draft.ActWord.{ActWord}
use Rattle.rule_chain.specs.declared.draft.ActWord.TheVariants as words
use Rattle.rule_chain.specs.RuleNames.{test_of, test_word_of, act_of, policy_of, rules_word_of, chain_place, new_chain_of}
use Rattle.rule_chain.specs.Rules.{no_rules, test_at, with_chain}

-- what starts one more test
abbrev pub starts_test : List Test → Lexeme → Bool
starts_test tests t = is_word t.kind && is_some (test_of (length tests) t.bytes)

abbrev pub first_word_of : ℕ → Reading TestWord
first_word_of tests = word_by [] (test_word_of tests)

unfoldable pub one_test : List SetDecl → List Test → Reading (List Test)
one_test schema tests = do
  first ← first_word_of (length tests)
  p ← table_place
  i ← used_set schema p
  done (tests ++ test_at first i ∷ [])

abbrev pub all_tests : List SetDecl → Reading (List Test)
all_tests schema = many starts_test (one_test schema) []

abbrev pub earlier_chain : List Chain → Reading ℕ
earlier_chain chains = word_by [] (λ t. chain_place chains t.bytes)

unfoldable pub act_behind : List Chain → ActWord → Reading Act
act_behind chains words.Accept = done acts.Accept
act_behind chains words.Drop = done acts.Drop
act_behind chains words.Return = done acts.Return
act_behind chains words.Jump = do
  i ← earlier_chain chains
  done (acts.Jump i)

abbrev pub word_of_act : Reading ActWord
word_of_act = word_by [] (λ t. act_of t.bytes)

unfoldable pub act : List Chain → Reading Act
act chains = do
  w ← word_of_act
  act_behind chains w

unfoldable pub rule : List SetDecl → List Chain → List Rule → Reading (List Rule)
rule schema chains rules = do
  tests ← all_tests schema
  a ← act chains
  done (rules ++ record { tests = tests; act = a } ∷ [])

unfoldable pub rule_if : Bool → List SetDecl → List Chain → List Rule → Reading (List Rule)
rule_if true schema chains rules = rule schema chains rules
rule_if false schema chains rules = nowhere

abbrev pub rule_here : List SetDecl → RulesDraft → List Rule → Reading (List Rule)
rule_here schema d rules = rule_if (nat_lt (length rules) d.left) schema d.chains rules

abbrev pub rule_line : List SetDecl → RulesDraft → List Rule × Bool → Reading (List Rule × Bool)
rule_line schema d = line separates (rule_here schema d)

abbrev pub rule_lines : List SetDecl → RulesDraft → Reading (List Rule × Bool)
rule_lines schema d = many (line_starts separates any_word) (rule_line schema d) ([], true)

abbrev pub all_rules : List SetDecl → RulesDraft → Reading (List Rule)
all_rules schema d = lines separates any_word (rule_here schema d) ([], true)

abbrev pub new_chain : List Chain → Reading (List ℕ)
new_chain chains = word_by [] (λ t. new_chain_of chains t.bytes)

unfoldable pub chain_block : List SetDecl → RulesDraft → Reading RulesDraft
chain_block schema d = do
  name ← new_chain d.chains
  mark 123
  rules ← all_rules schema d
  mark 125
  done (with_chain d name rules)

abbrev pub policy_read : Reading Bool
policy_read = word_by [] (λ t. policy_of t.bytes)

unfoldable pub statement_behind : List SetDecl → RulesDraft → RulesWord → Reading RulesDraft
statement_behind schema d firsts.Chain = chain_block schema d
statement_behind schema d firsts.Policy = do
  accept ← policy_read
  done (record d { policy = Some accept })

abbrev pub first_word : RulesDraft → Reading RulesWord
first_word d = word_by [] (λ t. rules_word_of d t.bytes)

unfoldable pub statement : List SetDecl → RulesDraft → Reading RulesDraft
statement schema d = do
  w ← first_word d
  statement_behind schema d w

abbrev pub statement_line : List SetDecl → RulesDraft × Bool → Reading (RulesDraft × Bool)
statement_line schema = line separates (statement schema)

abbrev pub statements : List SetDecl → Reading (RulesDraft × Bool)
statements schema = many (line_starts separates any_word) (statement_line schema) (no_rules, true)

unfoldable pub finished : List Chain → Option Bool → Reading (List Chain × Bool)
finished chains None = nowhere
finished chains (Some accept) = done (chains, accept)

unfoldable pub body : List SetDecl → Reading (List Chain × Bool)
body schema = do
  s ← statements schema
  finished s.0.chains s.0.policy

unfoldable pub rules_file : List SetDecl → Reading (List Chain × Bool)
rules_file schema = do
  rules ← body schema
  the_end
  done rules
