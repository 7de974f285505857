-- Words of rules files that have a meaning at their place.
use Rattle.std.specs.Prelude.{ℕ, List, length, Bool, true, false, ◌&&◌, not, nat_lt, Option, Some, None, is_some, codes, cond, bytes_eq, position, if◌then◌else◌}
use Rattle.token_forms.specs.Token.{Lexeme}
use Rattle.token_forms.specs.Words.{is_name}
use Rattle.rule_chain.specs.declared.chains.Chain.{Chain}
use Rattle.rule_chain.specs.declared.draft.RulesDraft.{RulesDraft}
use Rattle.rule_chain.specs.declared.draft.RulesWord.{RulesWord}
use Rattle.rule_chain.specs.declared.draft.RulesWord.TheVariants as firsts
use Rattle.rule_chain.specs.declared.draft.TestWord.{TestWord}
use Rattle.rule_chain.specs.declared.draft.ActWord.{ActWord}
use Rattle.rule_chain.specs.declared.draft.ActWord.TheVariants as acts
use Rattle.rule_chain.specs.Chains.{most_chains, most_tests}

-- whether a test asks for an element that holds the key, or for none
abbrev pub inside_of : List ℕ → Option Bool
inside_of t =
    if bytes_eq t (codes "in") then Some true
    else if bytes_eq t (codes "out") then Some false
    else None

-- A test is allowed after fewer than four tests.
abbrev pub test_of : ℕ → List ℕ → Option Bool
test_of tests t = if nat_lt tests most_tests then inside_of t else None

-- a word that means this, with its place
abbrev pub with_place : Lexeme → Option Bool → Option TestWord
with_place t None = None
with_place t (Some inside) = Some (record { inside = inside; line = t.line; at = t.from })

-- The first word of a test after so many tests.
abbrev pub test_word_of : ℕ → Lexeme → Option TestWord
test_word_of tests t = with_place t (test_of tests t.bytes)

abbrev pub act_of : List ℕ → Option ActWord
act_of t =
    if bytes_eq t (codes "accept") then Some acts.Accept
    else if bytes_eq t (codes "drop") then Some acts.Drop
    else if bytes_eq t (codes "return") then Some acts.Return
    else if bytes_eq t (codes "jump") then Some acts.Jump
    else None

-- whether the policy accepts
abbrev pub policy_of : List ℕ → Option Bool
policy_of t =
    if bytes_eq t (codes "accept") then Some true
    else if bytes_eq t (codes "drop") then Some false
    else None

-- A fifth chain isn't allowed, nor a policy without a chain, nor anything after the policy.
abbrev pub rules_word_of : RulesDraft → List ℕ → Option RulesWord
rules_word_of d t =
    if is_some d.policy then None
    else if bytes_eq t (codes "chain") && nat_lt (length d.chains) most_chains then Some firsts.Chain
    else if bytes_eq t (codes "policy") && nat_lt 0 (length d.chains) then Some firsts.Policy
    else None

-- the place of the chain with this name
abbrev pub chain_place : List Chain → List ℕ → Option ℕ
chain_place chains t = position (λ c. bytes_eq c.name t) chains

-- a name that no chain has
abbrev pub is_new_chain : List Chain → List ℕ → Bool
is_new_chain chains t = is_name t && not (is_some (chain_place chains t))

abbrev pub new_chain_of : List Chain → List ℕ → Option (List ℕ)
new_chain_of chains t = cond (is_new_chain chains t) (Some t) None
