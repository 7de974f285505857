-- The lines of packets that chains of rules have judged.
use Rattle.std.specs.Prelude.{◌≡◌, ℕ, Bool, true, false, List, ◌++◌, codes, Option, Some, None, slice_get}
use Rattle.std.specs.List.{flat_map}
use Rattle.set_model.specs.declared.packet.Verdict.{Verdict}
use Rattle.set_model.specs.declared.packet.Verdict.TheVariants as verdicts
use Rattle.set_model.specs.declared.report.Line.{Line}
use Rattle.set_model.specs.Text.{numbered, line_feed}
use Rattle.rule_chain.specs.declared.chains.Act.{Act}
use Rattle.rule_chain.specs.declared.chains.Act.TheVariants as acts
use Rattle.rule_chain.specs.declared.chains.Rule.{Rule}
use Rattle.rule_chain.specs.declared.chains.Chain.{Chain}
use Rattle.rule_chain.specs.Chains.{Rules}

-- the rules of all chains, as numbered through the file
abbrev pub chain_rules : List Chain → List Rule
chain_rules chains = flat_map (λ c. c.rules) chains

-- a rule decides: it accepts or drops
abbrev pub Decides : Act → Type 0
Decides acts.Accept = Unit {0}
Decides acts.Drop = Unit {0}
Decides acts.Return = ⊥
Decides (acts.Jump chain) = ⊥

-- A verdict of chains is none, or the number of a rule that decides.
abbrev pub IsOfRules : Rules → Verdict → Type 0
IsOfRules rules verdicts.None = Unit {0}
IsOfRules rules (verdicts.Element n) = (r : Rule) × (slice_get (chain_rules rules.chains) n ≡ Some r) × Decides r.act

-- whether a deciding rule's act is to accept
abbrev pub accepts_by : Act → Bool
accepts_by acts.Accept = true
accepts_by acts.Drop = false
accepts_by acts.Return = false
accepts_by (acts.Jump chain) = false

abbrev pub is_accepting : Option Rule → Bool
is_accepting None = false
is_accepting (Some r) = accepts_by r.act

abbrev pub accept_text : Bool → List ℕ
accept_text true = codes "accept"
accept_text false = codes "drop"

-- the number of the rule that decides and what it does, or what the policy does
abbrev pub judgement_text : Rules → Verdict → List ℕ
judgement_text rules verdicts.None = codes "policy " ++ accept_text rules.accept
judgement_text rules (verdicts.Element n) = numbered (codes "rule") n ++ codes " " ++ accept_text (is_accepting (slice_get (chain_rules rules.chains) n))

-- the line of a packet
abbrev pub judged_line : Rules → Line → List ℕ
judged_line rules l = numbered (codes "packet") l.packet ++ numbered (codes " thread") l.thread ++ numbered (codes " generation") l.generation ++ codes " " ++ judgement_text rules l.verdict ++ line_feed

abbrev pub judged_text : Rules → List Line → List ℕ
judged_text rules lines = flat_map (judged_line rules) lines
