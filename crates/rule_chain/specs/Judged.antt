-- What chains of rules decide on a packet (base chains, `jump` and `return` of nft(8)), over sets of
-- one generation.
use Rattle.std.specs.Prelude.{◌≡◌, ℕ, ◌+◌, ◌-◌, Bool, true, false, ◌&&◌, not, ◌==◌, List, [], ◌∷◌, ◌++◌, length, if◌then◌else◌, Option, Some, None, is_some, slice_get}
use Rattle.std.specs.Option.{option_or}
use Rattle.std.specs.List.{list_all, zip}
use Rattle.set_model.specs.declared.kind.Kind.{Kind}
use Rattle.set_model.specs.declared.kind.Kind.TheVariants as kinds
use Rattle.set_model.specs.declared.script.SetDecl.{SetDecl}
use Rattle.set_model.specs.declared.packet.Packet.{Packet}
use Rattle.set_model.specs.declared.packet.Verdict.{Verdict}
use Rattle.set_model.specs.declared.packet.Verdict.TheVariants as verdicts
use Rattle.set_model.specs.SetState.{State, first}
use Rattle.set_model.specs.Control.{Generation}
use Rattle.rule_chain.specs.declared.chains.Act.{Act}
use Rattle.rule_chain.specs.declared.chains.Act.TheVariants as acts
use Rattle.rule_chain.specs.declared.chains.Test.{Test}
use Rattle.rule_chain.specs.declared.chains.Rule.{Rule}
use Rattle.rule_chain.specs.declared.chains.Chain.{Chain}
use Rattle.rule_chain.specs.Chains.{Rules}

-- a set has an element that is live and holds the key
abbrev pub holds_key : List ℕ → ℕ → Option State → Bool
holds_key key now None = false
holds_key key now (Some s) = is_some (first s key now)

-- a set of a generation has such an element
abbrev pub has_element : Generation → ℕ → List ℕ → ℕ → Bool
has_element g set key now = holds_key key now (slice_get g.sets set)

-- the number of a kind in their list
abbrev pub kind_number : Kind → ℕ
kind_number kinds.Ipv4 = 0
kind_number kinds.Ipv6 = 1
kind_number kinds.Ether = 2
kind_number kinds.Proto = 3
kind_number kinds.Service = 4
kind_number kinds.Mark = 5

-- two sets have the same kinds
abbrev pub same_kinds : List Kind → List Kind → Bool
same_kinds ks others = (length ks == length others) && list_all (λ p. kind_number p.0 == kind_number p.1) (zip ks others)

abbrev pub alike : Option SetDecl → Option SetDecl → Bool
alike (Some s) (Some t) = same_kinds s.kinds t.kinds
alike (Some s) None = false
alike None t = false

-- the answer that a test asks for: an element is found, or none is
abbrev pub as_asked : Bool → Bool → Bool
as_asked true found = found
as_asked false found = not found

-- A packet meets a test if the test's set has the kinds of the packet's set, and it holds its
-- key, or doesn't, as the test asks.
abbrev pub meets_test : List SetDecl → Generation → Packet → Test → Bool
meets_test schema g p t = alike (slice_get schema t.set) (slice_get schema p.set) && as_asked t.inside (has_element g t.set p.key p.now)

-- A packet fits a rule if it meets all its tests.
abbrev pub fits_rule : List SetDecl → Generation → Packet → Rule → Bool
fits_rule schema g p r = list_all (meets_test schema g p) r.tests

-- What rule n does with a packet that fits it; `behind` is the decision of the rules after it. Accept
-- and drop decide, with the rule's number. Return ends this chain's walk. A jump takes the decision of
-- the chain that it leads to; if that chain decides nothing, the walk goes on.
abbrev pub acts_on : (ℕ → Option ℕ) → ℕ → Act → Option ℕ → Option ℕ
acts_on jumped n acts.Accept behind = Some n
acts_on jumped n acts.Drop behind = Some n
acts_on jumped n acts.Return behind = None
acts_on jumped n (acts.Jump chain) behind = option_or (jumped chain) behind

-- The walk of rules that are numbered from n on: the number of the rule that decides, if one does.
abbrev pub walk : (Rule → Bool) → (ℕ → Option ℕ) → ℕ → List Rule → Option ℕ
walk fits jumped n [] = None
walk fits jumped n (r ∷ rules) = if fits r then acts_on jumped n r.act (walk fits jumped (n + 1) rules) else walk fits jumped (n + 1) rules

-- what the chain at a place decides
abbrev pub flat : Option (Option ℕ) → Option ℕ
flat None = None
flat (Some decision) = decision

abbrev pub decided : List (Option ℕ) → ℕ → Option ℕ
decided decisions chain = flat (slice_get decisions chain)

-- The decisions of chains, in order, added to the decisions of the chains before. Rules are numbered
-- from n on.
abbrev pub decisions : (Rule → Bool) → ℕ → List (Option ℕ) → List Chain → List (Option ℕ)
decisions fits n before [] = before
decisions fits n before (c ∷ chains) = decisions fits (n + length c.rules) (before ++ walk fits (decided before) n c.rules ∷ []) chains

-- a decision as a verdict: the rule's number
abbrev pub as_verdict : Option ℕ → Verdict
as_verdict None = verdicts.None
as_verdict (Some n) = verdicts.Element n

-- the decision of the chain at a place on a packet; rules are numbered from 0 through the file
abbrev pub decision_of : Rules → Generation → Packet → ℕ → Option ℕ
decision_of rules g p chain = decided (decisions (fits_rule rules.schema g p) 0 [] rules.chains) chain

-- the marked chains decide nothing
abbrev pub DecideNothing : Rules → Generation → Packet → List Bool → Type 0
DecideNothing rules g p marks = (chain : ℕ) → slice_get marks chain ≡ Some true → decision_of rules g p chain ≡ None

-- The verdict on a packet: the decision of the last chain, which is the base chain.
abbrev pub judged : Rules → Generation → Packet → Verdict
judged rules g p = as_verdict (decision_of rules g p (length rules.chains - 1))

-- the verdict of chains on a packet in a generation
abbrev pub IsJudged : Rules → Generation → Packet → Verdict → Type 0
IsJudged rules g p verdict = verdict ≡ judged rules g p
