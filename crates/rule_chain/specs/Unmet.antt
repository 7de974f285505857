-- The tests of a rules file that no packet can meet, since no packet has a key for their sets.
use Rattle.std.specs.Prelude.{ℕ, Bool, not, List, [], ◌∷◌, ◌++◌, map, slice_get, if◌then◌else◌}
use Rattle.std.specs.List.{flat_map, filter, fold, list_any}
use Rattle.set_model.specs.declared.packet.Packet.{Packet}
use Rattle.set_model.specs.declared.script.SetDecl.{SetDecl}
use Rattle.rule_chain.specs.declared.chains.Test.{Test}
use Rattle.rule_chain.specs.declared.chains.Rule.{Rule}
use Rattle.rule_chain.specs.declared.chains.Chain.{Chain}
use Rattle.rule_chain.specs.Judged.{alike}

-- the sets for which packets have keys
abbrev pub sets_of : List (List Packet) → List ℕ
sets_of keys = flat_map (λ ps. map (λ p. p.set) ps) keys

-- two sets have the same kinds, by their places
abbrev pub are_alike : List SetDecl → ℕ → ℕ → Bool
are_alike schema set other = alike (slice_get schema set) (slice_get schema other)

-- One of these sets has the kinds of a test's set. So a packet with a key for it has a key for the test.
abbrev pub has_key : List SetDecl → List ℕ → Test → Bool
has_key schema sets t = list_any (are_alike schema t.set) sets

-- no packet with a key for these sets has one for a test
abbrev pub has_no_key : List SetDecl → List ℕ → Test → Bool
has_no_key schema sets t = not (has_key schema sets t)

-- the tests that pass, in the order of the file
abbrev pub of_rule : (Test → Bool) → Rule → List Test
of_rule passes r = filter passes r.tests

abbrev pub of_chain : (Test → Bool) → Chain → List Test
of_chain passes c = flat_map (of_rule passes) c.rules

abbrev pub of_chains : (Test → Bool) → List Chain → List Test
of_chains passes chains = flat_map (of_chain passes) chains

-- The tests for whose sets no packet has a key: no packet meets them. Without packets nothing is judged, and there are none.
abbrev pub unmet : List SetDecl → List ℕ → List Chain → List Test
unmet schema [] chains = []
unmet schema (s ∷ sets) chains = of_chains (has_no_key schema (s ∷ sets)) chains

-- these sets, and one more if none of them has its kinds
abbrev pub with_type : List SetDecl → List ℕ → ℕ → List ℕ
with_type schema types s = if list_any (λ o. are_alike schema o s) types then types else types ++ s ∷ []

-- The types of keys for these sets, each by the first set that has it.
abbrev pub key_types : List SetDecl → List ℕ → List ℕ
key_types schema sets = fold (with_type schema) [] sets
