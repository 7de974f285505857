-- Worked examples of the tests that no packet can meet. They compute, so the proof check refuses a wrong test.
use Rattle.std.specs.Prelude.{◌≡◌, refl, ℕ, true, false, Bool, List, [], ◌∷◌, map, codes, None}
use Rattle.set_model.specs.declared.kind.Kind.{Kind}
use Rattle.set_model.specs.declared.kind.Kind.TheVariants.{Ipv4, Service}
use Rattle.set_model.specs.declared.script.Family.TheVariants.{Inet}
use Rattle.set_model.specs.declared.script.SetDecl.{SetDecl}
use Rattle.rule_chain.specs.declared.chains.Act.TheVariants.{Accept, Drop}
use Rattle.rule_chain.specs.declared.chains.Test.{Test}
use Rattle.rule_chain.specs.declared.chains.Chain.{Chain}
use Rattle.rule_chain.specs.Unmet.{key_types, unmet}

abbrev set_of : List ℕ → List Kind → SetDecl
set_of name kinds = record { family = Inet; table = codes "filter"; name = name; kinds = kinds; interval = true; timed = false; disjoint = false; timeout = None; size = None }

-- sets 0 and 2 have addresses and ports, and set 1 has addresses alone
abbrev schema : List SetDecl
schema = set_of (codes "web") (Ipv4 ∷ Service ∷ []) ∷ set_of (codes "blocked") (Ipv4 ∷ []) ∷ set_of (codes "mail") (Ipv4 ∷ Service ∷ []) ∷ []

abbrev test_of : ℕ → Bool → ℕ → Test
test_of set inside at = record { set = set; inside = inside; line = 1; at = at }

-- chain main { in inet filter blocked drop; in inet filter web out inet filter blocked accept }
abbrev chains : List Chain
chains = record {
  name = codes "main";
  rules = record { tests = test_of 1 true 13 ∷ []; act = Drop } ∷ record { tests = test_of 0 true 42 ∷ test_of 1 false 61 ∷ []; act = Accept } ∷ [];
} ∷ []

abbrev places : List Test → List ℕ
places tests = map (λ (t : Test). t.at) tests

-- Keys of addresses and ports meet no test of addresses alone, neither `in` nor `out`.
keys_of_pairs : places (unmet schema (0 ∷ 0 ∷ 2 ∷ []) chains) ≡ 13 ∷ 61 ∷ []
keys_of_pairs = refl

-- One key of addresses is enough.
keys_of_both : unmet schema (0 ∷ 1 ∷ []) chains ≡ []
keys_of_both = refl

keys_of_addresses : places (unmet schema (1 ∷ []) chains) ≡ 42 ∷ []
keys_of_addresses = refl

no_keys : unmet schema [] chains ≡ []
no_keys = refl

-- Sets 0 and 2 have one type.
types : key_types schema (2 ∷ 0 ∷ 1 ∷ 2 ∷ []) ≡ 2 ∷ 1 ∷ []
types = refl
