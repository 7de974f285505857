-- Worked examples of what the note says. They compute, so the proof check refuses a wrong byte.
use Rattle.std.specs.Prelude.{◌≡◌, refl, true, false, List, [], ◌∷◌, codes, None}
use Rattle.set_model.specs.declared.kind.Kind.{Kind}
use Rattle.set_model.specs.declared.kind.Kind.TheVariants.{Ipv4, Service}
use Rattle.set_model.specs.declared.script.Family.TheVariants.{Inet}
use Rattle.set_model.specs.declared.script.SetDecl.{SetDecl}
use Rattle.rule_chain.specs.declared.chains.Test.{Test}
use Rattle.unmet_tests.specs.UnmetText.{first_types, words_on}

abbrev set_of : List Kind → SetDecl
set_of kinds = record { family = Inet; table = codes "filter"; name = codes "blocked"; kinds = kinds; interval = true; timed = false; disjoint = false; timeout = None; size = None }

abbrev schema : List SetDecl
schema = set_of (Ipv4 ∷ Service ∷ []) ∷ set_of (Ipv4 ∷ []) ∷ set_of (Service ∷ []) ∷ set_of [] ∷ []

abbrev test : Test
test = record { set = 1; inside = false; line = 1; at = 13 }

one_type : words_on schema (0 ∷ []) test ≡ codes "'out' is never met: no packet has a key for inet filter blocked (ipv4_addr); the keys here are of ipv4_addr . inet_service"
one_type = refl

two_types : first_types schema (2 ∷ 0 ∷ []) ≡ codes "inet_service, ipv4_addr . inet_service"
two_types = refl

four_types : first_types schema (2 ∷ 0 ∷ 1 ∷ 3 ∷ []) ≡ codes "inet_service, ipv4_addr . inet_service, ipv4_addr, .."
four_types = refl
