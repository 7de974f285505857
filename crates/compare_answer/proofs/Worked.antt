-- Worked examples of the definitions. They compute, so the proof check refuses a wrong text.
use Rattle.std.specs.Prelude.{◌≡◌, refl, ℕ, List, [], ◌∷◌, Some, None, true, false, codes}
use Rattle.std.specs.Fmt.{digits}
use Rattle.set_model.specs.declared.kind.Kind.TheVariants.{Ipv4, Service}
use Rattle.set_model.specs.declared.script.Family.{Family}
use Rattle.set_model.specs.declared.script.Family.TheVariants.{Ip, Ip6}
use Rattle.set_model.specs.declared.script.SetDecl.{SetDecl}
use Rattle.set_model.specs.SetState.{empty_set}
use Rattle.addr_text.specs.Written.{value_text}
use Rattle.set_compare.specs.declared.missing.Lack.{Lack}
use Rattle.compare_answer.specs.Ending.{LastSet}
use Rattle.compare_answer.specs.Verdict.{lack_line, same_line, types_line}
use Rattle.compare_answer.specs.Compared.{place_in, is_alone, alone_text}

-- a set of addresses and ports
abbrev named : Family → List ℕ → SetDecl
named family name = record { family = family; table = codes "filter"; name = name; kinds = Ipv4 ∷ Service ∷ []; interval = true; timed = false; disjoint = false; timeout = None; size = None }

-- The set of a script, whose elements 0 and 1 were added by lines 3 and 9.
abbrev at_end : List ℕ → LastSet
at_end file = record { file = file; declared = named Ip (codes "allowed"); state = empty_set (Ipv4 ∷ Service ∷ []) None false; at = 0; lines = 3 ∷ 9 ∷ [] }

-- 192.0.2.128 and port 443, which element 1 holds
abbrev lack : Lack
lack = record { key = 3221226112 ∷ 443 ∷ []; found = record { place = 0; id = 1 } }

a_lack : lack_line (at_end (codes "old.nft")) (at_end (codes "new.nft")) lack ≡ codes "differs ip filter allowed: 192.0.2.128 . 443 is in element 1 of old.nft (line 9) and in no element of new.nft\n"
unfolding digits value_text
a_lack = refl

a_same : same_line (at_end (codes "old.nft")) ≡ codes "same ip filter allowed\n"
a_same = refl

two_types : types_line (at_end (codes "old.nft")) ≡ codes "differs ip filter allowed: the types are different\n"
two_types = refl

-- The name of a set has three parts.
abbrev schema : List SetDecl
schema = named Ip6 (codes "allowed") ∷ named Ip (codes "blocked") ∷ named Ip (codes "allowed") ∷ []

third : place_in schema (named Ip (codes "allowed")) ≡ Some 2
third = refl

alone : is_alone schema (named Ip6 (codes "blocked")) ≡ true
alone = refl

one_alone : alone_text (codes "new.nft") schema (named Ip (codes "blocked") ∷ named Ip6 (codes "blocked") ∷ []) ≡ codes "only in new.nft: ip6 filter blocked\n"
one_alone = refl
