-- Worked examples of an explanation. They compute, so the proof check refuses a wrong text.
use Rattle.std.specs.Prelude.{◌≡◌, refl, ℕ, List, [], ◌∷◌, ◌++◌, Some, None, Option, true, false, codes}
use Rattle.std.specs.Fmt.{digits}
use Rattle.addr_text.specs.Written.{value_text, interval_text, time_text}
use Rattle.set_model.specs.declared.kind.Kind.TheVariants.{Service}
use Rattle.set_model.specs.declared.element.NewElement.{NewElement}
use Rattle.set_model.specs.declared.packet.Packet.{Packet}
use Rattle.set_model.specs.declared.script.Family.TheVariants.{Ip}
use Rattle.set_model.specs.declared.script.Script.{Script}
use Rattle.set_model.specs.declared.script.SetDecl.{SetDecl}
use Rattle.set_model.specs.declared.script.Step.{Step}
use Rattle.set_model.specs.declared.script.Step.TheVariants.{Change, Commit}
use Rattle.set_model.specs.declared.script.Verb.TheVariants.{Add}
use Rattle.set_model.specs.Control.{Strict, KeepGoing}
use Rattle.explain_answer.specs.Explained.{explain_text, lacks_any}

-- a set of ports
abbrev ports : SetDecl
ports = record { family = Ip; table = codes "t"; name = codes "p"; kinds = Service ∷ []; interval = true; timed = true; disjoint = false; timeout = None; size = None }

-- an addition in this line, and a commit after it
abbrev adds : ℕ → ℕ → ℕ → Option ℕ → List Step
adds line low high expiry = Change line 0 Add (record { parts = record { low = low; high = high } ∷ []; expiry = expiry; comment = [] }) 0 ∷ Commit 0 ∷ []

abbrev asks : ℕ → ℕ → Packet
asks port now = record { set = 0; key = port ∷ []; now = now }

-- Section 0 adds 80 in line 3, section 1 adds 20-90 in line 4, and section 2 adds 443 in line 5.
abbrev script : Script
script = record { schema = ports ∷ []; sections = adds 3 80 80 None ∷ adds 4 20 90 (Some 500) ∷ adds 5 443 443 None ∷ []; last = 0 }

-- The first section of the key file comes after section 1, and the second one after section 2.
explained : explain_text Strict script ((asks 80 400 ∷ asks 443 400 ∷ []) ∷ (asks 443 500 ∷ asks 30 500 ∷ []) ∷ [])
    ≡ codes "ip t p 80\n    element 0: 80 (line 3)\n    also in element 1: 20-90 (line 4)\nip t p 443\n    no element\n    443 is in 0 of 2 elements\nip t p 443\n    element 2: 443 (line 5)\nip t p 30\n    no element\n    expired: element 1: 20-90 (line 4), at 500ms\n    30 is in 0 of 2 elements\n"
unfolding digits value_text interval_text time_text
explained = refl

fails : lacks_any Strict script ((asks 80 400 ∷ []) ∷ (asks 30 500 ∷ []) ∷ []) ≡ true
fails = refl

-- 443 comes with section 2, which the second section of the key file follows.
passes : lacks_any Strict script ((asks 80 400 ∷ []) ∷ (asks 443 400 ∷ []) ∷ []) ≡ false
passes = refl

-- Line 4 is refused, since 85 is in 80-90. The refusal comes first, and the status is 1.
abbrev refused : Script
refused = record { schema = ports ∷ []; sections = adds 3 80 90 None ∷ adds 4 85 95 None ∷ []; last = 0 }

refusal : explain_text KeepGoing refused ((asks 80 0 ∷ []) ∷ []) ≡ codes "# line 4 refused overlap ip t p element 0\nip t p 80\n    element 0: 80-90 (line 3)\n"
unfolding digits value_text interval_text time_text
refusal = refl

refusal_fails : lacks_any KeepGoing refused ((asks 80 0 ∷ []) ∷ []) ≡ true
refusal_fails = refl
