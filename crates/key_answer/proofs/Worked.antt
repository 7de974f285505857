-- Worked examples of the definitions. They compute, so the proof check refuses a wrong number.
use Rattle.std.specs.Prelude.{◌≡◌, refl, ℕ, List, [], ◌∷◌, ◌++◌, Some, None, Option, Bool, true, false, codes}
use Rattle.set_model.specs.declared.kind.Kind.TheVariants.{Service}
use Rattle.set_model.specs.declared.kind.Interval.{Interval}
use Rattle.set_model.specs.declared.element.NewElement.{NewElement}
use Rattle.set_model.specs.declared.packet.Packet.{Packet}
use Rattle.set_model.specs.declared.script.Family.TheVariants.{Ip}
use Rattle.set_model.specs.declared.script.Script.{Script}
use Rattle.set_model.specs.declared.script.SetDecl.{SetDecl}
use Rattle.set_model.specs.declared.script.Step.{Step}
use Rattle.set_model.specs.declared.script.Step.TheVariants.{Change, Commit, Abort}
use Rattle.set_model.specs.declared.script.Verb.TheVariants.{Add, Delete}
use Rattle.set_model.specs.Control.{Strict, KeepGoing}
use Rattle.std.specs.Fmt.{digits}
use Rattle.addr_text.specs.Written.{value_text, interval_text, time_text}
use Rattle.key_answer.specs.Origin.{traced}
use Rattle.key_answer.specs.Answer.{get_text, has_no_answer}

-- a set of ports
abbrev ports : SetDecl
ports = record { family = Ip; table = codes "t"; name = codes "p"; kinds = Service ∷ []; interval = true; timed = true; disjoint = false; timeout = None; size = None }

abbrev element : ℕ → ℕ → Option ℕ → List ℕ → NewElement
element low high expiry comment = record { parts = record { low = low; high = high } ∷ []; expiry = expiry; comment = comment }

-- an addition in this line, and a commit after it
abbrev adds : ℕ → ℕ → ℕ → Option ℕ → List Step
adds line low high expiry = Change line 0 Add (element low high expiry []) 0 ∷ Commit 0 ∷ []

-- Lines 3 and 4 add 80 and 20-90. Line 5 adds 443 and is taken back. Line 6 adds 8080, which gets the id 2 again.
-- Line 7 renews 20-90, which keeps its line.
abbrev script : Script
script = record {
  schema = ports ∷ [];
  sections = (adds 3 80 80 None ++ (adds 4 20 90 (Some 500) ++ (Change 5 0 Add (element 443 443 None []) 0 ∷ Abort ∷ []))) ∷ (adds 6 8080 8080 None ++ adds 7 20 90 (Some 900)) ∷ [];
  last = 400;
}

lines : (traced Strict 0 script.schema script.sections).lines ≡ 3 ∷ 4 ∷ 6 ∷ []
lines = refl

abbrev asks : ℕ → ℕ → Packet
asks port now = record { set = 0; key = port ∷ []; now = now }

-- 80 is in element 0, which came before 20-90.
earliest : get_text Strict script (asks 80 400) ≡ codes "element 0: 80 (line 3)\n"
unfolding digits value_text interval_text time_text
earliest = refl

-- 30 is in 20-90, which lives until 900.
renewed : get_text Strict script (asks 30 400) ≡ codes "element 1: 20-90 expires 500ms (line 4)\n"
unfolding digits value_text interval_text time_text
renewed = refl

-- The element that was given the id 2 in the end.
again : get_text Strict script (asks 8080 400) ≡ codes "element 2: 8080 (line 6)\n"
unfolding digits value_text interval_text time_text
again = refl

-- 443 was taken back, and 20-90 has expired at 900.
gone : get_text Strict script (asks 443 400) ≡ codes "none\n"
gone = refl

expired : get_text Strict script (asks 30 900) ≡ codes "none\n"
expired = refl

fails : has_no_answer Strict script (asks 443 400) ≡ true
fails = refl

passes : has_no_answer Strict script (asks 80 400) ≡ false
passes = refl

-- Line 4 is refused, since 85 is in 80-90. The refusal comes first, and the status is that of a refusal.
abbrev refused : Script
refused = record { schema = ports ∷ []; sections = (adds 3 80 90 None ++ adds 4 85 95 None) ∷ []; last = 0 }

refusal : get_text KeepGoing refused (asks 80 0) ≡ codes "# line 4 refused overlap ip t p element 0\nelement 0: 80-90 (line 3)\n"
unfolding digits value_text interval_text time_text
refusal = refl

refusal_fails : has_no_answer KeepGoing refused (asks 80 0) ≡ true
refusal_fails = refl
