-- Worked examples of packets' lines with elements. They compute, so the proof check refuses a wrong text.
use Rattle.std.specs.Prelude.{◌≡◌, refl, ℕ, List, [], ◌∷◌, Some, None, true, false, codes}
use Rattle.std.specs.Fmt.{digits}
use Rattle.addr_text.specs.Written.{value_text, interval_text}
use Rattle.set_model.specs.declared.kind.Kind.TheVariants.{Service}
use Rattle.set_model.specs.declared.packet.Packet.{Packet}
use Rattle.set_model.specs.declared.packet.Verdict.TheVariants as verdicts
use Rattle.set_model.specs.declared.report.Line.{Line}
use Rattle.set_model.specs.declared.script.Family.TheVariants.{Ip}
use Rattle.set_model.specs.declared.script.Script.{Script}
use Rattle.set_model.specs.declared.script.SetDecl.{SetDecl}
use Rattle.set_model.specs.declared.script.Step.{Step}
use Rattle.set_model.specs.declared.script.Step.TheVariants.{Change, Commit, Abort}
use Rattle.set_model.specs.declared.script.Verb.TheVariants.{Add}
use Rattle.set_model.specs.Control.{Strict}
use Rattle.element_lines.specs.Additions.{addition_of}
use Rattle.element_lines.specs.ElementLines.{element_lines}

-- a set of ports
abbrev ports : SetDecl
ports = record { family = Ip; table = codes "t"; name = codes "p"; kinds = Service ∷ []; interval = true; timed = true; disjoint = false; timeout = None; size = None }

-- an addition to a set in this line, with a comment
abbrev adds : ℕ → ℕ → ℕ → ℕ → List ℕ → Step
adds line set low high comment = Change line set Add (record { parts = record { low = low; high = high } ∷ []; expiry = None; comment = comment }) 0

-- Line 3 adds 80 to set 0, and line 4 adds 20-30 to set 1. Both get id 0. Line 5 adds 90 to set 0, which is taken back, so id 1 is
-- given again to 443 of line 7, and id 2 to 444 of the same line.
abbrev script : Script
script = record {
  schema = ports ∷ ports ∷ [];
  sections = (adds 3 0 80 80 (codes "web") ∷ adds 4 1 20 30 [] ∷ Commit 0 ∷ adds 5 0 90 90 [] ∷ Abort ∷ []) ∷ [] ∷ (adds 7 0 443 443 [] ∷ adds 7 0 444 444 (codes "b") ∷ Commit 0 ∷ []) ∷ [];
  last = 0;
}

-- the element that the abort takes back has no addition
taken_back : addition_of Strict script 0 1 ≡ Some (adds 7 0 443 443 [])
taken_back = refl

renewed_id : addition_of Strict script 0 2 ≡ Some (adds 7 0 444 444 (codes "b"))
renewed_id = refl

other_set : addition_of Strict script 1 0 ≡ Some (adds 4 1 20 30 [])
other_set = refl

never_made : addition_of Strict script 1 1 ≡ None
never_made = refl

abbrev asks : ℕ → ℕ → Packet
asks set port = record { set = set; key = port ∷ []; now = 0 }

abbrev keys : List (List Packet)
keys = (asks 0 80 ∷ asks 1 25 ∷ []) ∷ (asks 0 81 ∷ []) ∷ (asks 0 444 ∷ []) ∷ []

abbrev found : ℕ → ℕ → ℕ → Line
found packet generation id = record { packet = packet; thread = 0; generation = generation; verdict = verdicts.Element id }

abbrev none : ℕ → ℕ → Line
none packet generation = record { packet = packet; thread = 0; generation = generation; verdict = verdicts.None }

told : element_lines Strict script keys (found 0 1 0 ∷ found 1 1 0 ∷ none 2 1 ∷ found 3 2 2 ∷ [])
    ≡ codes "packet 0 thread 0 generation 1 element 0 { 80 comment \"web\" } line 3\npacket 1 thread 0 generation 1 element 0 { 20-30 } line 4\npacket 2 thread 0 generation 1 none\npacket 3 thread 0 generation 2 element 2 { 444 comment \"b\" } line 7\n"
unfolding digits value_text interval_text
told = refl
