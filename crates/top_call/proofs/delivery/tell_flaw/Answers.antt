use Rattle.top_call.proofs.delivery.tell_flaw.Goals as goal

pub returns-in-Script : goal.returns-in-Script
returns-in-Script g c = rw c.in-Script.is (search c.deliver_placed.ensures)

pub returns-in-Keys : goal.returns-in-Keys
returns-in-Keys g c = rw c.in-Keys.is (search c.deliver_placed-in-Keys.ensures)

pub returns-in-Rules : goal.returns-in-Rules
returns-in-Rules g c = rw c.in-Rules.is (search c.deliver_placed-in-Rules.ensures)

pub returns-in-SecondScript : goal.returns-in-SecondScript
returns-in-SecondScript g c = rw c.in-SecondScript.is (search c.deliver_placed-in-SecondScript.ensures)

pub returns-in-Ruleset : goal.returns-in-Ruleset
returns-in-Ruleset g c = rw c.in-Ruleset.is (search c.deliver_placed-in-Ruleset.ensures)
