-- A worked example of a run's summary. It computes: a wrong number here is refused.
use Rattle.std.specs.Prelude.{◌≡◌, refl, [], ◌∷◌, None, false, codes}
use Rattle.std.specs.Fmt.{digits}
use Rattle.set_model.specs.declared.kind.Kind.TheVariants.{Service}
use Rattle.set_model.specs.declared.report.Why.TheVariants.{Overlap}
use Rattle.set_model.specs.declared.report.Event.TheVariants.{Refused, Committed, Aborted}
use Rattle.set_model.specs.declared.packet.Verdict.TheVariants as verdicts
use Rattle.set_model.specs.SetState.{State, empty_set, with_element}
use Rattle.set_model.specs.Control.{Generation}
use Rattle.set_report.specs.SummaryText.{summary_text}

-- A set of two ports and an empty one.
abbrev two_ports : State
two_ports =
    with_element (with_element (empty_set (Service ∷ []) None false) (record { parts = (record { low = 80; high = 80 }) ∷ []; expiry = None; comment = [] }))
    (record { parts = (record { low = 443; high = 443 }) ∷ []; expiry = None; comment = [] })

abbrev last : Generation
last = record { number = 3; sets = two_ports ∷ empty_set (Service ∷ []) None false ∷ [] }

-- One refusal, two matches of ids 1 and 7, and a packet that no element holds.
summary : summary_text
    (Committed 1 0 ∷ Refused 3 0 (Overlap 0) ∷ Aborted 1 ∷ [])
    ((record { packet = 0; thread = 0; generation = 3; verdict = verdicts.Element 1 })
    ∷ (record { packet = 1; thread = 1; generation = 3; verdict = verdicts.None })
    ∷ (record { packet = 2; thread = 0; generation = 2; verdict = verdicts.Element 7 }) ∷ [])
    last
    ≡ codes "drill elements 2 refused 1 generation 3 packets 3 matched 2 sum 8\n"
unfolding digits
summary = refl
