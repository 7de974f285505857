use Rattle.std.proofs.Common.{◌≡◌, ◌∙◌, ◌++◌, ◌∷◌, [], get_or, rules}
use Rattle.std.proofs.lemmas.List.{get_or_default}
use Rattle.script_laws.proofs.ReportLaws.{refusal-added, refusal-none}
use Rattle.script_laws.proofs.refusals.add_refusals.Goals as goal
use Rattle.script_laws.proofs.refusals.add_refusals.Goals.{in-Some+in_ok-push-in-Some, in-None}

pub loop-event-preserved : goal.loop-event-preserved
loop-event-preserved c =
    let events = c.args.events.now in let i = c.loop-event.event-index in let within = c.loop-event-test.true in
    let old = c.args.refusals.now.items in let so_far = c.loop-event.refusals.items in
    elim c.match-refusal_of.branch [
      | in-Some+in_ok-push-in-Some w ↦
          let more : c.match-refusal_of.refusals.items ≡ so_far ++ w.in-Some.refusal ∷ [] = search rules in
          refusal-added c.args.clerk events i (get_or events i _) within (get_or_default events i _ _ within) w.in-Some.refusal old so_far c.match-refusal_of.refusals.items w.in-Some.ensures c.loop-event.invariant more
      | in-None w ↦
          let same : c.match-refusal_of.refusals.items ≡ so_far = search rules in
          same ∙ refusal-none c.args.clerk events i (get_or events i _) within (get_or_default events i _ _ within) old so_far w.in-None.ensures c.loop-event.invariant
    ]
