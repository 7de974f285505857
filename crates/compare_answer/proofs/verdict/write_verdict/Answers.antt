use Rattle.compare_answer.specs.Plain.{plain_set}
use Rattle.compare_answer.proofs.VerdictLaws.{say-types, not-true}
use Rattle.compare_answer.proofs.verdict.write_verdict.Goals as goal

pub returns-then-not-have_same_kinds : goal.returns-then-not-have_same_kinds
returns-then-not-have_same_kinds c =
    say-types (plain_set c.args.first.now) (plain_set c.args.second.now) c.args.out.now.items _ (not-true c.have_same_kinds.result _ c.have_same_kinds.ensures (search c.if-not-have_same_kinds.true)) c.in_ok-append_pieces.ensures.ok
