use Rattle.pcap_keys.proofs.PlansLaws.{line_shorter}
use Rattle.pcap_keys.proofs.plan.next_line.Goals as goal

pub returns-clause-shorter : goal.returns-clause-shorter
returns-clause-shorter c = line_shorter _ _ _ _ _ _ c.line_or_break.ensures
