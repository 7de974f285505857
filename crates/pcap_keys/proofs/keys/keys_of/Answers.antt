use Rattle.pcap_keys.proofs.KeyFits.{packets_fit}
use Rattle.pcap_keys.proofs.keys.keys_of.Goals as goal

pub returns-clause-fit : goal.returns-clause-fit
returns-clause-fit c = packets_fit c.args.plan.now c.args.frames.now c.all_packets.result c.all_packets.ensures
