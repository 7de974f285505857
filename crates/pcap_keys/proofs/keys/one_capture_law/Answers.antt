use Rattle.pcap_keys.proofs.OneCapture.{one_capture}
use Rattle.pcap_keys.proofs.keys.one_capture_law.Goals as goal

pub returns : goal.returns
returns c = λ packets other. one_capture c.args._schema.now c.args._plan.now c.args._capture.now packets other
