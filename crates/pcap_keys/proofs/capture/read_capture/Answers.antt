use Rattle.std.proofs.Common.{arith}
use Rattle.std.proofs.lemmas.List.Elements.{All-from_get_or}
use Rattle.frame_facts.proofs.Bits.{IsByte}
use Rattle.pcap_keys.proofs.FrameFits.{frames_have}
use Rattle.pcap_keys.proofs.capture.read_capture.Goals as goal

pub returns-clause-values : goal.returns-clause-values
returns-clause-values c = frames_have c.args.text.now (All-from_get_or IsByte c.args.text.now 0 (λ i b. omega (arith, c.type_inv.text i))) c.whole.result c.whole.ensures
