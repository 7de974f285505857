use Rattle.std.proofs.Common.{suc, length}
use Rattle.frame_facts.specs.Transports.{after_headers}
use Rattle.frame_facts.proofs.Headers.{Left}
use Rattle.frame_facts.proofs.transport.after_headers.Given as goal

abbrev pub invariant-headers : goal.invariant-headers
invariant-headers l = Left l.next l.bytes (after_headers (suc (length l.payload)) l.first l.payload)

abbrev pub decreases-headers : goal.decreases-headers
decreases-headers l = length l.bytes
