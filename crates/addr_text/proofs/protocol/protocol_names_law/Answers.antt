use Rattle.addr_text.proofs.ProtocolLaws.{name_unique, name_written, only_read}
use Rattle.addr_text.proofs.protocol.protocol_names_law.Goals as goal

pub returns-clause-names : goal.returns-clause-names
returns-clause-names c = name_unique

pub returns-clause-written : goal.returns-clause-written
returns-clause-written c = name_written

pub returns-clause-only_read : goal.returns-clause-only_read
returns-clause-only_read c = only_read
