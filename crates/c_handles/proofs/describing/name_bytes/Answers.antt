use Rattle.c_handles.proofs.Described.{name_back}
use Rattle.c_handles.proofs.describing.name_bytes.Goals as goal

pub returns : goal.returns
returns c = name_back c.args.name.now c.write_front.new.buffer c.requires c.write_front.ensures
