use Rattle.c_handles.proofs.Listed.{last_declared, as_declared}
use Rattle.c_handles.proofs.listing.text_of.Goals as goal

pub write_list-requires : goal.write_list-requires
write_list-requires c = as_declared c.args.control.now _ _ (last_declared c.args.control.now c.known.ensures.last c.known.ensures.grown) c.schema.ensures c.generation.ensures
