use Rattle.addr_text.proofs.BlockLaws.{is_block_sound, is_block_complete}
use Rattle.addr_text.proofs.interval_text.block_law.Goals as goal

pub returns : goal.returns
returns c = (is_block_sound c.args._kind c.args._part, is_block_complete c.args._kind c.args._part)
