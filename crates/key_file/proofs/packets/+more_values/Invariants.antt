use Rattle.std.proofs.Common.{length}
use Rattle.key_file.proofs.packets.+more_values.Given as goal

abbrev pub decreases-more_values : goal.decreases-more_values
decreases-more_values l = length l.kinds.now
