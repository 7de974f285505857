use Rattle.std.proofs.Common.{length}
use Rattle.command_words.proofs.form.+place_among.Given as goal

abbrev pub decreases-place_among : goal.decreases-place_among
decreases-place_among l = length l.words.now
