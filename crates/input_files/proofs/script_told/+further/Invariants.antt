use Rattle.input_files.proofs.script_told.+further.Given as goal

abbrev pub decreases-further : goal.decreases-further
decreases-further l = l.most
