use Rattle.input_files.proofs.keys_told.+further_keys.Given as goal

abbrev pub decreases-further_keys : goal.decreases-further_keys
decreases-further_keys l = l.most
