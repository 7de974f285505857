use Rattle.reader_tests.proofs.slots.readers_beside_a_writer_never_go_back.Given as goal

abbrev pub ghosts-race : goal.ghosts-race
ghosts-race g a = record { name = a.blank.name; parts = a.blank.parts }
