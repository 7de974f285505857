use Rattle.reader_tests.proofs.slots.readers_enter_what_was_published.Given as goal

abbrev pub ghosts-enter_from : goal.ghosts-enter_from
ghosts-enter_from g a = record { name = a.blank.name; parts = a.blank.parts }
