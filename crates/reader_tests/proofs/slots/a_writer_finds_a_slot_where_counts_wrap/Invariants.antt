use Rattle.reader_tests.proofs.slots.a_writer_finds_a_slot_where_counts_wrap.Given as goal

abbrev pub ghosts-enter_from : goal.ghosts-enter_from
ghosts-enter_from g a = record { name = a.blank.name; parts = a.blank.parts }
