use Rattle.command_words.proofs.words.thread_count.Goals as goal

pub written_number-requires : goal.written_number-requires
written_number-requires c = rw c.in-Some.is at c.requires
