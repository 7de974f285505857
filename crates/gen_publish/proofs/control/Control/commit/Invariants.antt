use Rattle.gen_publish.proofs.control.Control.commit.Given as goal

-- the blank counter
abbrev pub ghosts-commit_with : goal.ghosts-commit_with
ghosts-commit_with a = record { name = a.blank.name; parts = a.blank.parts }
