use Rattle.script_start.proofs.starting.read.Goals as goal

pub refusal_of-requires : goal.refusal_of-requires
refusal_of-requires c = λ s h. rw c.in-Err-Bad.field-0-is at (c.in-Err-Bad.ensures.only s h)
