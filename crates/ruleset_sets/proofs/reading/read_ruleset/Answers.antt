use Rattle.ruleset_sets.proofs.KeptLaws.{unread}
use Rattle.ruleset_sets.proofs.reading.read_ruleset.Goals as goal

pub returns-in-Err-Bad-clause-only : goal.returns-in-Err-Bad-clause-only
returns-in-Err-Bad-clause-only c = unread _ _ _ _ _ _ c.as_slice.ensures.value c.in-Err-Bad.field-0-is c.in-Ok.ensures.text c.in-Err-Bad.ensures.only
