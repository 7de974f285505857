use Rattle.lookup_table.proofs.LineLaws.{more-same}
use Rattle.lookup_table.proofs.lines.open_pages.Goals as goal

pub returns-clause-more : goal.returns-clause-more
returns-clause-more c = more-same _ _ _ _ c.add_pages.ensures.more c.own_plain_pages.ensures.items
