use Rattle.std.proofs.Common.{sym, ◌∙◌, codes}
use Rattle.std.specs.List.{zip}
use Rattle.set_report.specs.ListText.{listed_table}
use Rattle.element_text.proofs.JoinLaws.{two_writes}
use Rattle.set_report.proofs.ListLaws.{joins_known, joins_table}
use Rattle.set_report.proofs.list.write_tables.Goals as goal

pub tables-preserved-then-has_table : goal.tables-preserved-then-has_table
tables-preserved-then-has_table c =
    joins_known (listed_table (zip c.args.schema.now c.args.generation.now.sets) c.args.now) (codes "\n") c.args.schema.now c.tables.place c.at-set.result.now _ _ _ c.at-set.ensures (sym c.has_table.ensures ∙ c.if-has_table.true) c.tables.invariant

pub tables-preserved : goal.tables-preserved
tables-preserved c =
    joins_table (listed_table (zip c.args.schema.now c.args.generation.now.sets) c.args.now) (codes "\n") c.args.schema.now c.tables.place c.at-set.result.now _ _ _ _ c.at-set.ensures (sym c.has_table.ensures ∙ c.if-has_table.false) c.tables.invariant
    (two_writes _ _ _ _ _ c.in_ok-write.ensures.ok c.in_ok-write_table.ensures.ok)
