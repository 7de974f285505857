use Rattle.std.proofs.Common.{sym, ◌∙◌, ap, ◌++◌, map, append-nil}
use Rattle.std.specs.List.{zip}
use Rattle.serde_json.specs.View.{view}
use Rattle.list_json.specs.JsonSets.{table_and_sets}
use Rattle.list_json.proofs.TableLaws.{table-known, table-more}
use Rattle.list_json.proofs.tables.push_tables.Goals as goal

pub tables-init : goal.tables-init
tables-init c = sym (append-nil (map view c.args.values.now.items))

pub tables-preserved-then-has_table : goal.tables-preserved-then-has_table
tables-preserved-then-has_table c =
    c.tables.invariant
    ∙ ap (λ ds. map view c.args.values.now.items ++ ds)
    (table-known (table_and_sets (zip c.args.schema.now c.args.generation.now.sets) c.args.now) c.args.schema.now c.tables.place c.at-set.result.now c.at-set.ensures (sym c.has_table.ensures ∙ c.if-has_table.true))

pub tables-preserved : goal.tables-preserved
tables-preserved c =
    table-more (table_and_sets (zip c.args.schema.now c.args.generation.now.sets) c.args.now) c.args.schema.now c.tables.place c.at-set.result.now _ _ _ c.at-set.ensures (sym c.has_table.ensures ∙ c.if-has_table.false) c.tables.invariant
    c.in_ok-push_table.ensures
