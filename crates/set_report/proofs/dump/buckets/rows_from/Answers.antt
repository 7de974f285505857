use Rattle.std.proofs.Common.{◌≡◌, sym, ◌+◌, [], ◌∷◌, ◌++◌, subst, rules}
use Rattle.set_report.specs.DumpBuckets.{AreRowsFrom}
use Rattle.set_report.proofs.DumpGroups.{none-yet, one-more}
use Rattle.set_report.proofs.dump.buckets.rows_from.Goals as goal

pub rows-init : goal.rows-init
rows-init c = none-yet c.args.buckets.now.rows c.args.first c.new-rows.result.items c.new-rows.ensures.items

pub rows-preserved : goal.rows-preserved
rows-preserved c =
    let items : c.push.new.self.items ≡ c.rows.rows.items ++ c.in_ok-row.field-0 ∷ [] = search rules in
    subst (λ rows. AreRowsFrom c.args.buckets.now.rows c.args.first (c.rows.v + 1) rows) (sym items)
    (one-more c.args.buckets.now.rows c.args.first c.rows.v c.rows.rows.items c.in_ok-row.field-0 c.in_ok-row.ensures c.rows.invariant)
