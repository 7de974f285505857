use Rattle.std.proofs.Common.{ℕ, ◌<◌, get_or}
use Rattle.lookup_table.specs.declared.table.FieldTable.{FieldTable}
use Rattle.lookup_table.specs.Rules.{IsOwn}
use Rattle.pipapo_image.specs.Index.Built.{EachChanged}
use Rattle.pipapo_image.specs.Index.Grow.{IsKept}
use Rattle.pipapo_image.specs.Index.Runs.{run_at}
use Rattle.pipapo_image.proofs.index.pages.own_buckets.Given as goal

abbrev pub invariant-fields : goal.invariant-fields
invariant-fields l = record {
  kept : EachChanged IsKept l.initial.fields l.fields;
  own : (k : ℕ) (t : FieldTable) → k < l.f → IsOwn (run_at l.runs k).first (get_or l.fields k t).rules (get_or l.fields k t);
}
