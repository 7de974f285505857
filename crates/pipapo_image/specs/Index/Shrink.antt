-- What a leaving element does to an index.
use Rattle.std.specs.Prelude.{◌≡◌, ℕ, suc, ◌+◌, ◌-◌, ◌<◌, ◌≤◌, List, length, drop, get_or, Option, Some, None, All}
use Rattle.lookup_table.specs.declared.table.FieldTable.{FieldTable}
use Rattle.lookup_table.specs.Rules.{IsOwn, KeepsRules, DropsRules}
use Rattle.lookup_table.specs.Width.{width_of}
use Rattle.mapping_table.specs.Spared.{Spared, OwnsFrom}
use Rattle.set_tables.specs.declared.Span.{Span}
use Rattle.set_tables.specs.Rows.{spans_without, ends_without}
use Rattle.pipapo_image.specs.declared.index.Index.{Index}
use Rattle.pipapo_image.specs.Index.Built.{Built, Passed}
use Rattle.pipapo_image.specs.Index.Grow.{chosen}
use Rattle.pipapo_image.specs.Index.Runs.{run_at}

-- the same rules in groups of the width that is right without a run, on pages that are the table's
-- own from the run on
pub record IsRegrouped (run : Span) (t u : FieldTable) : Type 0 where
  pub width : u.width ≡ width_of t.bits (t.rules - run.count)
  pub bits : u.bits ≡ t.bits
  pub rules : u.rules ≡ t.rules
  pub stands : KeepsRules t u
  pub own : IsOwn run.first u.rules u

-- a table of another width, if the field needs one without the rules of a run
abbrev pub IsOtherWithout : Span → FieldTable → Option FieldTable → Type 0
IsOtherWithout run t None = t.width ≡ width_of t.bits (t.rules - run.count)
IsOtherWithout run t (Some u) = IsRegrouped run t u

-- such a table, or none, for each of the first n fields
abbrev pub AreOthersWithout : List FieldTable → List Span → List (Option FieldTable) → ℕ → Type 0
AreOthersWithout fields runs others n = Built (λ f o. (t : FieldTable) → IsOtherWithout (run_at runs f) (get_or fields f t) o) others n

-- the table without the rules of a run
pub record IsShrunk (run : Span) (a b : FieldTable) : Type 0 where
  pub width : b.width ≡ a.width
  pub bits : b.bits ≡ a.bits
  pub rules : b.rules + run.count ≡ a.rules
  pub stands : DropsRules a b run.first run.count

-- Each table, or its replacement, has the rules of its run, on pages that are its own from there
-- on.
pub record AreWithin (fields : List FieldTable) (others : List (Option FieldTable)) (runs : List Span) : Type 0 where
  pub one_each : length runs ≡ length fields
  pub one_other : length others ≡ length fields
  pub within : (f : ℕ) (t : FieldTable) → f < length fields → (run_at runs f).first + (run_at runs f).count ≤ (chosen (get_or others f None) (get_or fields f t)).rules
  pub own : (f : ℕ) (t : FieldTable) → f < length fields
      → IsOwn (run_at runs f).first (chosen (get_or others f None) (get_or fields f t)).rules (chosen (get_or others f None) (get_or fields f t))

-- Each mapping has the spans of its run, on pages that are its own from there on. The later spans
-- begin after the next field's run.
pub record AreSpansWithin (maps : List (Spared Span)) (runs : List Span) : Type 0 where
  pub one_more : length runs ≡ length maps + 1
  pub within : (f : ℕ) (m : Spared Span) → f < length maps → (run_at runs f).first + (run_at runs f).count ≤ length (get_or maps f m).items
  pub later : (f : ℕ) (m : Spared Span) → f < length maps → All (λ s. (run_at runs (suc f)).count ≤ s.first) (drop ((run_at runs f).first + (run_at runs f).count) (get_or maps f m).items)
  pub own : (f : ℕ) (m : Spared Span) → f < length maps → OwnsFrom (run_at runs f).first (get_or maps f m)

-- The pages from each run on are the tables' own.
pub record OwnsRuns (index : Index) (runs : List Span) : Type 0 where
  pub fields : (f : ℕ) (t : FieldTable) → f < length index.fields → IsOwn (run_at runs f).first (get_or index.fields f t).rules (get_or index.fields f t)
  pub maps : (f : ℕ) (m : Spared Span) → f < length index.maps → OwnsFrom (run_at runs f).first (get_or index.maps f m)
  pub ends : OwnsFrom (run_at runs (length runs - 1)).first index.ends

-- The index has the rules of these runs, all of one element, on pages that are its own from there
-- on.
pub record IsDroppable (index : Index) (others : List (Option FieldTable)) (runs : List Span) : Type 0 where
  pub some : 1 ≤ length runs
  pub fields : AreWithin index.fields others runs
  pub maps : AreSpansWithin index.maps runs
  pub ends_own : OwnsFrom (run_at runs (length runs - 1)).first index.ends
  pub ends_within : (run_at runs (length runs - 1)).first + (run_at runs (length runs - 1)).count ≤ length index.ends.items
  pub ends_later : All (λ e. 1 ≤ e.place) (drop ((run_at runs (length runs - 1)).first + (run_at runs (length runs - 1)).count) index.ends.items)

-- Each part is without its run.
pub record IsDropped (old new : Index) (others : List (Option FieldTable)) (runs : List Span) : Type 0 where
  pub fields : Passed (λ f a b. IsShrunk (run_at runs f) (chosen (get_or others f None) a) b) old.fields new.fields (length old.fields)
  pub maps : Passed (λ f a b. b.items ≡ spans_without a.items (run_at runs f).first (run_at runs f).count (run_at runs (suc f)).count) old.maps new.maps (length old.maps)
  pub ends : new.ends.items ≡ ends_without old.ends.items (run_at runs (length runs - 1)).first (run_at runs (length runs - 1)).count
