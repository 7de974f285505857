use Rattle.std.proofs.Common.{◌≡◌, ◌-◌, ◌<◌, List, ℕ, length}
use Rattle.std.specs.Io.KnownBytes.{Consumes}
use Rattle.pip_base.proofs.whole.read_through.Given as goal

-- what has been read was at the front of the file, and no fault has come
abbrev pub invariant-reads : goal.invariant-reads
invariant-reads g l = record {
  picked : (m : ℕ) → g.F.Shelf.is_picked l.initial.shelf m → g.F.Shelf.is_picked l.shelf m;
  read : Consumes (g.F.Shelf.left l.initial.shelf l.file) (g.F.Shelf.left l.shelf l.file) l.all.items;
  told : (name : List ℕ) → g.F.Shelf.told l.shelf name ≡ g.F.Shelf.told l.initial.shelf name;
  others : (m : ℕ) → (m ≡ l.file → ⊥) → g.F.Shelf.left l.shelf m ≡ g.F.Shelf.left l.initial.shelf m;
  asked : g.F.Shelf.asked l.shelf ≡ g.F.Shelf.asked l.initial.shelf;
  faults : g.F.Shelf.faults l.shelf ≡ g.F.Shelf.faults l.initial.shelf;
  room : 0 < length l.piece;
}

abbrev pub decreases-reads : goal.decreases-reads
decreases-reads g l = 67108865 - length l.all.items
