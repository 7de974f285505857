-- The sets that a commit leaves as they are.
use Rattle.std.specs.Prelude.{◌≡◌, ℕ, count_by, Some, slice_get}
use Rattle.set_model.specs.SetState.{State}
use Rattle.expiry_scan.specs.Expired.{is_expired}
use Rattle.set_space.specs.Open.{Open, sealed}

-- Take a set that is as in the base, and of which no element is expired at the moment of a commit.
-- The next generation has the same set: the same elements in the same order with their ids, of the
-- same kinds. So it has the same rules and widths, which the definition makes of the kinds and the
-- elements.
abbrev pub KeepsUnchanged : Type 0
KeepsUnchanged = (w : Open) (now set : ℕ) (s : State) → slice_get w.base.sets set ≡ Some s → slice_get w.sets set ≡ Some s → count_by (is_expired now) s.elements ≡ 0
    → slice_get (sealed w now).sets set ≡ slice_get w.base.sets set
