-- The places of a value's groups in a list with an item for each group and each value of the group,
-- most significant group first.
use Rattle.std.specs.Prelude.{◌≡◌, ℕ, ◌+◌, ◌-◌, ◌*◌, ◌/◌, ◌^◌, ◌<◌}
use Rattle.field_groups.specs.Groups.{group}
use Rattle.field_groups.specs.declared.places.LastFour.{LastFour}

-- the place of group g of the value
pub record IsGroupPlace (width bits value g place : ℕ) : Type 0 where
  pub at : place ≡ g * 2 ^ width + group width bits g value
  pub within : place < bits / width * 2 ^ width

-- The places of the value's last four groups, and the number of groups before them. If a field has
-- fewer groups, its first group is there more than once.
pub record AreLastFour (width bits value : ℕ) (places : LastFour) : Type 0 where
  pub four : IsGroupPlace width bits value (bits / width - 4) places.fourth
  pub three : IsGroupPlace width bits value (bits / width - 3) places.third
  pub two : IsGroupPlace width bits value (bits / width - 2) places.second
  pub one : IsGroupPlace width bits value (bits / width - 1) places.last
  pub rest : places.rest ≡ bits / width - 4
