-- How much memory a page takes.
use Rattle.std.specs.Prelude.{◌≤◌, ℕ, length, max, vec_capacity}
use Rattle.set_model.specs.declared.shared.Contents.{Contents}
use Rattle.set_model.specs.declared.shared.Contents.TheVariants.{Own, Common}
use Rattle.set_model.specs.Contents.{items_of}

-- How many items a page's own vector has room for. A common page counts as 0, since nobody writes
-- to it.
abbrev pub room_of : {T : Type 0} → Contents T → ℕ
room_of (Own items) = vec_capacity items
room_of (Common items) = 0

-- A page's own vector has room for no more than the larger of 512 and its items.
abbrev pub TakesNoMore : {T : Type 0} → Contents T → Type 0
TakesNoMore contents = room_of contents ≤ max 512 (length (items_of contents))
