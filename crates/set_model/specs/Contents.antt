-- The items of a list whose copies may share them: the list's own, or shared.
use Rattle.std.specs.Prelude.{List, Bool, true, false}
use Rattle.std.specs.Arc.{arc_value}
use Rattle.set_model.specs.declared.shared.Contents.{Contents}
use Rattle.set_model.specs.declared.shared.Contents.TheVariants.{Own, Common}

-- the items, own or shared
abbrev pub items_of : {T : Type 0} → Contents T → List T
items_of (Own items) = items.items
items_of (Common items) = (arc_value items).items

-- whether they are the list's own
abbrev pub is_own : {T : Type 0} → Contents T → Bool
is_own (Own _) = true
is_own (Common _) = false
