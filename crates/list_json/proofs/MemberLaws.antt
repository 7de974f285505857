-- Intervals with members beside them.
use Rattle.std.proofs.Common.{◌≡◌, refl, ◌≤◌, List, [], ◌∷◌, length, codes, String, Global, arith}
use Rattle.serde_json.specs.Data.{Data, object, put}
use Rattle.serde_json.specs.View.{members_view}
use Rattle.serde_json.specs.declared.value.Value.{Value}
use Rattle.list_json.specs.JsonValues.{named}
use Rattle.list_json.specs.JsonSets.{with_intervals}

pub with-some : (d : Data) (es : List (String Global × Value)) → 1 ≤ length es → with_intervals d (members_view es) ≡ named (codes "elem") (object (put (codes "val") d (members_view es)))
with-some d [] some = absurd (omega (arith, some))
with-some d (e ∷ es) some = refl
