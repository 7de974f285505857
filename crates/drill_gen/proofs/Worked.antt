-- Worked examples of the generated workload. They compute: a wrong number here is refused.
use Rattle.std.specs.Prelude.{◌≡◌, refl, ◌+◌, ◌*◌, List, [], ◌∷◌, map, None}
use Rattle.std.specs.List.{range_with_len}
use Rattle.set_model.specs.declared.kind.Interval.{Interval}
use Rattle.set_model.specs.declared.element.NewElement.{NewElement}
use Rattle.set_model.specs.declared.script.Verb.TheVariants.{Add}
use Rattle.set_model.specs.declared.script.Step.TheVariants.{Change, Commit}
use Rattle.drill_gen.specs.Drill.{draw, drill_script, packet_key}

-- The first draws of seed 1: four for each of two elements, and two for packet 0.
draws : map (draw 1) (range_with_len 0 10) ≡ 33676 ∷ 11517 ∷ 20227 ∷ 35031 ∷ 62103 ∷ 11254 ∷ 46021 ∷ 14839 ∷ 32425 ∷ 8173 ∷ []
draws = refl

-- an element of these intervals, with no expiry and no comment
abbrev element : List Interval → NewElement
element parts = record { parts = parts; expiry = None; comment = [] }

-- 131.140.44.253-131.140.45.0 . 35031-35046 and 242.151.43.246-242.151.44.187 . 14839-14842
elements : (drill_script 1 2).sections
    ≡ (Change 1 0 Add (element ((record { low = 2207001853; high = 2207001856 }) ∷ (record { low = 35031; high = 35046 }) ∷ [])) 0
    ∷ Change 2 0 Add (element ((record { low = 4069993462; high = 4069993659 }) ∷ (record { low = 14839; high = 14842 }) ∷ [])) 0
    ∷ Commit 0 ∷ []) ∷ []
elements = refl

-- Packet 0 lies in element 1, 55 addresses and one port after its low ends.
near : packet_key 1 2 0 ≡ (4069993462 + 55) ∷ (14839 + 1) ∷ []
near = refl

-- Packet 1 has an address in 21.122.0.0/16, which no element holds.
anywhere : packet_key 1 2 1 ≡ (21 * 16777216 + 122 * 65536 + 25535) ∷ 18168 ∷ []
anywhere = refl
