use Rattle.std.proofs.Common.{◌≡◌, length, map, find, option_map, drop}
use Rattle.addr_text.specs.IntervalsRead.{stands_first}
use Rattle.addr_text.proofs.interval.first_name.Given as goal

abbrev pub invariant-loop-name : goal.invariant-loop-name
invariant-loop-name l =
    option_map length (find (stands_first l.text) (map (λ n. n.now) l.names)) ≡ option_map length (find (stands_first l.text) (map (λ n. n.now) (drop l.name-index l.names)))
