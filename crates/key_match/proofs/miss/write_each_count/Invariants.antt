use Rattle.std.proofs.Common.{◌≡◌, ◌++◌, take, flat_map}
use Rattle.key_match.specs.Holders.{fields}
use Rattle.key_match.specs.Matched.{plain, count_text}
use Rattle.key_match.proofs.miss.write_each_count.Given as goal

-- the fields so far
abbrev pub invariant-fields : goal.invariant-fields
invariant-fields l = l.out.items ≡ l.initial.out.items ++ flat_map (count_text (plain l.asked)) (take l.field (fields l.asked.key.now))
