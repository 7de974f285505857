use Rattle.std.proofs.Common.{◌≡◌, ◌++◌, ◌≤◌, length, take, drop, filter, flat_map}
use Rattle.set_model.specs.SetState.{answers}
use Rattle.key_match.specs.Matched.{plain, also_line}
use Rattle.key_match.proofs.hit.write_others.Given as goal

-- the elements so far
abbrev pub invariant-elements : goal.invariant-elements
invariant-elements l = record {
  text : l.out.items ≡ l.initial.out.items ++ flat_map (also_line (plain l.asked)) (take 8 (drop 1 (filter (answers l.asked.key.now l.asked.at) (take l.i l.asked.elements.now))));
  count : l.count ≡ length (filter (answers l.asked.key.now l.asked.at) (take l.i l.asked.elements.now));
  few : l.count ≤ l.i;
}
