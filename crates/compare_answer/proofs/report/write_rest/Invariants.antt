use Rattle.std.proofs.Common.{◌≡◌, ◌++◌, take}
use Rattle.std.specs.List.{list_any}
use Rattle.compare_answer.specs.Compared.{is_alone, alone_text}
use Rattle.compare_answer.proofs.report.write_rest.Given as goal

-- the lines on the sets so far are written
abbrev pub invariant-sets : goal.invariant-sets
invariant-sets l = record {
  any : l.any ≡ list_any (is_alone l.others) (take l.set-index l.set-items);
  text : l.out.items ≡ l.initial.out.items ++ alone_text l.file l.others (take l.set-index l.set-items);
}
