use Rattle.std.proofs.Common.{◌≡◌, []}
use Rattle.call_tests.proofs.calls.shelf_of.Given as goal

-- no name was asked for yet
abbrev pub invariant-files : goal.invariant-files
invariant-files l = l.shelf.asked ≡ []
