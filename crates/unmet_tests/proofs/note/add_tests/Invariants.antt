use Rattle.std.proofs.Common.{◌≡◌, ◌++◌, take, flat_map}
use Rattle.unmet_tests.specs.UnmetText.{test_lines}
use Rattle.unmet_tests.proofs.note.add_tests.Given as goal

abbrev pub invariant-loop-test : goal.invariant-loop-test
invariant-loop-test l = l.note.bytes.items ≡ l.fn.note.bytes.items ++ flat_map (test_lines l.of.name.now l.of.text.now l.of.schema.now l.of.types.now) (take l.test-index l.tests)
