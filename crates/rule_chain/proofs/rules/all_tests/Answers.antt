use Rattle.std.proofs.Common.{◌≡◌, true, false}
use Rattle.token_forms.specs.View.{lexeme_of}
use Rattle.token_forms.proofs.LoopLaws.{left_stop, left_next, left_bad}
use Rattle.rule_chain.specs.RulesReading.{starts_test}
use Rattle.rule_chain.proofs.rules.all_tests.Goals as goal

pub returns-then-not-starts : goal.returns-then-not-starts
returns-then-not-starts c =
    let no : starts_test c.tests.tests (lexeme_of c.in-Some.t) ≡ false = let k = c.starts_a_test-starts.ensures in cc in
    left_stop c.tests.invariant c.in-Some.ensures.1 no

pub tests-preserved : goal.tests-preserved
tests-preserved c =
    let yes : starts_test c.tests.tests (lexeme_of c.in-Some.t) ≡ true = let k = c.starts_a_test-starts.ensures in cc in
    left_next c.tests.invariant c.in-Some.ensures.1 yes c.in-Ok.ensures.gives c.in-Ok.ensures.shorter

pub returns-in-Err : goal.returns-in-Err
returns-in-Err c =
    let yes : starts_test c.tests.tests (lexeme_of c.in-Some.t) ≡ true = let k = c.starts_a_test-starts.ensures in cc in
    left_bad c.in-Err.e _ c.tests.invariant c.in-Some.ensures.1 yes c.in-Err.ensures.gives
