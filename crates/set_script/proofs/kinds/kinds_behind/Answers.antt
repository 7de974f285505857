use Rattle.std.proofs.Common.{◌≡◌, true, false}
use Rattle.token_forms.specs.View.{lexeme_of}
use Rattle.token_forms.proofs.LoopLaws.{left_stop, left_next, left_bad}
use Rattle.set_script.specs.ScriptReading.{starts_kind}
use Rattle.set_script.proofs.kinds.kinds_behind.Goals as goal

pub returns-then-not-starts : goal.returns-then-not-starts
returns-then-not-starts c =
    let no : starts_kind c.kinds.kinds (lexeme_of c.in-Some.t) ≡ false = let k = c.starts_a_kind-starts.ensures c.kinds.kinds in cc in
    left_stop c.kinds.invariant c.in-Some.ensures.1 no

pub kinds-preserved : goal.kinds-preserved
kinds-preserved c =
    let yes : starts_kind c.kinds.kinds (lexeme_of c.in-Some.t) ≡ true = let k = c.starts_a_kind-starts.ensures c.kinds.kinds in cc in
    left_next c.kinds.invariant c.in-Some.ensures.1 yes c.in-Ok.ensures.gives c.in-Ok.ensures.shorter

pub returns-in-Err : goal.returns-in-Err
returns-in-Err c =
    let yes : starts_kind c.kinds.kinds (lexeme_of c.in-Some.t) ≡ true = let k = c.starts_a_kind-starts.ensures c.kinds.kinds in cc in
    left_bad c.in-Err.e _ c.kinds.invariant c.in-Some.ensures.1 yes c.in-Err.ensures.gives
