use Rattle.std.proofs.Common.{◌≡◌, true, false}
use Rattle.token_forms.specs.View.{lexeme_of}
use Rattle.token_forms.proofs.LoopLaws.{left_stop, left_next, left_bad}
use Rattle.set_script.specs.ScriptReading.{starts_flag}
use Rattle.set_script.proofs.sets.flags_behind.Goals as goal

pub returns-then-not-starts-clause-gives : goal.returns-then-not-starts-clause-gives
returns-then-not-starts-clause-gives c =
    let no : starts_flag c.flags.b (lexeme_of c.in-Some.t) ≡ false = let k = c.starts_a_flag-starts.ensures c.flags.b in cc in
    left_stop c.flags.invariant.0 c.in-Some.ensures.1 no

pub flags-preserved : goal.flags-preserved
flags-preserved c =
    let yes : starts_flag c.flags.b (lexeme_of c.in-Some.t) ≡ true = let k = c.starts_a_flag-starts.ensures c.flags.b in cc in
    (left_next c.flags.invariant.0 c.in-Some.ensures.1 yes c.in-Ok.ensures.gives c.in-Ok.ensures.shorter, c.in-Ok.ensures.short)

pub returns-in-Err-clause-gives : goal.returns-in-Err-clause-gives
returns-in-Err-clause-gives c =
    let yes : starts_flag c.flags.b (lexeme_of c.in-Some.t) ≡ true = let k = c.starts_a_flag-starts.ensures c.flags.b in cc in
    left_bad c.in-Err.e _ c.flags.invariant.0 c.in-Some.ensures.1 yes c.in-Err.ensures.gives
