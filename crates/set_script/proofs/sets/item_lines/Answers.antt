use Rattle.std.proofs.Common.{◌≡◌, true, false}
use Rattle.token_forms.specs.View.{lexeme_of}
use Rattle.token_forms.proofs.LoopLaws.{left_stop, left_next, left_bad}
use Rattle.token_forms.specs.Words.{any_word, separates}
use Rattle.token_forms.specs.WordReading.{is_line_start}
use Rattle.set_script.proofs.sets.item_lines.Goals as goal

pub returns-then-not-starts-clause-gives : goal.returns-then-not-starts-clause-gives
returns-then-not-starts-clause-gives c =
    let no : is_line_start separates any_word c.lines.next (lexeme_of c.in-Some.t) ≡ false = let k = c.starts_statement_line-starts.ensures in cc in
    left_stop c.lines.invariant.0 c.in-Some.ensures.1 no

pub lines-preserved : goal.lines-preserved
lines-preserved c =
    let yes : is_line_start separates any_word c.lines.next (lexeme_of c.in-Some.t) ≡ true = let k = c.starts_statement_line-starts.ensures in cc in
    (left_next c.lines.invariant.0 c.in-Some.ensures.1 yes c.in-Ok.ensures.gives c.in-Ok.ensures.shorter, c.in-Ok.ensures.short)

pub returns-in-Err-clause-gives : goal.returns-in-Err-clause-gives
returns-in-Err-clause-gives c =
    let yes : is_line_start separates any_word c.lines.next (lexeme_of c.in-Some.t) ≡ true = let k = c.starts_statement_line-starts.ensures in cc in
    left_bad c.in-Err.e _ c.lines.invariant.0 c.in-Some.ensures.1 yes c.in-Err.ensures.gives
