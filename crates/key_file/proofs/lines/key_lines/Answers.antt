use Rattle.std.proofs.Common.{◌≡◌, true, false}
use Rattle.token_forms.specs.View.{lexeme_of}
use Rattle.token_forms.specs.Words.{any_word, breaks_off}
use Rattle.token_forms.specs.WordReading.{is_line_start}
use Rattle.token_forms.proofs.LoopLaws.{left_stop, left_next, left_bad}
use Rattle.key_file.proofs.lines.key_lines.Goals as goal

pub returns-then-not-starts : goal.returns-then-not-starts
returns-then-not-starts c =
    let no : is_line_start breaks_off any_word c.lines.next (lexeme_of c.in-Some.t) ≡ false = let k = c.starts_line_or_break-starts.ensures in cc in
    left_stop c.lines.invariant c.in-Some.ensures.1 no

pub lines-preserved : goal.lines-preserved
lines-preserved c =
    let yes : is_line_start breaks_off any_word c.lines.next (lexeme_of c.in-Some.t) ≡ true = let k = c.starts_line_or_break-starts.ensures in cc in
    left_next c.lines.invariant c.in-Some.ensures.1 yes c.in-Ok.ensures.gives c.in-Ok.ensures.shorter

pub returns-in-Err : goal.returns-in-Err
returns-in-Err c =
    let yes : is_line_start breaks_off any_word c.lines.next (lexeme_of c.in-Some.t) ≡ true = let k = c.starts_line_or_break-starts.ensures in cc in
    left_bad c.in-Err.e _ c.lines.invariant c.in-Some.ensures.1 yes c.in-Err.ensures.gives
