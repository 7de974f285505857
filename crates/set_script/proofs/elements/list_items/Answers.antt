use Rattle.std.proofs.Common.{◌≡◌, true, false}
use Rattle.token_forms.specs.View.{lexeme_of}
use Rattle.token_forms.proofs.LoopLaws.{left_stop, left_next, left_bad}
use Rattle.set_script.specs.ScriptReading.{starts_element}
use Rattle.set_script.proofs.elements.list_items.Goals as goal

pub returns-then-not-starts : goal.returns-then-not-starts
returns-then-not-starts c =
    let no : starts_element (c.items.steps, c.items.next) (lexeme_of c.in-Some.t) ≡ false = let k = c.starts_a_list_item-starts.ensures c.items.steps in cc in
    left_stop c.items.invariant c.in-Some.ensures.1 no

pub items-preserved : goal.items-preserved
items-preserved c =
    let yes : starts_element (c.items.steps, c.items.next) (lexeme_of c.in-Some.t) ≡ true = let k = c.starts_a_list_item-starts.ensures c.items.steps in cc in
    left_next c.items.invariant c.in-Some.ensures.1 yes c.in-Ok.ensures.gives c.in-Ok.ensures.shorter

pub returns-in-Err : goal.returns-in-Err
returns-in-Err c =
    let yes : starts_element (c.items.steps, c.items.next) (lexeme_of c.in-Some.t) ≡ true = let k = c.starts_a_list_item-starts.ensures c.items.steps in cc in
    left_bad c.in-Err.e _ c.items.invariant c.in-Some.ensures.1 yes c.in-Err.ensures.gives
