use Rattle.std.proofs.Common.{◌≡◌, ◌∙◌, ◌||◌, ap, sym, false}
use Rattle.std.specs.List.{list_any}
use Rattle.set_model.specs.Control.{is_refusal}
use Rattle.control_desk.specs.Woven.{said}
use Rattle.desk_run.proofs.Telling.{refusal_of_log}
use Rattle.desk_run.proofs.whole.any_refusal.Goals as goal

pub returns-else-tells_refusal : goal.returns-else-tells_refusal
returns-else-tells_refusal c =
    let none : list_any is_refusal c.args.told.now ≡ false = ap (list_any is_refusal) (sym c.as_slice.ensures) ∙ sym c.tells_refusal.ensures ∙ c.if-tells_refusal.false in
    c.have_refusal.ensures ∙ ap (list_any (λ e. list_any is_refusal (said e))) c.as_slice-else-tells_refusal.ensures
    ∙ ap (λ b. b || list_any (λ e. list_any is_refusal (said e)) c.args.log.now) (sym none) ∙ refusal_of_log c.args.told.now c.args.log.now
