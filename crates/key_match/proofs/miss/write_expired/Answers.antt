use Rattle.std.proofs.Common.{◌∙◌, ap, sym, ◌++◌, Option, option_map, append-nil}
use Rattle.std.proofs.lemmas.Result.{on_ok_weaker}
use Rattle.std.specs.Borrow.{Bor}
use Rattle.set_model.specs.declared.element.Element.{Element}
use Rattle.key_match.specs.Matched.{plain, expired_text}
use Rattle.key_match.proofs.miss.write_expired.Goals as goal

pub returns-in-None : goal.returns-in-None
returns-in-None c = sym (append-nil c.args.out.now.items) ∙ ap (λ (o : Option (Bor Element)). c.args.out.now.items ++ expired_text (plain c.args.asked.now) (option_map (λ e. e.now) o)) (sym c.in-None.is)

pub returns-in-Some : goal.returns-in-Some
returns-in-Some c =
    on_ok_weaker c.write_expired_line.result
    (λ wrote. wrote ∙ ap (λ (o : Option (Bor Element)). c.args.out.now.items ++ expired_text (plain c.args.asked.now) (option_map (λ e. e.now) o)) (sym c.in-Some.is))
    c.write_expired_line.ensures
