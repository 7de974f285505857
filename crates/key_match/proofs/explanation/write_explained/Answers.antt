use Rattle.std.proofs.Common.{◌∙◌, ap, sym, ◌++◌, Option, option_map}
use Rattle.std.proofs.lemmas.Result.{on_ok_weaker}
use Rattle.std.specs.Borrow.{Bor}
use Rattle.set_model.specs.declared.element.Element.{Element}
use Rattle.key_match.specs.Matched.{plain, explained}
use Rattle.key_match.proofs.explanation.write_explained.Goals as goal

pub returns-in-None : goal.returns-in-None
returns-in-None c = on_ok_weaker c.write_miss.result (λ wrote. wrote ∙ ap (λ (o : Option (Bor Element)). c.args.out.now.items ++ explained (plain c.args.asked.now) (option_map (λ e. e.now) o)) (sym c.in-None.is)) c.write_miss.ensures

pub returns-in-Some : goal.returns-in-Some
returns-in-Some c = on_ok_weaker c.write_hit.result (λ wrote. wrote ∙ ap (λ (o : Option (Bor Element)). c.args.out.now.items ++ explained (plain c.args.asked.now) (option_map (λ e. e.now) o)) (sym c.in-Some.is)) c.write_hit.ensures
