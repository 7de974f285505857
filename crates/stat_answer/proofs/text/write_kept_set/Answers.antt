use Rattle.std.proofs.Common.{◌≡◌, ◌++◌, subst, OnOk}
use Rattle.set_model.specs.SetState.{State}
use Rattle.stat_answer.specs.StatText.{set_stat}
use Rattle.stat_answer.proofs.text.write_kept_set.Goals as goal

pub returns : goal.returns
returns c = subst (λ (s : State). OnOk c.write_set.result (c.write_set.new.out.items ≡ c.args.out.now.items ++ set_stat c.args.now (c.args.declared.now, s))) c.in_ok-image.ensures c.write_set.ensures
