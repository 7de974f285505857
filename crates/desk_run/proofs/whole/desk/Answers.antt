use Rattle.std.proofs.Common.{◌≡◌, ◌∙◌, ap, sym, subst, ◌++◌, true≢false, Some, List, All, length, length-drop, arith}
use Rattle.std.proofs.lemmas.List.Elements.{All-drop}
use Rattle.set_model.specs.declared.script.Script.{Script}
use Rattle.set_model.specs.declared.script.SetDecl.{SetDecl}
use Rattle.set_model.specs.declared.script.Step.{Step}
use Rattle.set_model.specs.Runnable.{EndsClosed, IsRunnableStep}
use Rattle.set_report.specs.ListText.{list_text}
use Rattle.set_report.specs.Remarks.{remarks_text}
use Rattle.set_report.specs.Writes.{AreSetsOf, NamesSet}
use Rattle.script_laws.proofs.Lists.{All-section}
use Rattle.script_laws.proofs.RunLaws.{closed-at}
use Rattle.control_desk.specs.declared.entry.Entry.{Entry}
use Rattle.control_desk.specs.Woven.{said}
use Rattle.desk_run.specs.DeskText.{log_text}
use Rattle.desk_run.proofs.Telling.{done_script, log_named, reports, sets_declared, told_named}
use Rattle.desk_run.proofs.whole.desk.Goals as goal

pub run_first-requires-clause-steps : goal.run_first-requires-clause-steps
run_first-requires-clause-steps g c κs within = subst (All (IsRunnableStep c.args.script.schema)) (sym c.take_first-first.ensures.first) (All-section (IsRunnableStep c.args.script.schema) c.args.script.sections 0 c.requires.script.steps)

pub run_first-requires-clause-closed : goal.run_first-requires-clause-closed
run_first-requires-clause-closed g c κs within = subst EndsClosed (sym c.take_first-first.ensures.first) (closed-at c.args.script.sections 0 c.requires.script.closed)

pub run_later-requires-clause-few : goal.run_later-requires-clause-few
run_later-requires-clause-few g c κs within = let rest = ap length c.take_first-first.ensures.others in let size = length-drop 1 c.args.script.sections in let most = c.requires.clerks in omega (arith, rest, size, most)

pub run_later-requires-clause-steps : goal.run_later-requires-clause-steps
run_later-requires-clause-steps g c κs within = subst (λ (z : List SetDecl × List (List Step)). All (All (IsRunnableStep z.0)) z.1) (λ i. (sym c.in_ok-control.ensures.schema i, sym c.take_first-first.ensures.others i))
    (All-drop (All (IsRunnableStep c.args.script.schema)) 1 c.args.script.sections c.requires.script.steps)

pub run_later-requires-clause-closed : goal.run_later-requires-clause-closed
run_later-requires-clause-closed g c κs within = subst (All EndsClosed) (sym c.take_first-first.ensures.others) (All-drop EndsClosed 1 c.args.script.sections c.requires.script.closed)

pub write_desk-requires-clause-told : goal.write_desk-requires-clause-told
write_desk-requires-clause-told g c = subst (λ (s : List SetDecl). All (NamesSet (length s)) c.in_ok-control.told) (sym c.in_ok-declared.ensures)
    (told_named c.args.script c.args.keep_going c.take_first-first.result c.take_first-first.new.sections c.in_ok-control.control c.in_ok-control-2.control c.in_ok-control.told c.in_ok-control-2.log
    c.take_first-first.ensures.first c.take_first-first.ensures.others c.in_ok-control.ensures.stands c.in_ok-control-2.ensures)

pub write_desk-requires-clause-log : goal.write_desk-requires-clause-log
write_desk-requires-clause-log g c = subst (λ (s : List SetDecl). All (λ (e : Entry). All (NamesSet (length s)) (said e)) c.in_ok-control-2.log) (sym c.in_ok-declared.ensures)
    (log_named c.args.script c.args.keep_going c.take_first-first.result c.take_first-first.new.sections c.in_ok-control.control c.in_ok-control-2.control c.in_ok-control.told c.in_ok-control-2.log
    c.take_first-first.ensures.first c.take_first-first.ensures.others c.in_ok-control.ensures.stands c.in_ok-control-2.ensures)

pub write_desk-requires-clause-sets : goal.write_desk-requires-clause-sets
write_desk-requires-clause-sets g c = subst (λ (s : List SetDecl). AreSetsOf s c.in_ok-control-2.control.work.base.sets) (sym c.in_ok-declared.ensures)
    (sets_declared c.args.script c.args.keep_going c.take_first-first.result c.take_first-first.new.sections c.in_ok-control.control c.in_ok-control-2.control c.in_ok-control.told c.in_ok-control-2.log
    c.take_first-first.ensures.first c.take_first-first.ensures.others c.in_ok-control.ensures.stands c.in_ok-control-2.ensures)

pub returns : goal.returns
returns g c =
    let out = c.in_ok-output.output in let wrote = c.in_ok-output.ensures in
    reports c.args.script c.args.keep_going c.take_first-first.result c.take_first-first.new.sections c.in_ok-control.control c.in_ok-control-2.control c.in_ok-control.told c.in_ok-control-2.log
    c.take_first-first.ensures.first c.take_first-first.ensures.others c.in_ok-control.ensures.stands c.in_ok-control-2.ensures out
    (subst (λ (s : List SetDecl). out.text.items ≡ remarks_text s c.in_ok-control.told ++ (log_text s c.in_ok-control-2.log ++ list_text s c.in_ok-control-2.control.work.base.sets c.args.script.last)) c.in_ok-declared.ensures wrote.0)
    wrote.1 wrote.2 wrote.3 (λ refused. absurd (true≢false (sym refused ∙ c.if-output.false)))

pub returns-then-output : goal.returns-then-output
returns-then-output g c =
    let out = c.in_ok-output.output in let wrote = c.in_ok-output.ensures in
    let done : Script = record { schema = c.in_ok-declared.declared; sections = c.in_ok-done.done; last = c.args.script.last } in
    reports c.args.script c.args.keep_going c.take_first-first.result c.take_first-first.new.sections c.in_ok-control.control c.in_ok-control-2.control c.in_ok-control.told c.in_ok-control-2.log
    c.take_first-first.ensures.first c.take_first-first.ensures.others c.in_ok-control.ensures.stands c.in_ok-control-2.ensures (record out { script = Some done })
    (subst (λ (s : List SetDecl). out.text.items ≡ remarks_text s c.in_ok-control.told ++ (log_text s c.in_ok-control-2.log ++ list_text s c.in_ok-control-2.control.work.base.sets c.args.script.last)) c.in_ok-declared.ensures wrote.0)
    wrote.1 wrote.2 wrote.3
    (λ refused. ap Some (done_script c.args.script c.args.keep_going c.take_first-first.result c.take_first-first.new.sections c.in_ok-control.control c.in_ok-control-2.control c.in_ok-control.told c.in_ok-control-2.log
    c.take_first-first.ensures.first c.take_first-first.ensures.others c.in_ok-control.ensures.stands c.in_ok-control-2.ensures c.in_ok-declared.declared c.in_ok-done.done c.in_ok-declared.ensures c.in_ok-done.ensures))
