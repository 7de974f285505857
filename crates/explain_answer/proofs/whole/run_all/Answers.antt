use Rattle.std.proofs.Common.{◌≡◌, ◌∙◌, ◌+◌, ◌++◌, ap, sym, ℕ, List, length, flat_map}
use Rattle.std.specs.List.{enumerate_from}
use Rattle.set_model.specs.Control.{mode_of}
use Rattle.explain_answer.specs.Explained.{section_text}
use Rattle.explain_answer.proofs.RunLaws.{done-as}
use Rattle.explain_answer.proofs.whole.run_all.Goals as goal

pub do_next-requires-clause-done : goal.do_next-requires-clause-done
do_next-requires-clause-done g c κs within = c.in_ok-trace.ensures (mode_of c.args.keep_going)

pub do_rest-requires-clause-done : goal.do_rest-requires-clause-done
do_rest-requires-clause-done g c κs within = done-as (mode_of c.args.keep_going) c.args.script.now (length c.args.keys.now + 1) (c.len.result + 1) c.write_sections.new.trace (ap (λ (n : ℕ). n + 1) (sym c.len.ensures)) c.in_ok-lacks.ensures.done

pub returns-clause-text : goal.returns-clause-text
returns-clause-text g c = c.in_ok-lacks.ensures.text ∙ ap (λ (z : List ℕ). z ++ flat_map (section_text (mode_of c.args.keep_going) c.args.script.now) (enumerate_from 0 c.args.keys.now)) c.new-text.ensures.items
