use Rattle.std.proofs.Common.{List, [], false, sym, ◌∙◌, subst}
use Rattle.set_model.specs.declared.report.Event.{Event}
use Rattle.set_model.specs.Control.{start}
use Rattle.packet_pool.specs.Running.{StandsAt, run}
use Rattle.script_laws.proofs.RunLaws.{start_stands}
use Rattle.key_answer.proofs.trace.Trace.new.Goals as goal

pub returns : goal.returns
returns c mode = let e = c.in_ok-control.ensures.control in record {
  stands = subst (λ (z : List Event). StandsAt [] (start c.args.schema.now) (run c.in_ok-control.control false z)) (sym c.new-2.ensures) (start_stands c.args.schema.now c.in_ok-control.control e.2 e.3);
  one_each = c.in_ok-lines.ensures.one_each ∙ c.len.ensures;
  lines_are = λ set within. c.in_ok-lines.ensures.none set;
  schema_is = e.0;
}
