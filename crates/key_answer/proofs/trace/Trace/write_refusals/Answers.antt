use Rattle.std.proofs.Common.{sym, subst, length, All, List}
use Rattle.std.proofs.lemmas.List.Elements.{All-filter}
use Rattle.set_model.specs.Control.{is_refusal}
use Rattle.set_model.specs.declared.report.Event.{Event}
use Rattle.set_model.specs.declared.script.SetDecl.{SetDecl}
use Rattle.set_report.specs.Writes.{NamesSet}
use Rattle.key_answer.proofs.trace.Trace.write_refusals.Goals as goal

pub write_events-requires : goal.write_events-requires
write_events-requires c =
    let control = c.args.self.now.control in
    subst (λ (z : List SetDecl). All (NamesSet (length z)) c.in_ok-refused.refused) (sym c.schema.ensures)
    (subst (λ (z : List Event). All (NamesSet (length control.schema)) z) (sym c.in_ok-refused.ensures) (All-filter is_refusal (NamesSet (length control.schema)) c.args.self.now.events c.requires))
