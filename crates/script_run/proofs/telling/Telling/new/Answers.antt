use Rattle.std.proofs.Common.{refl, ap, sym, ◌∙◌, length, Some, subst, List}
use Rattle.std.proofs.lemmas.List.{length-map}
use Rattle.set_model.specs.Control.{Generation}
use Rattle.set_model.specs.declared.script.SetDecl.{SetDecl}
use Rattle.gen_publish.specs.Publish.{AllFresh}
use Rattle.packet_pool.proofs.FreshReaders.{fresh_ready}
use Rattle.script_run.proofs.telling.Telling.new.Goals as goal

pub returns : goal.returns
returns c = let e = c.in_ok-control.ensures.control in let r = c.in_ok-control.ensures.readers in let control = c.in_ok-control.control in record {
  schema_is = e.0;
  committed = e.2;
  work = e.3;
  threads_are = ap length c.in_ok-all.ensures ∙ length-map c.in_ok-control.readers.items Some ∙ r.0;
  ready = fresh_ready control c.in_ok-control.readers.items c.in_ok-all.all.items
      (subst (λ (z : List SetDecl × List Generation). AllFresh control.of z.0 z.1 0 c.in_ok-control.readers.items) (λ i. (sym e.0 i, sym e.2 i)) r.1) c.in_ok-all.ensures;
  packets = refl;
  text = c.new.ensures.text;
  refused = c.new.ensures.refused;
  refusals = c.new.ensures.refusals;
  failed = c.new.ensures.failed;
}
