use Rattle.std.proofs.Common.{length, [], ◌∷◌, List, Option, Some, ap, sym, ◌∙◌, subst}
use lib.ListN.{length-map}
use Rattle.set_model.specs.Control.{first_generation}
use Rattle.gen_publish.specs.Publish.{AllFresh, ReaderView, Steering}
use Rattle.packet_pool.specs.Work.{AllReady}
use Rattle.packet_pool.proofs.FreshReaders.{fresh_ready}
use Rattle.reader_tests.proofs.packets.prepare.Goals as goal

pub returns-clause-ready : goal.returns-clause-ready
returns-clause-ready c =
    let made = c.in_ok-control.ensures in let readers = c.in_ok-control.readers.items in let control = c.in_ok-control.control in let schema = made.control.0 in
    let fresh = subst (λ z. AllFresh control.of control.schema z 0 readers) (sym made.control.2)
    (subst (λ s. AllFresh control.of s (first_generation c.in_ok-one_set.field-0 ∷ []) 0 readers) (sym schema) made.readers.1) in
    let places = c.in_ok-at_places.field-0.items in let ready = fresh_ready control readers places fresh c.in_ok-at_places.ensures in
    let kept = c.in_ok-fill.ensures.kept in (
      ap length kept.1 ∙ ap length c.in_ok-at_places.ensures ∙ length-map readers Some ∙ made.readers.0,
      subst (λ (k : Steering). AllReady k c.fill.new.self.readers.items) (sym kept.0) (subst (λ (z : List (Option ReaderView)). AllReady control z) (sym kept.1) ready),
    )
