use Rattle.std.proofs.Common.{rules, ◌<◌, ◌≤◌, ◌∷◌, [], length, Some, ap, sym, ◌∙◌, subst}
use lib.ListN.{length-map}
use Rattle.set_model.specs.Control.{first_generation}
use Rattle.gen_publish.specs.Publish.{AllFresh}
use Rattle.packet_pool.proofs.FreshReaders.{fresh_ready}
use Rattle.reader_speed.proofs.ReadyLaws.{are_ready}
use Rattle.reader_speed.proofs.course.Course.started.Goals as goal

pub returns-clause-ready : goal.returns-clause-ready
returns-clause-ready c =
    let made = c.in_ok-control.ensures in let readers = c.in_ok-control.readers.items in let control = c.in_ok-control.control in let schema = made.control.0 in
    let fresh = subst (λ z. AllFresh control.of control.schema z 0 readers) (sym made.control.2)
    (subst (λ s. AllFresh control.of s (first_generation c.in_ok-schema_of.field-0 ∷ []) 0 readers) (sym schema) made.readers.1) in
    let places = c.in_ok-at_places.field-0.items in
    let size = ap length c.in_ok-at_places.ensures ∙ length-map readers Some ∙ made.readers.0 in
    are_ready control places c.new.result (subst (λ n. 0 < n) (sym size) c.requires.0) (subst (λ n. n ≤ 16) (sym size) c.requires.1) (fresh_ready control readers places fresh c.in_ok-at_places.ensures) (search rules)
