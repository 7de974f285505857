use Rattle.std.proofs.Common.{◌≡◌, ◌∙◌, ◌<◌, ◌++◌, sym, subst, ap, true, length, List, ℕ, Option, Some, slice_get, is_none}
use Rattle.std.proofs.lemmas.Option.{slice_get_within}
use Rattle.std.proofs.lemmas.Result.{on_ok_weaker, IfOk-weaker}
use Rattle.set_model.specs.declared.kind.Kind.{Kind}
use Rattle.set_model.specs.declared.script.SetDecl.{SetDecl}
use Rattle.set_model.specs.Key.{key_fits}
use Rattle.set_model.specs.SetState.{State}
use Rattle.key_answer.specs.Answer.{first_in}
use Rattle.key_answer.specs.Origin.{lines_of}
use Rattle.explain_answer.specs.Explained.{said_of}
use Rattle.explain_answer.proofs.RunLaws.{at-set}
use Rattle.explain_answer.proofs.section.write_one.Goals as goal

pub image-requires : goal.image-requires
image-requires c = (at-set c.args.trace.now.control.schema c.args.trace.now.control.work.base.sets c.args.packet.now c.requires.fits c.requires.sets).0

pub at-declared-requires : goal.at-declared-requires
at-declared-requires c =
    let within = slice_get_within c.args.trace.now.control.schema c.args.packet.now.set c.requires.fits.set c.requires.fits.declared in
    subst (λ (z : List SetDecl). c.from.result < length z) (sym c.schema.ensures) (subst (λ n. n < length c.args.trace.now.control.schema) (sym c.from.ensures) within)

pub write_in-requires-clause-kinds : goal.write_in-requires-clause-kinds
write_in-requires-clause-kinds c =
    let control = c.args.trace.now.control in
    let declared : slice_get control.schema c.args.packet.now.set ≡ Some c.at-declared.result.now = ap (slice_get control.schema) (sym c.from.ensures) ∙ ap (λ (z : List SetDecl). slice_get z c.from.result) (sym c.schema.ensures) ∙ c.at-declared.ensures in
    (c.requires.sets.each c.args.packet.now.set c.at-declared.result.now c.in_ok-image.image declared c.in_ok-image.ensures).kinds

pub write_in-requires-clause-key : goal.write_in-requires-clause-key
write_in-requires-clause-key c =
    let control = c.args.trace.now.control in
    let declared : slice_get control.schema c.args.packet.now.set ≡ Some c.at-declared.result.now = ap (slice_get control.schema) (sym c.from.ensures) ∙ ap (λ (z : List SetDecl). slice_get z c.from.result) (sym c.schema.ensures) ∙ c.at-declared.ensures in
    let same : c.requires.fits.set ≡ c.at-declared.result.now = cc (c.requires.fits.declared, declared) in
    subst (λ (d : SetDecl). key_fits d.kinds c.args.packet.now.key ≡ true) same c.requires.fits.fits

pub returns-clause-text : goal.returns-clause-text
returns-clause-text c =
    let control = c.args.trace.now.control in
    let p = c.args.packet.now in
    let old = c.args.out.now.items in
    let declared : slice_get control.schema p.set ≡ Some c.at-declared.result.now = ap (slice_get control.schema) (sym c.from.ensures) ∙ ap (λ (z : List SetDecl). slice_get z c.from.result) (sym c.schema.ensures) ∙ c.at-declared.ensures in
    on_ok_weaker c.write_in.result
    (λ wrote. wrote
    ∙ ap (λ (ls : List ℕ). old ++ said_of (Some c.at-declared.result.now) ls p (Some c.in_ok-image.image)) c.of-lines.ensures
    ∙ ap (λ (o : Option SetDecl). old ++ said_of o (lines_of c.args.trace.now.lines p.set) p (Some c.in_ok-image.image)) (sym declared)
    ∙ ap (λ (o : Option State). old ++ said_of (slice_get control.schema p.set) (lines_of c.args.trace.now.lines p.set) p o) (sym c.in_ok-image.ensures))
    c.write_in.ensures.text

pub returns-clause-lacks : goal.returns-clause-lacks
returns-clause-lacks c =
    let p = c.args.packet.now in
    IfOk-weaker c.write_in.result _ _ (λ lacks is. is ∙ ap (λ (o : Option State). is_none (first_in p.key p.now o)) (sym c.in_ok-image.ensures)) c.write_in.ensures.lacks
