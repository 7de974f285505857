use Rattle.std.proofs.Common.{◌≡◌, ap, ◌∙◌, length, count_by, ◌++◌}
use Rattle.std.proofs.lemmas.Result.{on_ok_weaker}
use Rattle.expiry_scan.specs.Expired.{is_expired}
use Rattle.stat_answer.specs.Figures.{ages_of}
use Rattle.stat_answer.specs.StatText.{next_end, set_front}
use Rattle.stat_answer.specs.declared.ages.Ages.{Ages}
use Rattle.stat_answer.proofs.FigureLaws.{two-parts}
use Rattle.stat_answer.proofs.text.write_set_line.Goals as goal

pub returns : goal.returns
returns c =
    let d = c.args.set.now in
    let es = c.args.elements.now in
    let now = c.args.now in
    let expiring = ap (λ (a : Ages). a.expiring) c.ages_at-ages.ensures in
    let next = ap (λ (a : Ages). a.next) c.ages_at-ages.ensures in
    on_ok_weaker c.write_next.result
    (λ last. two-parts c.args.out.now.items c.write_front.new.out.items _ (set_front d (length es) (count_by (is_expired now) es) (ages_of now es).expiring) (next_end now (ages_of now es).next)
    (c.in_ok-write_front.ensures ∙ (λ j. c.args.out.now.items ++ set_front d (c.len.ensures j) (c.count_expired.ensures j) (expiring j)))
    (last ∙ ap (λ n. c.write_front.new.out.items ++ next_end now n) next))
    c.write_next.ensures
