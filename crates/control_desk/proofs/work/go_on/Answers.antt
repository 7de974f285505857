use Rattle.std.proofs.Common.{◌≡◌, ◌≤◌, ◌+◌, take, drop, Some, ap, sym, ◌∙◌, subst, arith, true, false, not}
use Rattle.std.proofs.lemmas.Option.{get_or_from_slice_get}
use Rattle.set_model.specs.Runnable.{opens}
use Rattle.control_desk.specs.Woven.{IsTransaction}
use Rattle.control_desk.specs.Work.{HasGone, HasSubmitted}
use Rattle.control_desk.proofs.Working.{open_more, open_slice, none_after, gone_open, gone_submitted, transaction_of}
use Rattle.control_desk.proofs.work.go_on.Goals as goal

pub submit_again-requires-clause-transaction : goal.submit_again-requires-clause-transaction
submit_again-requires-clause-transaction g c κs within =
    let section = c.args.section.now in let from = c.args.from in let i = c.args.i in let step = c.index-section-i.result in
    let closing : opens (Some step) ≡ false = c.ends.ensures ∙ ap not c.if-ends.true in
    subst IsTransaction (sym (open_slice section from i step c.requires.within.0 c.requires.within.1 c.index-section-i.is))
    (transaction_of (drop from (take i section)) step c.requires.pending closing)

pub returns-then-ends : goal.returns-then-ends
returns-then-ends g c =
    let section = c.args.section.now in let from = c.args.from in let i = c.args.i in let step = c.index-section-i.result in
    let old = c.args.clerk.now in let new = c.submit_again.new.clerk in let before = drop from (take i section) in
    let closing : opens (Some step) ≡ false = c.ends.ensures ∙ ap not c.if-ends.true in
    let whole = open_slice section from i step c.requires.within.0 c.requires.within.1 c.index-section-i.is in record {
      within = omega arith;
      gone = λ s at.
          subst (λ z. HasGone z c.args.keep_going old new before (drop (i + 1) (take (i + 1) section))) (c.index-section-i.is ∙ get_or_from_slice_get section i s step at)
          (subst (λ z. HasGone step c.args.keep_going old new before z) (sym (none_after section i))
          (gone_submitted step c.args.keep_going old new before c.requires.pending closing (subst (λ z. HasSubmitted z c.args.keep_going old new) whole c.in_ok-submit_again.ensures)));
    }

pub returns : goal.returns
returns g c =
    let section = c.args.section.now in let from = c.args.from in let i = c.args.i in let step = c.index-section-i.result in
    let old = c.args.clerk.now in let before = drop from (take i section) in let among : from ≤ i = c.requires.within.0 in
    let opening : opens (Some step) ≡ true = c.ends.ensures ∙ ap not c.if-ends.false in record {
      within = omega arith;
      gone = λ s at.
          subst (λ z. HasGone z c.args.keep_going old old before (drop from (take (i + 1) section))) (c.index-section-i.is ∙ get_or_from_slice_get section i s step at)
          (subst (λ z. HasGone step c.args.keep_going old old before z) (sym (open_more section from i step among c.requires.within.1 c.index-section-i.is))
          (gone_open step c.args.keep_going old before opening));
    }
