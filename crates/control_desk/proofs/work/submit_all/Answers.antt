use Rattle.std.proofs.Common.{◌≡◌, ◌≤◌, ◌+◌, All, length, take, drop, get_or, ap, ◌<◌, sym, ◌∙◌, subst, arith}
use Rattle.std.proofs.lemmas.List.{take_all}
use Rattle.std.proofs.lemmas.Option.{get_or_from_slice_get}
use Rattle.packet_pool.proofs.Lists.{get_at}
use Rattle.set_model.specs.Runnable.{IsRunnableStep}
use Rattle.control_desk.specs.Turns.{Seated}
use Rattle.control_desk.specs.Work.{transactions}
use Rattle.control_desk.proofs.Working.{WentOn, nothing_done, one_more_done, all_done, fits_at, room_left, next_steps}
use Rattle.control_desk.proofs.work.submit_all.Goals as goal

pub steps-init : goal.steps-init
steps-init g c = record { within = omega arith; went = nothing_done c.args.keep_going c.args.clerk c.requires.newcomer }

pub go_on-requires-clause-pending : goal.go_on-requires-clause-pending
go_on-requires-clause-pending g c κs within = c.steps.invariant.went.opening

pub go_on-requires-clause-fits : goal.go_on-requires-clause-fits
go_on-requires-clause-fits g c κs within =
    let same = ap (λ (s : Seated). s.schema) c.steps.invariant.went.same in
    subst (λ z. All (IsRunnableStep z) c.as_slice-section.result.now) (sym same) (subst (All (IsRunnableStep c.args.clerk.schema)) (sym c.as_slice-section.ensures) c.requires.fits)

pub go_on-requires-clause-left : goal.go_on-requires-clause-left
go_on-requires-clause-left g c κs within = λ step at.
    let section = c.as_slice-section.result.now in let i = c.steps.i in
    let is : step ≡ get_or section i step = sym (get_or_from_slice_get section i step step at) in
    let most : transactions section ≤ c.args.clerk.left = subst (λ z. transactions z ≤ c.args.clerk.left) (sym c.as_slice-section.ensures) c.requires.left in
    room_left section i c.steps.clerk.left step c.args.clerk.left most (next_steps section i step (omega arith) is) c.steps.invariant.went.left

pub steps-preserved : goal.steps-preserved
steps-preserved g c =
    let section = c.as_slice-section.result.now in let i = c.steps.i in let next = c.in_ok-from.from in
    let here : i < length section = omega arith in
    let found = get_at section i here in
    let is : found.0 ≡ get_or section i found.0 = sym (get_or_from_slice_get section i found.0 found.0 found.1) in
    let gone = c.in_ok-from.ensures in record {
      within = gone.within;
      went = subst (λ z. WentOn c.args.keep_going z c.args.clerk c.go_on.new.clerk (drop next (take (i + 1) section))) (sym (next_steps section i found.0 here is))
          (one_more_done c.args.keep_going (take i section) found.0 c.args.clerk c.steps.clerk c.go_on.new.clerk (drop c.steps.from (take i section)) (drop next (take (i + 1) section))
          (fits_at c.args.clerk.schema section c.args.steps.now i found.0 c.as_slice-section.ensures here is c.requires.fits) c.steps.invariant.went (gone.gone found.0 found.1));
    }

pub returns : goal.returns
returns g c =
    let section = c.as_slice-section.result.now in let i = c.steps.i in
    let whole : take i section ≡ c.args.steps.now = take_all i section (omega arith) ∙ c.as_slice-section.ensures in
    all_done c.args.keep_going c.args.steps.now c.args.clerk c.steps.clerk (drop c.steps.from (take i section)) c.requires.closed
    (subst (λ z. WentOn c.args.keep_going z c.args.clerk c.steps.clerk (drop c.steps.from (take i section))) whole c.steps.invariant.went)
