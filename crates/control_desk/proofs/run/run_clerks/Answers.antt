use Rattle.std.proofs.Common.{rules, ◌≡◌, Some, Ok, IfOk, Result, List, ap, sym, ◌∙◌, subst, slice_get, option_map, length, arith}
use Rattle.std.proofs.lemmas.Option.{slice_get_within, slice_get-map, get_or_from_slice_get}
use lib.ListN.{length-map}
use Rattle.packet_pool.proofs.Lists.{get_at}
use Rattle.set_model.specs.declared.memory.Memory.{Memory}
use Rattle.control_desk.specs.Turns.{Seated}
use Rattle.control_desk.specs.Work.{HasDoneOf, IsRun}
use Rattle.control_desk.proofs.Weaving.{all_share, run_of}
use denote.Param.Send.{IsSend, sendable}
use Rattle.control_desk.specs.contracts.clerk.Clerk as Clerk
use Rattle.control_desk.proofs.Sending.{clerk_send}
use Rattle.control_desk.proofs.run.run_clerks.Goals as goal

pub close-requires : goal.close-requires
close-requires g c =
    let jobs = c.args.clerks.items in let done = c.in_ok-clerks.clerks.items in let desk = c.requires.one_desk in let some = c.requires.some in
    let len : length c.in_ok-done.done.items ≡ length jobs = search rules in
    let same_size : length done ≡ length jobs = sym (length-map done Ok) ∙ sym (ap length c.in_ok-clerks.ensures) ∙ len in
    let first = get_at done 0 (let a = some.0 in omega (arith, a, same_size)) in (
      first.0,
      first.1,
      all_share desk.0 desk.1 desk.2 c.args.sections.now c.args.keep_going jobs done desk.3 some.1 same_size
          (λ place a b at_a at_b.
          let at : slice_get c.in_ok-done.done.items place ≡ Some (Ok b) = ap (λ (z : List (Result Seated Memory)). slice_get z place) c.in_ok-clerks.ensures ∙ slice_get-map Ok done place ∙ ap (option_map Ok) at_b in
          let gave = (c.in_ok-done.ensures.each place (Ok b) (slice_get_within jobs place a at_a)).1 in
          subst (λ j. HasDoneOf c.args.sections.now c.args.keep_going j b) (sym (gave.job_is a) ∙ get_or_from_slice_get jobs place a a at_a)
          (subst (λ o. IfOk o (HasDoneOf c.args.sections.now c.args.keep_going gave.job)) (get_or_from_slice_get c.in_ok-done.done.items place (Ok b) (Ok b) at) gave.call.met))
          first.0 first.1,
    )

pub returns : goal.returns
returns g c = λ first at_first.
    let jobs = c.args.clerks.items in let done = c.in_ok-clerks.clerks.items in let desk = c.requires.one_desk in let some = c.requires.some in
    let len : length c.in_ok-done.done.items ≡ length jobs = search rules in
    let same_size : length done ≡ length jobs = sym (length-map done Ok) ∙ sym (ap length c.in_ok-clerks.ensures) ∙ len in
    let own = get_at done 0 (let a = some.0 in omega (arith, a, same_size)) in
    let base = ap (λ (s : Seated). s.base) (desk.3.each 0 first at_first) in
    subst (λ z. IsRun c.args.sections.now c.args.keep_going z c.close.result.0 c.close.result.1) (sym base)
    (run_of desk.0 desk.1 desk.2 c.args.sections.now c.args.keep_going jobs done desk.3 some.1 same_size
    (λ place a b at_a at_b.
    let at : slice_get c.in_ok-done.done.items place ≡ Some (Ok b) = ap (λ (z : List (Result Seated Memory)). slice_get z place) c.in_ok-clerks.ensures ∙ slice_get-map Ok done place ∙ ap (option_map Ok) at_b in
    let gave = (c.in_ok-done.ensures.each place (Ok b) (slice_get_within jobs place a at_a)).1 in
    subst (λ j. HasDoneOf c.args.sections.now c.args.keep_going j b) (sym (gave.job_is a) ∙ get_or_from_slice_get jobs place a a at_a)
    (subst (λ o. IfOk o (HasDoneOf c.args.sections.now c.args.keep_going gave.job)) (get_or_from_slice_get c.in_ok-done.done.items place (Ok b) (Ok b) at) gave.call.met))
    c.close.result.0 c.close.result.1 own.0 own.1 (c.close.ensures own.0 own.1) (let a = some.0 in let b = some.1 in omega (arith, a, b)))

pub map_vec-requires-send-J : goal.map_vec-requires-send-J
map_vec-requires-send-J g c κs within = let a : IsSend Clerk.the_field.row = clerk_send in search sendable depth 20

pub map_vec-requires-send-X : goal.map_vec-requires-send-X
map_vec-requires-send-X g c κs within = let a : IsSend Clerk.the_field.row = clerk_send in search sendable depth 20
