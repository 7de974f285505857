use Rattle.std.proofs.Common.{◌≡◌, ◌-◌, ◌++◌, All, length, ap, sym, ◌∙◌, subst, arith, IfOk, OnErr}
use Rattle.std.specs.Arc.{arc_value}
use Rattle.atomic_table.specs.Seated.{TableId}
use Rattle.history_laws.specs.Histories.{StartsWith}
use Rattle.history_laws.proofs.Prefixes.{starts_through}
use Rattle.set_model.specs.Runnable.{IsRunnableStep}
use Rattle.gen_publish.specs.Publish.{Grown}
use Rattle.log_turns.specs.LogSteps.{MayGive}
use Rattle.control_desk.specs.Woven.{HasSeen}
use Rattle.control_desk.specs.Turns.{Seated, HadTurn, IsLogged, IsUnlogged, IsStale}
use Rattle.control_desk.proofs.Fitting.{same_kinds, fits_all}
use Rattle.control_desk.proofs.Submitting.{log_of, base_of, number_of, clerk_of, own_kept, may_give, logged, unlogged, stale}
use Rattle.control_desk.proofs.clerk.Clerk.submit_steps.Goals as goal

pub do_turn-answer-requires-clause-fits : goal.do_turn-answer-requires-clause-fits
do_turn-answer-requires-clause-fits g c =
    let book = c.take_turn-ticket.result.1 in let known = c.known.ensures in let mine = (arc_value c.self.inside.board).shared.key.first.value.control.schema in
    let some = known.from.0 in let within = known.from.1 in
    let grown = subst (Grown mine 0) (sym c.take_turn-ticket.ensures.finds.based) c.self.invariant.6 in
    let same = same_kinds mine book.control.schema book.control.committed book.from some (omega (arith, some, within)) grown known.grown in
    fits_all mine book.control.schema same c.args.steps.now (subst (λ (s : Seated). All (IsRunnableStep s.schema) c.args.steps.now) (sym c.self.view_is) c.requires.fits)

pub end_turn-requires-clause-seat : goal.end_turn-requires-clause-seat
end_turn-requires-clause-seat g c = let turn = c.take_turn-ticket.ensures.seat in
    ((c.self.inside.number, ap (λ m. m.0.role) turn ∙ c.self.invariant.2), ap (λ m. m.0.stage) turn, ap (λ m. m.0.ticket) turn, ap (λ m. m.1) turn)

pub end_turn-requires-clause-value : goal.end_turn-requires-clause-value
end_turn-requires-clause-value g c = λ k role.
    let turn = c.take_turn-ticket.ensures.seat in let did = c.do_turn-answer.ensures in let number : c.self.inside.number ≡ k = (let both = sym c.self.invariant.2 ∙ sym (ap (λ m. m.0.role) turn) ∙ role in cc both) in
    let left = ap (λ m. m.0.left) turn in let had = ap (λ (s : Seated). s.left) c.self.view_is in let some_left = c.requires.left in
    subst (λ n. MayGive log_of base_of number_of clerk_of n c.take_turn-ticket.new.place.me.0 c.do_turn-answer.new.book) number
    (may_give c.self.inside.number c.args.steps.now c.args.keep_going c.take_turn-ticket.new.place.me.0 c.take_turn-ticket.result.1 c.do_turn-answer.new.book c.self.inside.newest c.do_turn-answer.result (ap (λ m. m.0.took) turn) (omega (arith, left, had, some_left)) did.ok did.number did.err)

pub invariant_of-self : goal.invariant_of-self
invariant_of-self g c =
    let turn = c.take_turn-ticket.ensures.seat in let book = c.take_turn-ticket.result.1 in let end = c.end_turn.ensures.seat book (ap (λ m. m.0.took) turn) in let did = c.do_turn-answer.ensures in let inv = c.self.invariant in
    let tables = c.end_turn.ensures.table ∙ c.take_turn-ticket.ensures.table in
    let left = ap (λ m. m.0.left) turn in let had = ap (λ (s : Seated). s.left) c.self.view_is in let some_left = c.requires.left in
    let may = may_give c.self.inside.number c.args.steps.now c.args.keep_going c.take_turn-ticket.new.place.me.0 book c.do_turn-answer.new.book c.self.inside.newest c.do_turn-answer.result (ap (λ m. m.0.took) turn) (omega (arith, left, had, some_left)) did.ok did.number did.err in
    let took : may.took ≡ book = (let both = sym may.was ∙ ap (λ m. m.0.took) turn in cc both) in
    let base = ap (λ m. m.0.base) end ∙ ap (λ m. m.0.base) turn in
    let based : base_of c.do_turn-answer.new.book ≡ c.end_turn.new.place.me.0.base = may.base_is ∙ ap base_of took ∙ c.take_turn-ticket.ensures.finds.based ∙ sym base in (
      tables ∙ inv.0,
      subst (λ (z : TableId). (z.words ≡ 2) × (z.slots ≡ 1)) (sym tables) inv.1,
      ap (λ m. m.0.role) end ∙ ap (λ m. m.0.role) turn ∙ inv.2,
      ap (λ m. m.0.stage) end,
      ap (λ m. m.1) end,
      subst (λ n. HasSeen c.end_turn.new.place.me.0.base c.end_turn.new.place.me.0.seen n) (sym (c.number-newest.ensures ∙ ap number_of c.book.view_is))
          (subst (λ z. HasSeen c.end_turn.new.place.me.0.base z (number_of c.do_turn-answer.new.book)) (sym (ap (λ m. m.0.seen) end)) (subst (λ z. HasSeen z c.do_turn-answer.new.book.log (number_of c.do_turn-answer.new.book)) based c.known-2.ensures.last)),
      subst (Grown (arc_value c.self.inside.board).shared.key.first.value.control.schema 0) (sym base) inv.6,
    )

pub returns-clause-turn : goal.returns-clause-turn
returns-clause-turn g c =
    let turn = c.take_turn-ticket.ensures.seat in let book = c.take_turn-ticket.result.1 in let end = c.end_turn.ensures.seat book (ap (λ m. m.0.took) turn) in let did = c.do_turn-answer.ensures in let place = c.end_turn.new.place in
    let schema = (arc_value c.self.inside.board).shared.key.first.value.control.schema in
    let left = ap (λ m. m.0.left) turn in let had = ap (λ (s : Seated). s.left) c.self.view_is in let some_left = c.requires.left in
    let may = may_give c.self.inside.number c.args.steps.now c.args.keep_going c.take_turn-ticket.new.place.me.0 book c.do_turn-answer.new.book c.self.inside.newest c.do_turn-answer.result (ap (λ m. m.0.took) turn) (omega (arith, left, had, some_left)) did.ok did.number did.err in
    let took : may.took ≡ book = (let both = sym may.was ∙ ap (λ m. m.0.took) turn in cc both) in
    let more : StartsWith c.do_turn-answer.new.book.log book.log = (may.added, may.log_is ∙ ap (λ b. log_of b ++ may.added) took) in
    let tables = c.end_turn.ensures.table ∙ c.take_turn-ticket.ensures.table in let threads = ap (λ m. m.0.threads) end ∙ ap (λ m. m.0.threads) turn in let base = ap (λ m. m.0.base) end ∙ ap (λ m. m.0.base) turn in
    subst (λ (old : Seated). HadTurn old (record { of = place.table_id; schema = schema; threads = place.me.0.threads; number = c.self.inside.number; base = place.me.0.base; seen = place.me.0.seen; left = place.me.0.left })) c.self.view_is record {
      sees_more = subst (λ z. StartsWith z c.self.inside.place.me.0.seen) (sym (ap (λ m. m.0.seen) end)) (starts_through c.do_turn-answer.new.book.log book.log c.self.inside.place.me.0.seen more c.take_turn-ticket.ensures.finds.begins);
      same = λ i. record { of = tables i; schema = schema; threads = threads i; number = c.self.inside.number; base = base i; seen = place.me.0.seen; left = place.me.0.left };
    }

pub returns-clause-ok : goal.returns-clause-ok
returns-clause-ok g c =
    let turn = c.take_turn-ticket.ensures.seat in let book = c.take_turn-ticket.result.1 in let end = c.end_turn.ensures.seat book (ap (λ m. m.0.took) turn) in let did = c.do_turn-answer.ensures in let place = c.end_turn.new.place in
    let before = c.self.inside.place in let schema = (arc_value c.self.inside.board).shared.key.first.value.control.schema in let number = c.self.inside.number in let finds = c.take_turn-ticket.ensures.finds in
    let old : Seated = record { of = before.table_id; schema = schema; threads = before.me.0.threads; number = number; base = before.me.0.base; seen = before.me.0.seen; left = before.me.0.left } in
    let then : Seated = record { of = place.table_id; schema = schema; threads = place.me.0.threads; number = number; base = place.me.0.base; seen = place.me.0.seen; left = place.me.0.left } in
    let left = ap (λ m. m.0.left) end ∙ ap (λ m. m.0.left - (length c.do_turn-answer.new.book.log - length book.log)) turn in
    let had = ap (λ (s : Seated). s.left) c.self.view_is in let some_left = c.requires.left in
    subst (λ (o : Seated). IfOk c.do_turn-answer.result (IsLogged c.args.steps.now c.args.keep_going o then)) c.self.view_is
    (logged c.args.steps.now c.args.keep_going old then book c.do_turn-answer.new.book c.self.inside.newest (ap (λ m. m.0.seen) end) left c.do_turn-answer.result
    finds.begins (own_kept before.me.0 number before.me.0.threads book c.self.invariant.2 finds.keeps) c.self.invariant.5 (subst (λ z. HasSeen z book.log (number_of book)) finds.based c.known.ensures.last) (omega (arith, had, some_left)) did.ok)

pub returns-clause-none : goal.returns-clause-none
returns-clause-none g c =
    let turn = c.take_turn-ticket.ensures.seat in let book = c.take_turn-ticket.result.1 in let end = c.end_turn.ensures.seat book (ap (λ m. m.0.took) turn) in let did = c.do_turn-answer.ensures in let place = c.end_turn.new.place in
    let before = c.self.inside.place in let schema = (arc_value c.self.inside.board).shared.key.first.value.control.schema in let number = c.self.inside.number in let finds = c.take_turn-ticket.ensures.finds in
    let old : Seated = record { of = before.table_id; schema = schema; threads = before.me.0.threads; number = number; base = before.me.0.base; seen = before.me.0.seen; left = before.me.0.left } in
    let then : Seated = record { of = place.table_id; schema = schema; threads = place.me.0.threads; number = number; base = place.me.0.base; seen = place.me.0.seen; left = place.me.0.left } in
    let left = ap (λ m. m.0.left) end ∙ ap (λ m. m.0.left - (length c.do_turn-answer.new.book.log - length book.log)) turn in
    subst (λ (o : Seated). OnErr c.do_turn-answer.result (IsUnlogged o then)) c.self.view_is
    (unlogged c.args.steps.now c.args.keep_going old then book c.do_turn-answer.new.book c.self.inside.newest (ap (λ m. m.0.seen) end) left c.do_turn-answer.result
    (own_kept before.me.0 number before.me.0.threads book c.self.invariant.2 finds.keeps) did.err)

pub returns-clause-stale : goal.returns-clause-stale
returns-clause-stale g c = λ newer is.
    let turn = c.take_turn-ticket.ensures.seat in let book = c.take_turn-ticket.result.1 in let end = c.end_turn.ensures.seat book (ap (λ m. m.0.took) turn) in let did = c.do_turn-answer.ensures in let place = c.end_turn.new.place in
    let before = c.self.inside.place in let schema = (arc_value c.self.inside.board).shared.key.first.value.control.schema in let number = c.self.inside.number in let finds = c.take_turn-ticket.ensures.finds in
    let old : Seated = record { of = before.table_id; schema = schema; threads = before.me.0.threads; number = number; base = before.me.0.base; seen = before.me.0.seen; left = before.me.0.left } in
    let then : Seated = record { of = place.table_id; schema = schema; threads = place.me.0.threads; number = number; base = place.me.0.base; seen = place.me.0.seen; left = place.me.0.left } in
    let left = ap (λ m. m.0.left) end ∙ ap (λ m. m.0.left - (length c.do_turn-answer.new.book.log - length book.log)) turn in
    subst (λ (o : Seated). IsStale newer o then) c.self.view_is
    (stale c.args.steps.now c.args.keep_going old then book c.do_turn-answer.new.book c.self.inside.newest (ap (λ m. m.0.seen) end) left c.do_turn-answer.result
    c.self.invariant.5 (subst (λ z. HasSeen z book.log (number_of book)) finds.based c.known.ensures.last) did.err did.stale newer is)
