use Rattle.std.proofs.Common.{rules, ◌≡◌, ◌+◌, ◌≤◌, ℕ, List, length, arith, sym, refl, ap, ◌∙◌, subst, set, get_or, length-set, slice_index, Option, None}
use Rattle.gen_slots.specs.declared.board.Plan.{Plan}
use Rattle.gen_slots.specs.declared.board.Role.TheVariants.{Keeper}
use Rattle.gen_slots.specs.SlotRule.{sum_below}
use Rattle.gen_slots.specs.SlotSteps.{WereStored}
use Rattle.gen_slots.specs.SlotViews.{found_plan, states_of}
use Rattle.gen_slots.proofs.Sums.{sum_below-zeros, sum_below-most}
use Rattle.gen_slots.proofs.Stages.{tried_more}
use Rattle.gen_slots.proofs.WriterSteps.{checks, plan_or}
use Rattle.gen_slots.proofs.publisher.find.Goals as goal
use Rattle.gen_slots.proofs.publisher.find.Goals.{then-slot-published+else-load-counts, else-slot-published}

pub loop-slot-init : goal.loop-slot-init
loop-slot-init g c = let h = c.requires.seat.1 in let p = h.0 in let zero = sum_below-zeros (c.args.readers + 2) 18 in let no_checks : p.checks ≡ p.checks + 0 = omega arith in record {
  table = refl;
  seen = refl;
  bare = c.requires.seat.0;
  tried = (
    0,
    omega arith,
    record {
      plan = p;
      tries = p.tried;
      was = h.1;
      is = h.1 ∙ ap (λ (z : ℕ). Keeper (record p { checks = z })) no_checks;
      readers_is = h.2;
      published_is = h.3;
      counts_is = h.4;
      empty_hand = h.6;
      size = ap length h.5;
      each = λ k l. absurd (omega arith);
      few = subst (λ (t : List ℕ). sum_below (c.args.readers + 2) (slice_index t) ≤ c.args.readers) (sym h.5) (omega (arith, zero));
    },
  );
  cost = (λ l. omega arith, λ l. absurd (omega arith));
}

pub load-requires : goal.load-requires
load-requires g c = let i = c.loop-slot.invariant in let did = i.tried.2 in let p = did.plan in let r = did.readers_is in let few = c.requires.table in let far = c.loop-slot-test.true in (
  search rules,
  search rules,
  checks g.T.Version.state g.T.Version.follows _ _ _ _ (record p { tried = did.tries; checks = p.checks + i.tried.0 }) c.loop-slot.slot did.is i.bare (omega arith) (λ e. c.if-slot-published.true (e ∙ did.published_is)) did.empty_hand,
)

pub returns-then-load-counts-clause-seat : goal.returns-then-load-counts-clause-seat
returns-then-load-counts-clause-seat g c = let i = c.loop-slot.invariant in let did = i.tried.2 in let p = did.plan in let m = i.tried.0 in let before = i.tried.1 in
    let now = c.load.ensures.2.2 c.loop-slot.slot refl (record p { tried = did.tries; checks = p.checks + m }) did.is in
    let hit = c.if-load-counts.true in let kept = ap (λ (z : List ℕ). get_or z c.loop-slot.slot 0) did.counts_is in let free : c.load.result ≡ get_or p.counts c.loop-slot.slot 0 = omega (arith, hit, kept) in let took = now.2.0 free in let tries = set did.tries c.loop-slot.slot 0 in
    let more : p.checks + m + 1 ≡ p.checks + (m + 1) = omega arith in (
      c.load.ensures.0 ∙ i.table,
      c.load.ensures.2.0 ∙ i.seen,
      λ q is. (
        tries,
        m + 1,
        search (arith, before),
        now.1 ∙ (ap (λ (z : Plan g.row.T-State.Denot). Keeper z) took.0 ∙ (ap (λ (z : ℕ). Keeper (record (found_plan p c.loop-slot.slot tries 0) { checks = z })) more ∙ ap (λ (z : Plan g.row.T-State.Denot). Keeper (found_plan z c.loop-slot.slot tries (m + 1))) (ap (plan_or g.T.Version.state g.T.Version.follows 0 p) (sym did.was ∙ is)))),
      ),
    )

pub returns-then-load-counts-clause-berths : goal.returns-then-load-counts-clause-berths
returns-then-load-counts-clause-berths g c = let i = c.loop-slot.invariant in let did = i.tried.2 in let p = did.plan in let now = c.load.ensures.2.2 c.loop-slot.slot refl (record p { tried = did.tries; checks = p.checks + i.tried.0 }) did.is in
    let hit = c.if-load-counts.true in let kept = ap (λ (z : List ℕ). get_or z c.loop-slot.slot 0) did.counts_is in let free : c.load.result ≡ get_or p.counts c.loop-slot.slot 0 = omega (arith, hit, kept) in let took = (now.2.0 free).1 in (
      took.0,
      took.1 ∙ did.readers_is,
      subst (λ (z : List g.row.T-State.Denot × ℕ × List (Option g.row.T-State.Denot)). WereStored g.T.Version.state z.0 z.1 (get_or z.2 c.loop-slot.slot None) took.0) (λ j. (i.seen j, did.readers_is j, ap states_of (sym did.was) j)) took.2,
      took.3,
    )

pub loop-slot-preserved : goal.loop-slot-preserved
loop-slot-preserved g c = let i = c.loop-slot.invariant in let did = i.tried.2 in let p = did.plan in let m = i.tried.0 in let before = i.tried.1 in let t = did.tries in let slot = c.loop-slot.slot in let far = c.loop-slot-test.true in let cost₀ = i.cost.0 in let cost₁ = i.cost.1 in elim c.if-slot-published.branch [
  | then-slot-published+else-load-counts w ↦ let now = w.load.ensures.2.2 slot refl (record p { tried = t; checks = p.checks + m }) did.is in let busy = now.2.1 (λ e. let kept = ap (λ (z : List ℕ). get_or z slot 0) did.counts_is in w.if-load-counts.false (omega (arith, e, kept))) in
      let apart = w.if-slot-published.true in let steps_is = w.steps-is in let more : p.checks + m + 1 ≡ p.checks + (m + 1) = omega arith in record {
        table = ap (λ q. q.table_id) w.place-is ∙ (w.load.ensures.0 ∙ i.table);
        seen = ap (λ q. q.me.0.seen) w.place-is ∙ (w.load.ensures.2.0 ∙ i.seen);
        bare = ap (λ q. q.me.1) w.place-is ∙ busy.1;
        tried = (
          m + 1,
          search (arith, before),
          record {
            plan = p;
            tries = set t slot 1;
            was = did.was;
            is = ap (λ q. q.me.0.role) w.place-is ∙ (now.1 ∙ (ap (λ (z : Plan g.row.T-State.Denot). Keeper z) busy.0 ∙ ap (λ (z : ℕ). Keeper (record p { tried = set t slot 1; checks = z })) more));
            readers_is = did.readers_is;
            published_is = did.published_is;
            counts_is = did.counts_is;
            empty_hand = did.empty_hand;
            size = length-set t slot 1 ∙ did.size;
            each = tried_more t slot c.args.published (let few = c.requires.table in let n = did.size in omega arith) did.each;
            few = subst (λ (z : ℕ). sum_below (z + 2) (slice_index (set t slot 1)) ≤ z) did.readers_is (subst (λ (z : Plan g.row.T-State.Denot). sum_below (p.readers + 2) (slice_index z.tried) ≤ p.readers) busy.0 busy.2);
          },
        );
        cost = (λ l. search (arith, cost₀), λ l. search (arith, cost₁, cost₀));
      }
  | else-slot-published w ↦ let here = w.if-slot-published.false in let steps_is = w.steps-is in record {
    table = ap (λ q. q.table_id) w.place-is ∙ i.table;
    seen = ap (λ q. q.me.0.seen) w.place-is ∙ i.seen;
    bare = ap (λ q. q.me.1) w.place-is ∙ i.bare;
    tried = (
      m,
      omega arith,
      record {
        plan = p;
        tries = t;
        was = did.was;
        is = ap (λ q. q.me.0.role) w.place-is ∙ did.is;
        readers_is = did.readers_is;
        published_is = did.published_is;
        counts_is = did.counts_is;
        empty_hand = did.empty_hand;
        size = did.size;
        each = λ k low other. did.each k (omega arith) other;
        few = did.few;
      },
    );
    cost = (λ l. omega arith, λ l. omega arith);
  }
]

pub unreachable-requires : goal.unreachable-requires
unreachable-requires g c = let i = c.loop-slot.invariant in let did = i.tried.2 in let far = c.loop-slot-test.false in let a = sum_below-most (c.args.readers + 2) (slice_index did.tries) c.args.published (λ k l other. did.each k (omega arith) other) in let b = did.few in omega (arith, a, b)
