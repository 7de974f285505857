use Rattle.std.proofs.Common.{◌≡◌, ◌∙◌, ap, sym, ℕ, ◌+◌, ◌-◌, ◌<◌, ◌≤◌, false, length, take, get_or, arith}
use Rattle.std.specs.List.{zip, list_any}
use Rattle.std.proofs.lemmas.Option.{get_or_from_slice_get}
use Rattle.bit_rows.specs.Row.{IsNextSet}
use Rattle.bit_rows.proofs.Rows.{at-run, length-run}
use Rattle.set_tables.specs.declared.Span.{Span}
use Rattle.set_tables.specs.Rows.{reaches}
use Rattle.mapping_table.proofs.Refill.{refill-set, refill-skipped, reached-all}
use Rattle.mapping_table.proofs.map.refill_spans.Goals as goal

pub overflow_add-from : goal.overflow_add-from
overflow_add-from c =
    let s : IsNextSet c.args.matched.now.bits c.rules.from c.in-Some.r = c.in-Some.ensures in
    omega (arith, s.within, c.len-rules.ensures)

pub rules-smaller : goal.rules-smaller
rules-smaller c =
    let s : IsNextSet c.args.matched.now.bits c.rules.from c.in-Some.r = c.in-Some.ensures in
    omega (arith, s.within, s.from_on, c.requires.rows)

pub rules-preserved : goal.rules-preserved
rules-preserved c =
    let s : IsNextSet c.args.matched.now.bits c.rules.from c.in-Some.r = c.in-Some.ensures in
    let d : Span = record { first = 0; count = 0 } in
    let span = get_or c.args.spans.now.items c.in-Some.r d in
    let here : c.in-Some.r < length c.args.spans.now.items = omega (arith, s.within, c.requires.rows) in
    let read : c.at-span.result.now ≡ span = sym (get_or_from_slice_get c.args.spans.now.items c.in-Some.r c.at-span.result.now d c.at-span.ensures) in
    let set = rw read at c.set_range.ensures.bits in
    let gap : c.rules.from + (c.in-Some.r - c.rules.from) ≡ c.in-Some.r = omega (arith, s.from_on) in
    let inside : span.first + span.count ≤ length c.rules.next.bits = omega (arith, c.requires.within c.in-Some.r d here, c.rules.invariant.len) in
    record {
      within = omega arith;
      len = grind (arith, inside, set, length-run);
      spare = c.set_range.ensures.spare ∙ c.rules.invariant.spare;
      bits = λ k h.
          let old : get_or c.rules.next.bits k false ≡ list_any (reaches k) (take c.in-Some.r (zip c.args.spans.now.items c.args.matched.now.bits)) =
          rw gap at
          (refill-skipped c.args.spans.now.items c.args.matched.now.bits k c.rules.from (c.in-Some.r - c.rules.from) d _ (omega arith) c.requires.rows (λ i a b. s.least i a (omega arith)) (c.rules.invariant.bits k h)) in
          refill-set c.args.spans.now.items c.args.matched.now.bits k c.in-Some.r d _ _ here c.requires.rows s.set old
          (cc (ap (λ z. get_or z k false) set, at-run c.rules.next.bits span.first span.count k inside));
    }

pub returns-clause-bits : goal.returns-clause-bits
returns-clause-bits c =
    let all : (i : ℕ) → c.rules.from ≤ i → get_or c.args.matched.now.bits i false ≡ false = c.in_default.ensures in
    let d : Span = record { first = 0; count = 0 } in
    let rest = length c.args.spans.now.items - c.rules.from in
    let end : c.rules.from + rest ≡ length c.args.spans.now.items = omega (arith, c.rules.invariant.within) in
    reached-all c.args.spans.now.items c.args.matched.now.bits c.rules.next.bits _ (c.rules.from + rest) c.requires.rows (omega arith) c.rules.invariant.len
    (λ k h. refill-skipped c.args.spans.now.items c.args.matched.now.bits k c.rules.from rest d _ (omega arith) c.requires.rows (λ i a b. all i a) (c.rules.invariant.bits k h))
