use Rattle.std.proofs.Common.{sym, ◌∙◌, ap, subst, length, Some, arith}
use Rattle.bit_rows.specs.Row.{IsNextSet}
use Rattle.set_model.specs.SetState.{element_at}
use Rattle.pipapo_image.specs.Image.{IsImage}
use Rattle.pipapo_image.specs.Image.Among.{is_sought, IsFirst}
use Rattle.pipapo_image.proofs.AmongLaws.{no_end, place-within, among-some, among-none, one-more-met, set-rule, led-to}
use Rattle.pipapo_image.proofs.image.SetImage.first_among.Goals as goal

pub rules-init : goal.rules-init
rules-init c = record { within = omega arith; none = record { each = λ r d l set. absurd (omega arith) } }

pub at-requires : goal.at-requires
at-requires c =
    let s = c.args.self.now in
    let i : IsImage s.kinds s.elements c.self.inside.index = subst (λ z. IsImage z.kinds z.elements c.self.inside.index) c.self.view_is c.self.invariant in
    let here = set-rule s (is_sought c.args.sought.now c.args.now) c.args.row.now.bits c.rules.from c.in-Some.r c.requires c.in-Some.ensures in
    omega (arith, here, ap length i.tables.ends)

pub is_sought_at-requires : goal.is_sought_at-requires
is_sought_at-requires c =
    let s = c.args.self.now in
    let i : IsImage s.kinds s.elements c.self.inside.index = subst (λ z. IsImage z.kinds z.elements c.self.inside.index) c.self.view_is c.self.invariant in
    let here = set-rule s (is_sought c.args.sought.now c.args.now) c.args.row.now.bits c.rules.from c.in-Some.r c.requires c.in-Some.ensures in
    let place = led-to s c.self.inside.index.ends.items c.in-Some.r c.at.result.now i.tables.ends c.at.ensures in
    omega (arith, place-within s c.in-Some.r no_end here, place)

pub returns-then-is_sought_at : goal.returns-then-is_sought_at
returns-then-is_sought_at c =
    let s = c.args.self.now in
    let test = is_sought c.args.sought.now c.args.now in
    let i : IsImage s.kinds s.elements c.self.inside.index = subst (λ z. IsImage z.kinds z.elements c.self.inside.index) c.self.view_is c.self.invariant in
    let here = set-rule s test c.args.row.now.bits c.rules.from c.in-Some.r c.requires c.in-Some.ensures in
    let place = led-to s c.self.inside.index.ends.items c.in-Some.r c.at.result.now i.tables.ends c.at.ensures in
    let passes = ap (λ p. test (element_at s p)) place ∙ sym c.is_sought_at.ensures ∙ c.if-is_sought_at.true in
    let found = among-some s test c.args.row.now.bits c.rules.from c.in-Some.r c.requires c.rules.invariant.none c.in-Some.ensures here passes in
    subst (λ p. IsFirst s test (Some p)) place found

pub overflow_add-from : goal.overflow_add-from
overflow_add-from c =
    let next : IsNextSet c.args.row.now.bits c.rules.from c.in-Some.r = c.in-Some.ensures in
    omega (arith, next.within, c.len-rules.ensures)

pub rules-preserved : goal.rules-preserved
rules-preserved c =
    let s = c.args.self.now in
    let test = is_sought c.args.sought.now c.args.now in
    let i : IsImage s.kinds s.elements c.self.inside.index = subst (λ z. IsImage z.kinds z.elements c.self.inside.index) c.self.view_is c.self.invariant in
    let next : IsNextSet c.args.row.now.bits c.rules.from c.in-Some.r = c.in-Some.ensures in
    let here = set-rule s test c.args.row.now.bits c.rules.from c.in-Some.r c.requires next in
    let place = led-to s c.self.inside.index.ends.items c.in-Some.r c.at.result.now i.tables.ends c.at.ensures in
    let other = ap (λ p. test (element_at s p)) place ∙ sym c.is_sought_at.ensures ∙ c.if-is_sought_at.false in
    record {
      within = omega (arith, next.within);
      none = one-more-met s test c.args.row.now.bits c.rules.from c.in-Some.r c.rules.invariant.none next here other;
    }

pub rules-smaller : goal.rules-smaller
rules-smaller c =
    let next : IsNextSet c.args.row.now.bits c.rules.from c.in-Some.r = c.in-Some.ensures in
    omega (arith, next.within, next.from_on)

pub returns : goal.returns
returns c =
    among-none c.args.self.now (is_sought c.args.sought.now c.args.now) c.args.row.now.bits c.rules.from c.requires c.rules.invariant.none c.in_default.ensures
