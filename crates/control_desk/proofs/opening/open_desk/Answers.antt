use Rattle.std.proofs.Common.{◌≡◌, ◌*◌, ◌∷◌, [], Some, ap, sym, subst, arith, rules}
use Rattle.atomic_table.specs.Table.{opening}
use Rattle.log_turns.specs.LogRule.{Kept, opening_view, most}
use Rattle.log_turns.proofs.Opening.{opens}
use Rattle.control_desk.specs.Books.{Booked}
use Rattle.control_desk.proofs.Submitting.{log_of, base_of, number_of, clerk_of}
use Rattle.control_desk.proofs.opening.open_desk.Goals as goal

pub new-made-requires : goal.new-made-requires
new-made-requires c =
    let items : c.push.new.self.items ≡ Some c.new-book.result ∷ [] = search rules in let few = c.requires.count.1 in let room = c.requires.room in let control = c.new-book.ensures.control in
    let number : number_of c.new-book.result ≡ c.args.control.work.base.number = ap (λ s. s.work.base.number) control in
    let product : c.args.each * c.args.clerks ≡ c.args.clerks * c.args.each = grind arith in
    let first : c.of.result.value ≡ c.new-book.result = search rules in
    subst (λ z. Kept log_of base_of number_of clerk_of c.args.each most (opening (0 ∷ 0 ∷ []) z (opening_view c.args.each c.from.result (base_of c.of.result.value)))) (sym items)
    (subst (λ (b : Booked). Kept log_of base_of number_of clerk_of c.args.each most (opening (0 ∷ 0 ∷ []) (Some c.new-book.result ∷ []) (opening_view c.args.each c.from.result (base_of b)))) (sym first)
    (opens log_of base_of number_of clerk_of c.args.each most c.from.result c.new-book.result (let n = c.from.ensures in omega (arith, n, few)) c.new-book.ensures.log.0 (let n = ap (λ z. c.args.each * z) c.from.ensures in omega (arith, n, number, product, room))))
