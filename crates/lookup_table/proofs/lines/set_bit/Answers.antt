use Rattle.std.proofs.Common.{◌≡◌, refl, ◌∙◌, ap, ◌+◌, ◌*◌, ◌%◌, ◌^◌, get_or, bit_or, set, List, ℕ}
use Rattle.lookup_table.proofs.LineLaws.{marked-one}
use Rattle.lookup_table.proofs.lines.set_bit.Goals as goal

pub returns-clause-marked : goal.returns-clause-marked
returns-clause-marked c =
    let changed : List ℕ → List ℕ = λ ws. set c.args.page.now.items (c.args.j * 8 + c.args.w) (bit_or (get_or ws (c.args.j * 8 + c.args.w) 0) (1 * 2 ^ c.args.k % 2 ^ 64)) in
    let made : c.put.new.self.items ≡ changed c.args.page.now.items = c.put.ensures.items ∙ ap changed c.as_slice.ensures in
    rw made (marked-one c.args.page.now.items c.args.j c.args.w c.args.k (get_or c.args.page.now.items (c.args.j * 8 + c.args.w) 0) c.requires.lines c.requires.word refl)
