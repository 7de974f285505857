use Rattle.std.proofs.Common.{◌≡◌, ◌/◌, ◌%◌, ◌^◌, ◌*◌, ◌-◌, ◌∙◌, ap, get_or, bit_or, bit_and, set, List, ℕ}
use Rattle.word_summary.proofs.MarkLaws.{line-marked}
use Rattle.word_summary.proofs.marks.mark_line.Goals as goal

pub returns-clause-marked : goal.returns-clause-marked
returns-clause-marked c =
    let changed : List ℕ → List ℕ = λ ws. set c.args.page.now.items c.args.line (bit_or (bit_and (get_or ws c.args.line 0) (1 * 2 ^ c.args.first % 2 ^ 64 - 1)) (bit_or (get_or ws c.args.line 0 / 2 ^ c.args.first / 2 ^ c.args.n * 2 ^ c.args.n % 2 ^ 64) c.args.marks * 2 ^ c.args.first % 2 ^ 64)) in
    let made : c.put.new.self.items ≡ changed c.args.page.now.items = c.put.ensures.items ∙ ap changed c.as_slice.ensures in
    rw made (line-marked c.args.page.now.items c.args.line c.args.first c.args.n c.args.marks c.requires.line c.requires.first c.requires.within c.requires.marks)
