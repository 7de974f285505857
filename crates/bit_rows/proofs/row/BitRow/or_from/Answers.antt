use Rattle.std.proofs.Common.{◌≡◌, sym, ◌∙◌, ap, length, ◌||◌}
use Rattle.bit_rows.specs.Row.{Row}
use Rattle.bit_rows.specs.Words.{first_bits}
use Rattle.bit_rows.proofs.Rows.{bits-zipped}
use Rattle.bit_rows.proofs.row.BitRow.or_from.Goals as goal

pub returns-clause-bits : goal.returns-clause-bits
returns-clause-bits c =
    let e : first_bits c.self.inside.words.items c.self.inside.len ≡ c.args.self.now.bits = ap (λ (r : Row). r.bits) c.self.view_is in
    let f : first_bits c.other.inside.words.items c.other.inside.len ≡ c.args.other.now.bits = ap (λ (r : Row). r.bits) c.other.view_is in
    let g : c.deref.result.now ≡ c.other.inside.words.items = c.deref.ensures.value in
    let same : length (first_bits c.self.inside.words.items c.self.inside.len) ≡ length (first_bits c.other.inside.words.items c.other.inside.len) = ap length e ∙ c.requires ∙ sym (ap length f) in
    rw (← e, ← f) (bits-zipped (λ p q. p || q) _ _ _ _ _ _ same c.words_used-used.ensures.within (λ i. rw g at (c.or_words.ensures.places i)))
