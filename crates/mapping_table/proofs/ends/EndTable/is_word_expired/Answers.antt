use Rattle.std.proofs.Common.{◌≡◌, false, ◌∙◌, ap, ℕ, List, get_or, All}
use Rattle.std.proofs.lemmas.Bool.{OnTrue_from}
use Rattle.set_tables.specs.declared.End.{End}
use Rattle.set_model.specs.Expiry.{lives}
use Rattle.mapping_table.specs.Spared.{word_of}
use Rattle.mapping_table.proofs.LatestLaws.{none-live}
use Rattle.mapping_table.proofs.ends.EndTable.is_word_expired.Goals as goal

pub returns-in-Some : goal.returns-in-Some
returns-in-Some c =
    let w = c.args.w in
    let latest = c.in-Some.latest.now in
    let read : latest ≡ get_or c.self.inside.latest.items w 0 = c.in-Some.ensures.lookup.3.1 0 ∙ ap (λ (moments : List ℕ). get_or moments w 0) c.deref.ensures.value in
    rw (← c.self.view_is)
    (OnTrue_from _ (All (λ (e : End). lives e.expiry c.args.now ≡ false) (word_of w c.self.inside.ends.items)) (λ past.
    none-live c.self.inside.ends.items c.self.inside.latest.items w latest c.args.now read (c.is_past.ensures.0 past) c.self.invariant.bounded))
