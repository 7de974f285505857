use Rattle.std.proofs.Common.{◌≡◌, ◌∙◌, ap, length, take, filter, List, ℕ, arith, refl, sym}
use Rattle.key_match.specs.Holders.{holds_field, fields}
use Rattle.key_match.proofs.ListLaws.{counted-next, counted-few}
use Rattle.key_match.proofs.FieldLaws.{field_at, fields-all}
use Rattle.key_match.proofs.holders.field_count.Goals as goal

pub fields-preserved : goal.fields-preserved
fields-preserved c = record {
  count = counted-next (fields c.args.key.now) c.fields.field _ (field_at c.args.key.now c.fields.field c.fields-test.true) (holds_field c.args.element.now) c.fields.count c.counted-count.result c.holds_field.result c.holds_field.ensures c.counted-count.ensures c.fields.invariant.count;
  few = counted-few c.fields.field c.fields.count c.counted-count.result c.holds_field.result c.counted-count.ensures c.fields.invariant.few;
}

pub returns : goal.returns
returns c = c.fields.invariant.count ∙ ap (λ (z : List (ℕ × ℕ)). length (filter (holds_field c.args.element.now) z)) (fields-all c.args.key.now c.fields.field c.fields-test.false)
