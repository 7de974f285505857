use Rattle.std.proofs.Common.{◌∙◌, ap, ◌++◌, List, ℕ, flat_map}
use Rattle.key_match.specs.Holders.{fields}
use Rattle.key_match.specs.Matched.{plain, count_text}
use Rattle.key_match.proofs.ListLaws.{text-next}
use Rattle.key_match.proofs.FieldLaws.{field_at, field_within, fields-all, value_good}
use Rattle.key_match.proofs.miss.write_each_count.Goals as goal

pub write_count-requires-clause-field : goal.write_count-requires-clause-field
write_count-requires-clause-field c = field_within c.args.asked.now.declared.now.kinds c.args.asked.now.key.now c.fields.field c.requires c.fields-test.true

pub write_count-requires-clause-value : goal.write_count-requires-clause-value
write_count-requires-clause-value c = value_good c.args.asked.now.declared.now.kinds c.args.asked.now.key.now c.fields.field c.requires c.fields-test.true

pub fields-preserved : goal.fields-preserved
fields-preserved c =
    text-next (fields c.args.asked.now.key.now) c.fields.field _ (field_at c.args.asked.now.key.now c.fields.field c.fields-test.true) (count_text (plain c.args.asked.now)) c.args.out.now.items c.fields.out.items c.write_count.new.out.items c.fields.invariant c.in_ok-write_count.ensures

pub returns : goal.returns
returns c = c.fields.invariant ∙ ap (λ (z : List (ℕ × ℕ)). c.args.out.now.items ++ flat_map (count_text (plain c.args.asked.now)) z) (fields-all c.args.asked.now.key.now c.fields.field c.fields-test.false)
