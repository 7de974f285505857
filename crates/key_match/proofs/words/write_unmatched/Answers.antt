use Rattle.std.proofs.Common.{ℕ, codes, filter, not}
use Rattle.key_match.specs.Holders.{fields, holds_field}
use Rattle.key_match.specs.Matched.{field_text}
use Rattle.element_text.proofs.JoinLaws.{joins_none}
use Rattle.key_match.proofs.ListLaws.{joins-if}
use Rattle.key_match.proofs.FieldLaws.{field_at, field_within, fields-all, value_good}
use Rattle.key_match.proofs.words.write_unmatched.Goals as goal

pub write_if_unmatched-requires-clause-field : goal.write_if_unmatched-requires-clause-field
write_if_unmatched-requires-clause-field c = field_within c.args.kinds.now c.args.key.now c.fields.field c.requires c.fields-test.true

pub write_if_unmatched-requires-clause-value : goal.write_if_unmatched-requires-clause-value
write_if_unmatched-requires-clause-value c = value_good c.args.kinds.now c.args.key.now c.fields.field c.requires c.fields-test.true

pub fields-init : goal.fields-init
fields-init c = joins_none (field_text c.args.kinds.now) (codes " and ") c.args.out.now.items

pub fields-preserved : goal.fields-preserved
fields-preserved c =
    joins-if (field_text c.args.kinds.now) (codes " and ") (λ (f : ℕ × ℕ). not (holds_field c.args.element.now f)) (fields c.args.key.now) c.fields.field _ _ _ _ _ _ (field_at c.args.key.now c.fields.field c.fields-test.true) c.fields.invariant c.in_ok-separator.ensures.text c.in_ok-separator.ensures.ahead

pub returns : goal.returns
returns c =
    let all = fields-all c.args.key.now c.fields.field c.fields-test.false in
    (rw all at c.fields.invariant.text)
