use Rattle.std.proofs.Common.{codes}
use Rattle.addr_text.specs.Written.{interval_text}
use Rattle.element_text.proofs.JoinLaws.{joins_get, joins_keeps, keeps_more, keeps_same, two_steps, field_there, field_good, zip-all}
use Rattle.element_text.proofs.elements.write_intervals.Goals as goal

pub write_interval-requires : goal.write_interval-requires
write_interval-requires c = field_good c.args.kinds.now c.args.intervals.now c.fields.field c.requires c.fields-test.true

pub fields-preserved : goal.fields-preserved
fields-preserved c =
    joins_get (λ p. interval_text p.0 p.1) (codes " . ") _ c.fields.field _ _ _ _ _ (field_there c.args.kinds.now c.args.intervals.now c.fields.field c.requires c.fields-test.true) c.fields.invariant
    (two_steps _ _ _ _ _ c.in_ok-append.ensures.ok c.in_ok-write_interval.ensures.ok)

pub returns-clause-ok : goal.returns-clause-ok
returns-clause-ok c =
    let all = zip-all c.args.kinds.now c.args.intervals.now c.fields.field c.fields-test.false in
    (rw all at c.fields.invariant.text)

pub returns-in_err-write_interval-clause-kept : goal.returns-in_err-write_interval-clause-kept
returns-in_err-write_interval-clause-kept c =
    joins_keeps (λ p. interval_text p.0 p.1) (codes " . ") _ _ _ _ _ c.fields.invariant
    (keeps_more _ _ _ _ c.in_ok-append.ensures.ok (keeps_same _ _ c.in_err-write_interval.ensures.err))
