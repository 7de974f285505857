use Rattle.std.proofs.Common.{codes}
use Rattle.addr_text.specs.Written.{value_text}
use Rattle.element_text.proofs.JoinLaws.{joins_get, two_steps, value_there, value_good, zip-all}
use Rattle.element_text.proofs.keys.write_key.Goals as goal

pub write_value-requires : goal.write_value-requires
write_value-requires c = value_good c.args.kinds.now c.args.key.now c.fields.field c.requires c.fields-test.true

pub fields-preserved : goal.fields-preserved
fields-preserved c =
    joins_get (λ p. value_text p.0 p.1) (codes " . ") _ c.fields.field _ _ _ _ _ (value_there c.args.kinds.now c.args.key.now c.fields.field c.requires c.fields-test.true) c.fields.invariant
    (two_steps _ _ _ _ _ c.in_ok-append.ensures.ok c.in_ok-write_value.ensures.ok)

pub returns-clause-ok : goal.returns-clause-ok
returns-clause-ok c =
    let all = zip-all c.args.kinds.now c.args.key.now c.fields.field c.fields-test.false in
    (rw all at c.fields.invariant.text)
