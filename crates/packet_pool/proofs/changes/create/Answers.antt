use Rattle.packet_pool.proofs.ChangeLaws.{refused_creation}
use Rattle.packet_pool.proofs.changes.create.Goals as goal

pub returns-in-Err-Refused-clause-change : goal.returns-in-Err-Refused-clause-change
returns-in-Err-Refused-clause-change c =
    let came = c.in-Err-Refused.ensures.change in
    record {
      state = came.state;
      left = came.left;
      at = came.at;
      changed = refused_creation came.state came.left c.args.element.now c.args.now c.in-Err-Refused.field-0 c.in-Err-Refused.why c.in-Err-Refused.field-0-is came.changed;
      others = came.others;
    }
