use Rattle.set_report.specs.DumpBuckets.{buckets_text, all_buckets_text}
use Rattle.text_pieces.proofs.PartLaws.{on_err}
use Rattle.set_report.proofs.Leaves.{from-more, from-broken}
use Rattle.set_report.proofs.dump.buckets.write_buckets.Goals as goal

pub returns-in_err-write_group-clause-err : goal.returns-in_err-write_group-clause-err
returns-in_err-write_group-clause-err c =
    on_err c.from_residual.result (from-broken (buckets_text c.args.table.now) c.groups.g c.groups-g-end.result c.args.out.now.items c.groups.out.items c.write_group.new.out.items (all_buckets_text c.args.table.now)
    c.groups-test.true c.groups.invariant c.in_err-write_group.ensures.err)

pub groups-preserved : goal.groups-preserved
groups-preserved c =
    from-more (buckets_text c.args.table.now) c.groups.g c.groups-g-end.result c.args.out.now.items c.groups.out.items c.write_group.new.out.items (all_buckets_text c.args.table.now)
    c.groups-test.true c.groups.invariant c.in_ok-write_group.ensures.ok
