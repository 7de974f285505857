use Rattle.std.proofs.Common.{◌≡◌, subst, [], ◌∷◌, ◌++◌, ◌+◌, ◌-◌, length, rules, arith}
use Rattle.set_report.specs.DumpText.{runs_from, runs_text}
use Rattle.set_report.specs.DumpBuckets.{bitmaps_of}
use Rattle.text_pieces.specs.Appends.{AppendsPart}
use Rattle.text_pieces.proofs.PartLaws.{on_err}
use Rattle.set_report.proofs.Leaves.{Leaves, further, broken}
use Rattle.set_report.proofs.DumpRuns.{lines-more}
use Rattle.set_report.proofs.dump.buckets.write_runs.Goals as goal

pub returns-in_err-write_run_if_any_set-clause-err : goal.returns-in_err-write_run_if_any_set-clause-err
returns-in_err-write_run_if_any_set-clause-err c =
    let part : AppendsPart c.runs.out.items c.write_run_if_any_set.new.out.items (runs_text c.args.g (record { from = c.runs.from; to = c.runs.from + c.run_len-len.result - 1; bitmap = c.row_at-row.result.now.bits } ∷ [])) = search (rules, c.in_err-write_run_if_any_set.ensures.err) in
    on_err c.from_residual.result (broken c.args.out.now.items c.runs.out.items c.write_run_if_any_set.new.out.items _ _ _
    (subst (λ t. Leaves c.args.out.now.items c.runs.out.items (runs_text c.args.g (runs_from 0 (bitmaps_of c.args.rows.now 0 (length c.args.rows.now)))) t)
    (lines-more c.args.g c.args.rows.now c.runs.from (length c.args.rows.now) c.run_len-len.result c.row_at-row.result.now c.run_len-len.ensures.some (omega (arith, c.run_len-len.ensures.within)) c.row_at-row.ensures c.run_len-len.ensures.same (search (rules, c.run_len-len.ensures.other)))
    c.runs.invariant.so_far)
    part)

pub runs-preserved : goal.runs-preserved
runs-preserved c =
    let line : c.write_run_if_any_set.new.out.items ≡ c.runs.out.items ++ runs_text c.args.g (record { from = c.runs.from; to = c.runs.from + c.run_len-len.result - 1; bitmap = c.row_at-row.result.now.bits } ∷ []) = search (rules, c.in_ok-write_run_if_any_set.ensures.ok) in
    record {
      within = omega (arith, c.run_len-len.ensures.within);
      so_far = further c.args.out.now.items c.runs.out.items c.write_run_if_any_set.new.out.items _ _ _
          (subst (λ t. Leaves c.args.out.now.items c.runs.out.items (runs_text c.args.g (runs_from 0 (bitmaps_of c.args.rows.now 0 (length c.args.rows.now)))) t)
          (lines-more c.args.g c.args.rows.now c.runs.from (length c.args.rows.now) c.run_len-len.result c.row_at-row.result.now c.run_len-len.ensures.some (omega (arith, c.run_len-len.ensures.within)) c.row_at-row.ensures c.run_len-len.ensures.same (search (rules, c.run_len-len.ensures.other)))
          c.runs.invariant.so_far)
          line;
    }
