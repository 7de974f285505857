use Rattle.std.proofs.Common.{refl}
use Rattle.std.proofs.lemmas.Result.{IfOk-weaker}
use Rattle.set_model.specs.Control.{mode_of}
use Rattle.compare_answer.specs.declared.side.Finished.{Finished}
use Rattle.compare_answer.proofs.Ends.{gives-named}
use Rattle.compare_answer.proofs.comparison.compare_scripts.Goals as goal

pub returns-clause-text : goal.returns-clause-text
returns-clause-text g c =
    let a : Finished = record { file = c.as_bytes.result; at = c.args.first.script.last; trace = c.in_ok-trace.trace } in
    let b : Finished = record { file = c.as_bytes-2.result; at = c.args.second.script.last; trace = c.in_ok-trace-2.trace } in
    IfOk-weaker c.write_comparison.result _ _
    (λ out told. gives-named (mode_of c.args.keep_going) c.args.first.file.now c.args.second.file.now a b c.args.first.script c.args.second.script out.refused out.text.items c.as_bytes.ensures.value c.as_bytes-2.ensures.value
    (record { ends = c.in_ok-trace.ensures.ends; lines_are = c.in_ok-trace.ensures.lines; schema_is = c.in_ok-trace.ensures.schema })
    (record { ends = c.in_ok-trace-2.ensures.ends; lines_are = c.in_ok-trace-2.ensures.lines; schema_is = c.in_ok-trace-2.ensures.schema }) refl refl told)
    c.write_comparison.ensures.text
