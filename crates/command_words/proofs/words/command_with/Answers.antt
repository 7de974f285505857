use Rattle.std.proofs.Common.{refl, map, codes}
use Rattle.std.specs.String.{string_bytes}
use Rattle.command_words.specs.declared.shape.Verb.TheVariants as verbs
use Rattle.command_words.proofs.WordValues.{of-verb, has-first, pair-second, triple-second, triple-third, judge-second, judge-third, judge-threads, drill-second, files-second, is-alone, is-pair, is-files, is-triple, is-judge, is-judge-capture, is-seed, is-count, is-drill, is-ruleset}
use Rattle.command_words.proofs.words.command_with.Goals as goal

pub unwrap-first-requires : goal.unwrap-first-requires
unwrap-first-requires c = has-first (map string_bytes c.args.words.now) c.in_ok-first.field-0 c.args.verb (of-verb (map string_bytes c.args.words.now) c.in_ok-first.field-0 c.in_ok-first.ensures c.args.verb c.args.verb refl c.requires.shape c.requires.words)

pub unwrap-requires : goal.unwrap-requires
unwrap-requires c = pair-second (map string_bytes c.args.words.now) c.in_ok-first.field-0 (codes "run") (of-verb (map string_bytes c.args.words.now) c.in_ok-first.field-0 c.in_ok-first.ensures c.args.verb verbs.Run c.in-Run.is c.requires.shape c.requires.words)

pub thread_count-requires : goal.thread_count-requires
thread_count-requires c = let of = of-verb (map string_bytes c.args.words.now) c.in_ok-first.field-0 c.in_ok-first.ensures c.args.verb verbs.Run c.in-Run.is c.requires.shape c.requires.words in (of.2.count, of.2.threads_are)

pub returns-in-Run : goal.returns-in-Run
returns-in-Run c =
    is-pair (map string_bytes c.args.words.now) c.in_ok-first.field-0 c.unwrap-first.result c.unwrap-first.ensures c.unwrap.result c.unwrap.ensures (codes "run") c.thread_count.result c.thread_count.ensures
    (of-verb (map string_bytes c.args.words.now) c.in_ok-first.field-0 c.in_ok-first.ensures c.args.verb verbs.Run c.in-Run.is c.requires.shape c.requires.words)

pub unwrap-rules-requires : goal.unwrap-rules-requires
unwrap-rules-requires c = judge-second (map string_bytes c.args.words.now) c.in_ok-first.field-0 (of-verb (map string_bytes c.args.words.now) c.in_ok-first.field-0 c.in_ok-first.ensures c.args.verb verbs.Judge c.in-Judge.is c.requires.shape c.requires.words)

pub unwrap-third-requires : goal.unwrap-third-requires
unwrap-third-requires c = judge-third (map string_bytes c.args.words.now) c.in_ok-first.field-0 (of-verb (map string_bytes c.args.words.now) c.in_ok-first.field-0 c.in_ok-first.ensures c.args.verb verbs.Judge c.in-Judge.is c.requires.shape c.requires.words)

pub thread_count-threads-requires : goal.thread_count-threads-requires
thread_count-threads-requires c = judge-threads (map string_bytes c.args.words.now) c.in_ok-first.field-0 (of-verb (map string_bytes c.args.words.now) c.in_ok-first.field-0 c.in_ok-first.ensures c.args.verb verbs.Judge c.in-Judge.is c.requires.shape c.requires.words)

pub returns-in-None : goal.returns-in-None
returns-in-None c =
    is-judge (map string_bytes c.args.words.now) c.in_ok-first.field-0 c.unwrap-first.result c.unwrap-first.ensures c.unwrap-rules.result c.unwrap-rules.ensures c.thread_count-threads.result c.unwrap-third.result c.unwrap-third.ensures c.thread_count-threads.ensures c.in-None.is
    (of-verb (map string_bytes c.args.words.now) c.in_ok-first.field-0 c.in_ok-first.ensures c.args.verb verbs.Judge c.in-Judge.is c.requires.shape c.requires.words)

pub returns-in-Some : goal.returns-in-Some
returns-in-Some c =
    is-judge-capture (map string_bytes c.args.words.now) c.in_ok-first.field-0 c.unwrap-first.result c.unwrap-first.ensures c.unwrap-rules.result c.unwrap-rules.ensures c.thread_count-threads.result c.unwrap-third.result c.unwrap-third.ensures c.thread_count-threads.ensures c.in-Some.packets c.in-Some.is
    (of-verb (map string_bytes c.args.words.now) c.in_ok-first.field-0 c.in_ok-first.ensures c.args.verb verbs.Judge c.in-Judge.is c.requires.shape c.requires.words)

pub unwrap-requires-in-Capture : goal.unwrap-requires-in-Capture
unwrap-requires-in-Capture c = triple-second (map string_bytes c.args.words.now) c.in_ok-first.field-0 (codes "capture") (of-verb (map string_bytes c.args.words.now) c.in_ok-first.field-0 c.in_ok-first.ensures c.args.verb verbs.Capture c.in-Capture.is c.requires.shape c.requires.words)

pub unwrap-requires-in-Capture-2 : goal.unwrap-requires-in-Capture-2
unwrap-requires-in-Capture-2 c = triple-third (map string_bytes c.args.words.now) c.in_ok-first.field-0 (codes "capture") (of-verb (map string_bytes c.args.words.now) c.in_ok-first.field-0 c.in_ok-first.ensures c.args.verb verbs.Capture c.in-Capture.is c.requires.shape c.requires.words)

pub thread_count-requires-in-Capture : goal.thread_count-requires-in-Capture
thread_count-requires-in-Capture c = let of = of-verb (map string_bytes c.args.words.now) c.in_ok-first.field-0 c.in_ok-first.ensures c.args.verb verbs.Capture c.in-Capture.is c.requires.shape c.requires.words in (of.3.count, of.3.threads_are)

pub returns-in-Capture : goal.returns-in-Capture
returns-in-Capture c =
    is-triple (map string_bytes c.args.words.now) c.in_ok-first.field-0 c.unwrap-first.result c.unwrap-first.ensures c.unwrap-in-Capture.result c.unwrap-in-Capture.ensures (codes "capture") c.thread_count-in-Capture.result c.unwrap-in-Capture-2.result c.unwrap-in-Capture-2.ensures c.thread_count-in-Capture.ensures
    (of-verb (map string_bytes c.args.words.now) c.in_ok-first.field-0 c.in_ok-first.ensures c.args.verb verbs.Capture c.in-Capture.is c.requires.shape c.requires.words)

pub unwrap-requires-in-Drill : goal.unwrap-requires-in-Drill
unwrap-requires-in-Drill c = drill-second (map string_bytes c.args.words.now) c.in_ok-first.field-0 (of-verb (map string_bytes c.args.words.now) c.in_ok-first.field-0 c.in_ok-first.ensures c.args.verb verbs.Drill c.in-Drill.is c.requires.shape c.requires.words)

pub thread_count-requires-in-Drill : goal.thread_count-requires-in-Drill
thread_count-requires-in-Drill c = let of = of-verb (map string_bytes c.args.words.now) c.in_ok-first.field-0 c.in_ok-first.ensures c.args.verb verbs.Drill c.in-Drill.is c.requires.shape c.requires.words in (of.count, of.threads_are)

pub written_number-requires : goal.written_number-requires
written_number-requires c =
    is-seed (map string_bytes c.args.words.now) c.in_ok-first.field-0 c.unwrap-first.result c.unwrap-first.ensures
    (of-verb (map string_bytes c.args.words.now) c.in_ok-first.field-0 c.in_ok-first.ensures c.args.verb verbs.Drill c.in-Drill.is c.requires.shape c.requires.words)

pub written_number-requires-in-Drill : goal.written_number-requires-in-Drill
written_number-requires-in-Drill c =
    is-count (map string_bytes c.args.words.now) c.in_ok-first.field-0 c.unwrap-first.result c.unwrap-first.ensures c.unwrap-in-Drill.result c.unwrap-in-Drill.ensures
    (of-verb (map string_bytes c.args.words.now) c.in_ok-first.field-0 c.in_ok-first.ensures c.args.verb verbs.Drill c.in-Drill.is c.requires.shape c.requires.words)

pub returns-in-Drill : goal.returns-in-Drill
returns-in-Drill c =
    is-drill (map string_bytes c.args.words.now) c.in_ok-first.field-0 c.unwrap-first.result c.unwrap-first.ensures c.unwrap-in-Drill.result c.unwrap-in-Drill.ensures c.written_number.result c.written_number-in-Drill.result c.thread_count-in-Drill.result
    c.written_number.ensures c.written_number-in-Drill.ensures c.thread_count-in-Drill.ensures
    (of-verb (map string_bytes c.args.words.now) c.in_ok-first.field-0 c.in_ok-first.ensures c.args.verb verbs.Drill c.in-Drill.is c.requires.shape c.requires.words)

pub returns-in-List : goal.returns-in-List
returns-in-List c =
    is-alone (map string_bytes c.args.words.now) c.in_ok-first.field-0 c.unwrap-first.result c.unwrap-first.ensures (codes "list")
    (of-verb (map string_bytes c.args.words.now) c.in_ok-first.field-0 c.in_ok-first.ensures c.args.verb verbs.List c.in-List.is c.requires.shape c.requires.words)

pub returns-in-Dump : goal.returns-in-Dump
returns-in-Dump c =
    is-alone (map string_bytes c.args.words.now) c.in_ok-first.field-0 c.unwrap-first.result c.unwrap-first.ensures (codes "dump")
    (of-verb (map string_bytes c.args.words.now) c.in_ok-first.field-0 c.in_ok-first.ensures c.args.verb verbs.Dump c.in-Dump.is c.requires.shape c.requires.words)

pub returns-in-Stat : goal.returns-in-Stat
returns-in-Stat c =
    is-alone (map string_bytes c.args.words.now) c.in_ok-first.field-0 c.unwrap-first.result c.unwrap-first.ensures (codes "stat")
    (of-verb (map string_bytes c.args.words.now) c.in_ok-first.field-0 c.in_ok-first.ensures c.args.verb verbs.Stat c.in-Stat.is c.requires.shape c.requires.words)

pub returns-in-Desk : goal.returns-in-Desk
returns-in-Desk c =
    is-alone (map string_bytes c.args.words.now) c.in_ok-first.field-0 c.unwrap-first.result c.unwrap-first.ensures (codes "desk")
    (of-verb (map string_bytes c.args.words.now) c.in_ok-first.field-0 c.in_ok-first.ensures c.args.verb verbs.Desk c.in-Desk.is c.requires.shape c.requires.words)

pub returns-in-Sets : goal.returns-in-Sets
returns-in-Sets c =
    is-ruleset (map string_bytes c.args.words.now) c.in_ok-first.field-0 c.unwrap-first.result c.unwrap-first.ensures
    (of-verb (map string_bytes c.args.words.now) c.in_ok-first.field-0 c.in_ok-first.ensures c.args.verb verbs.Sets c.in-Sets.is c.requires.shape c.requires.words)

pub unwrap-requires-in-Compare : goal.unwrap-requires-in-Compare
unwrap-requires-in-Compare c = files-second (map string_bytes c.args.words.now) c.in_ok-first.field-0 (codes "compare") (of-verb (map string_bytes c.args.words.now) c.in_ok-first.field-0 c.in_ok-first.ensures c.args.verb verbs.Compare c.in-Compare.is c.requires.shape c.requires.words)

pub returns-in-Compare : goal.returns-in-Compare
returns-in-Compare c =
    is-files (map string_bytes c.args.words.now) c.in_ok-first.field-0 c.unwrap-first.result c.unwrap-first.ensures c.unwrap-in-Compare.result c.unwrap-in-Compare.ensures (codes "compare")
    (of-verb (map string_bytes c.args.words.now) c.in_ok-first.field-0 c.in_ok-first.ensures c.args.verb verbs.Compare c.in-Compare.is c.requires.shape c.requires.words)

pub unwrap-requires-in-Explain : goal.unwrap-requires-in-Explain
unwrap-requires-in-Explain c = files-second (map string_bytes c.args.words.now) c.in_ok-first.field-0 (codes "explain") (of-verb (map string_bytes c.args.words.now) c.in_ok-first.field-0 c.in_ok-first.ensures c.args.verb verbs.Explain c.in-Explain.is c.requires.shape c.requires.words)

pub returns-in-Explain : goal.returns-in-Explain
returns-in-Explain c =
    is-files (map string_bytes c.args.words.now) c.in_ok-first.field-0 c.unwrap-first.result c.unwrap-first.ensures c.unwrap-in-Explain.result c.unwrap-in-Explain.ensures (codes "explain")
    (of-verb (map string_bytes c.args.words.now) c.in_ok-first.field-0 c.in_ok-first.ensures c.args.verb verbs.Explain c.in-Explain.is c.requires.shape c.requires.words)
