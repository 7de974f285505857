use Rattle.std.proofs.Common.{arith, ◌≡◌, ◌+◌, sym, ap, ◌∙◌, subst, All, List, length}
use Rattle.set_model.specs.declared.packet.Packet.{Packet}
use Rattle.set_model.specs.declared.script.SetDecl.{SetDecl}
use Rattle.set_model.specs.declared.script.Step.{Step}
use Rattle.set_model.specs.Runnable.{IsRunnableStep, IsFitting}
use Rattle.set_model.specs.Text.{section_count}
use Rattle.script_laws.proofs.Lists.{All-section}
use Rattle.script_laws.proofs.RunLaws.{closed-at}
use Rattle.script_run.proofs.TranscriptLaws.{told_none, told_next, told_all, packets-next}
use Rattle.script_run.proofs.output.told_by.Goals as goal

pub do_section-requires-clause-readers : goal.do_section-requires-clause-readers
do_section-requires-clause-readers g c κs within = let b = c.in_ok-telling.ensures in let n = b.threads_are in let few = c.requires.threads in (omega (arith, n, few), omega (arith, n, few), b.ready)

pub do_section-requires-clause-steps : goal.do_section-requires-clause-steps
do_section-requires-clause-steps g c κs within = let b = c.in_ok-telling.ensures in
    subst (λ (z : List SetDecl × List Step). All (IsRunnableStep z.0) z.1) (λ i. (sym b.schema_is i, sym c.section-first.ensures i))
    (All-section (IsRunnableStep c.args.script.now.schema) c.args.script.now.sections 0 c.requires.script.steps)

pub do_section-requires-clause-packets : goal.do_section-requires-clause-packets
do_section-requires-clause-packets g c κs within = λ k d lt. let none = ap length c.new-no_packets.ensures in absurd (omega (arith, lt, none))

pub rest-init : goal.rest-init
rest-init g c =
    told_next (g.J.Judge.verdict c.args.judge.now) (g.J.Teller.packets_text c.args.judge.now) c.args.keep_going c.args.script.now c.args.keys.now c.args.threads c.requires.keys 0 c.in_ok-telling.telling c.do_section.new.self _ _
    (told_none (g.J.Judge.verdict c.args.judge.now) (g.J.Teller.packets_text c.args.judge.now) c.args.keep_going c.args.script.now c.args.keys.now c.args.threads c.in_ok-telling.telling c.in_ok-telling.ensures)
    (closed-at c.args.script.now.sections 0 c.requires.script.closed)
    c.section-first.ensures c.new-no_packets.ensures c.in_ok-do_section.ensures

pub do_section-requires-in-rest-clause-readers : goal.do_section-requires-in-rest-clause-readers
do_section-requires-in-rest-clause-readers g c κs within = let b = c.rest.invariant in let n = b.threads_are in let few = c.requires.threads in (omega (arith, n, few), omega (arith, n, few), b.ready)

pub do_section-requires-in-rest-clause-steps : goal.do_section-requires-in-rest-clause-steps
do_section-requires-in-rest-clause-steps g c κs within = let b = c.rest.invariant in
    subst (λ (z : List SetDecl × List Step). All (IsRunnableStep z.0) z.1) (λ i. (sym b.schema_is i, sym c.section-steps.ensures i))
    (All-section (IsRunnableStep c.args.script.now.schema) c.args.script.now.sections (c.rest.j + 1) c.requires.script.steps)

pub do_section-requires-in-rest-clause-packets : goal.do_section-requires-in-rest-clause-packets
do_section-requires-in-rest-clause-packets g c κs within = let b = c.rest.invariant in
    subst (λ (z : List SetDecl × List Packet). All (IsFitting z.0) z.1) (λ i. (sym b.schema_is i, sym c.section-packets.ensures i))
    (All-section (IsFitting c.args.script.now.schema) c.args.keys.now c.rest.j c.requires.keys)

pub rest-preserved : goal.rest-preserved
rest-preserved g c =
    told_next (g.J.Judge.verdict c.args.judge.now) (g.J.Teller.packets_text c.args.judge.now) c.args.keep_going c.args.script.now c.args.keys.now c.args.threads c.requires.keys (c.rest.j + 1) c.rest.telling c.do_section-in-rest.new.self _ _ c.rest.invariant
    (closed-at c.args.script.now.sections (c.rest.j + 1) c.requires.script.closed)
    c.section-steps.ensures (c.section-packets.ensures ∙ packets-next c.args.keys.now c.rest.j) c.in_ok-do_section-2.ensures

pub returns-clause-text : goal.returns-clause-text
returns-clause-text g c =
    let size : section_count c.args.script.now c.args.keys.now ≡ c.rest.j + 1 = omega (arith, c.later_sections-last.ensures) in
    (told_all (g.J.Judge.verdict c.args.judge.now) (g.J.Teller.packets_text c.args.judge.now) c.args.keep_going c.args.script.now c.args.keys.now c.args.threads (c.rest.j + 1) c.rest.telling size c.rest.invariant).0

pub returns-clause-refused : goal.returns-clause-refused
returns-clause-refused g c =
    let size : section_count c.args.script.now c.args.keys.now ≡ c.rest.j + 1 = omega (arith, c.later_sections-last.ensures) in
    (told_all (g.J.Judge.verdict c.args.judge.now) (g.J.Teller.packets_text c.args.judge.now) c.args.keep_going c.args.script.now c.args.keys.now c.args.threads (c.rest.j + 1) c.rest.telling size c.rest.invariant).1

pub returns-clause-refusals : goal.returns-clause-refusals
returns-clause-refusals g c =
    let size : section_count c.args.script.now c.args.keys.now ≡ c.rest.j + 1 = omega (arith, c.later_sections-last.ensures) in
    (told_all (g.J.Judge.verdict c.args.judge.now) (g.J.Teller.packets_text c.args.judge.now) c.args.keep_going c.args.script.now c.args.keys.now c.args.threads (c.rest.j + 1) c.rest.telling size c.rest.invariant).2

pub returns-clause-failed : goal.returns-clause-failed
returns-clause-failed g c =
    let size : section_count c.args.script.now c.args.keys.now ≡ c.rest.j + 1 = omega (arith, c.later_sections-last.ensures) in
    (told_all (g.J.Judge.verdict c.args.judge.now) (g.J.Teller.packets_text c.args.judge.now) c.args.keep_going c.args.script.now c.args.keys.now c.args.threads (c.rest.j + 1) c.rest.telling size c.rest.invariant).3

pub do_section-requires-clause-judge : goal.do_section-requires-clause-judge
do_section-requires-clause-judge g c κs within = let b = c.in_ok-telling.ensures in
    subst (λ (s : List SetDecl). g.J.Judge.serves c.args.judge.now s) (sym b.schema_is) c.requires.judge

pub do_section-requires-in-rest-clause-judge : goal.do_section-requires-in-rest-clause-judge
do_section-requires-in-rest-clause-judge g c κs within = let b = c.rest.invariant in
    subst (λ (s : List SetDecl). g.J.Judge.serves c.args.judge.now s) (sym b.schema_is) c.requires.judge
