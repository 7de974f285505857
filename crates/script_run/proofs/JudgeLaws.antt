-- What a judge says of packets, and what a lookup says.
use Rattle.std.proofs.Common.{◌≡◌, ◌∙◌, ap, subst, ℕ, List, Some, slice_get, arith, All}
use Rattle.std.proofs.lemmas.Option.{slice_get_within}
use Rattle.set_model.specs.declared.packet.Packet.{Packet}
use Rattle.set_model.specs.declared.packet.Verdict.{Verdict}
use Rattle.set_model.specs.declared.report.Line.{Line}
use Rattle.set_model.specs.declared.script.Script.{Script}
use Rattle.set_model.specs.declared.script.SetDecl.{SetDecl}
use Rattle.set_model.specs.Control.{Mode, Generation}
use Rattle.set_model.specs.Legal.{AreLegal, IsLegalLine, IsFirstMatch, Placed, placed}
use Rattle.gen_publish.proofs.Growing.{as_many}
use Rattle.packet_pool.specs.Section.{IsSection, verdict_in}
use Rattle.script_run.specs.Telling.{looked_up, IsLineOf, IsAnsweredBy}
use Rattle.script_laws.proofs.Lists.{item-at, each-item}

-- Lines that are legal by what one judge says are legal by what that implies.
pub legal-as : {Says Other : Generation → Packet → Verdict → Type 0} {script : Script} {keys : List (List Packet)} {threads : ℕ} {mode : Mode} {lines : List Line}
    → ((g : Generation) (p : Packet) (v : Verdict) → Says g p v → Other g p v) → AreLegal Says script keys threads mode lines → AreLegal Other script keys threads mode lines
legal-as {Says} {Other} {script} {keys} {threads} {mode} {lines} implies legal = record { one_each = legal.one_each; each = each; pairs = legal.pairs } where
  each : (p : ℕ) (at : Placed) (line : Line) → slice_get (placed keys) p ≡ Some at → slice_get lines p ≡ Some line → IsLegalLine Other mode script threads p at line
  each p at line e f =
      let l = legal.each p at line e f in
      let v = l.verdict in record {
        names_packet = l.names_packet;
        thread = l.thread;
        not_too_old = l.not_too_old;
        not_too_new = l.not_too_new;
        verdict = record { generation = v.generation; is_committed = v.is_committed; says = implies v.generation at.packet line.verdict v.says };
      }

-- Lines that are legal by what a judge says are legal by the verdict that it gives, in the mode of the run.
pub judged-legal : {given : Generation → Packet → Verdict} {schema : List SetDecl} {script : Script} {keys : List (List Packet)} {threads : ℕ} {run_mode : Mode} {lines : List Line} (mode : Mode) (verdict : Generation → Packet → Verdict)
    → AreLegal (IsAnsweredBy given schema) script keys threads run_mode lines → run_mode ≡ mode → ((g : Generation) (p : Packet) → given g p ≡ verdict g p) → AreLegal (λ g p v. v ≡ verdict g p) script keys threads mode lines
judged-legal {given} {schema} {script} {keys} {threads} {run_mode} {lines} mode verdict legal same gives =
    subst (λ (m : Mode). AreLegal (λ g p v. v ≡ verdict g p) script keys threads m lines) same (legal-as (λ g p v said. said.answer_is ∙ gives g p) legal)

-- What a lookup says is the first match in the packet's set, which is there.
pub first-match : (schema : List SetDecl) (g : Generation) (p : Packet) (v : Verdict) → IsAnsweredBy looked_up schema g p v → IsFirstMatch g p v
first-match schema g p v h =
    let many = as_many g.sets schema h.sets in
    let within = slice_get_within schema p.set h.fits.set h.fits.declared in
    let s = item-at g.sets p.set (omega (arith, many, within)) in
    record { state = s.0; is_set = s.1; first_match = h.answer_is ∙ ap (verdict_in p.key p.now) s.1 }

-- The lines of a section have verdicts of its judge.
pub lines-judged : (verdict : Generation → Packet → Verdict) (packets : List Packet) (first threads low : ℕ) (after : List Generation) (lines : List Line)
    → IsSection verdict packets first threads low after lines → All (IsLineOf verdict) lines
lines-judged verdict packets first threads low after lines s = each-item (IsLineOf verdict) lines each where
  each : (p : ℕ) (l : Line) → slice_get lines p ≡ Some l → IsLineOf verdict l
  each p l e =
      let within = slice_get_within lines p l e in
      let size = s.one_each in
      let packet = item-at packets p (omega (arith, within, size)) in
      let answer = (s.each p packet.0 l packet.1 e).answer in
      (answer.0, packet.0, answer.2)
