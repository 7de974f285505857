use Rattle.std.proofs.Common.{◌≡◌, ◌∙◌, ◌≤◌, ◌+◌, ◌++◌, ap, sym, subst, All, ℕ, List, length, Some, slice_get, take, flat_map, arith}
use Rattle.std.specs.List.{list_any, enumerate_from}
use Rattle.script_laws.proofs.Lists.{of-item}
use Rattle.set_model.specs.declared.packet.Packet.{Packet}
use Rattle.set_model.specs.declared.script.SetDecl.{SetDecl}
use Rattle.set_model.specs.Control.{mode_of}
use Rattle.set_model.specs.Runnable.{IsFitting}
use Rattle.key_match.proofs.ListLaws.{text-next}
use Rattle.explain_answer.specs.Explained.{section_text, section_lacks}
use Rattle.explain_answer.specs.Runs.{HasDone}
use Rattle.explain_answer.proofs.RunLaws.{sets-of, item_at, items-all, any-next, section-said, section-lacks, done-as}
use Rattle.explain_answer.proofs.whole.write_sections.Goals as goal

pub write_section-requires-clause-sets : goal.write_section-requires-clause-sets
write_section-requires-clause-sets g c = sets-of (mode_of c.args.keep_going) c.args.script.now (c.sections.i + 1 + 1) c.do_next.new.trace c.in_ok-do_next.ensures

pub write_section-requires-clause-fits : goal.write_section-requires-clause-fits
write_section-requires-clause-fits g c =
    subst (λ (z : List SetDecl). All (IsFitting z) c.at.result.now) (sym c.in_ok-do_next.ensures.schema_is)
    (of-item (All (IsFitting c.args.script.now.schema)) c.args.keys.now c.sections.i c.at.result.now c.requires.keys c.at.ensures)

pub sections-preserved : goal.sections-preserved
sections-preserved g c =
    let mode = mode_of c.args.keep_going in
    let s = c.args.script.now in
    let i = c.sections.i in
    let n : ℕ = i + 1 + 1 in
    let two : n ≡ i + 2 = omega arith in
    let ps = c.at.result.now in
    let at = item_at c.args.keys.now i ps c.at.ensures in
    let fit = of-item (All (IsFitting s.schema)) c.args.keys.now i ps c.requires.keys c.at.ensures in
    let t = c.do_next.new.trace in
    let h = c.in_ok-do_next.ensures in record {
      done = h;
      text =
          text-next (enumerate_from 0 c.args.keys.now) i (i, ps) at (section_text mode s) c.args.out.now.items c.sections.out.items c.write_section.new.out.items c.sections.invariant.text
          (section-said mode s i n t ps c.sections.out.items c.write_section.new.out.items two h fit c.in_ok-lacks_one.ensures.text);
      lacks =
          any-next (section_lacks mode s) (enumerate_from 0 c.args.keys.now) i (i, ps) c.sections.lacks c.in_ok-lacks_one.lacks_one c.either-lacks.result at c.sections.invariant.lacks
          (section-lacks mode s i n t ps c.in_ok-lacks_one.lacks_one two h c.in_ok-lacks_one.ensures.lacks) c.either-lacks.ensures;
    }

pub returns-clause-done : goal.returns-clause-done
returns-clause-done g c = done-as (mode_of c.args.keep_going) c.args.script.now (c.sections.i + 1) (length c.args.keys.now + 1) c.sections.trace (omega (arith, c.sections-test.false, c.len-i-end.ensures, c.sections.auto)) c.sections.invariant.done

pub returns-clause-text : goal.returns-clause-text
returns-clause-text g c =
    let past : length c.args.keys.now ≤ c.sections.i = omega (arith, c.sections-test.false, c.len-i-end.ensures) in
    c.sections.invariant.text ∙ ap (λ (z : List (ℕ × List Packet)). c.args.out.now.items ++ flat_map (section_text (mode_of c.args.keep_going) c.args.script.now) z) (items-all c.args.keys.now c.sections.i past)

pub returns-clause-lacks : goal.returns-clause-lacks
returns-clause-lacks g c =
    let past : length c.args.keys.now ≤ c.sections.i = omega (arith, c.sections-test.false, c.len-i-end.ensures) in
    c.sections.invariant.lacks ∙ ap (λ (z : List (ℕ × List Packet)). list_any (section_lacks (mode_of c.args.keep_going) c.args.script.now) z) (items-all c.args.keys.now c.sections.i past)
