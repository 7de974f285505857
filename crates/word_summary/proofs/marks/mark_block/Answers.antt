use Rattle.std.proofs.Common.{◌≡◌, ◌∙◌, ap, ℕ, ◌+◌, ◌*◌, ◌<◌, ◌≤◌, ◌⊎◌, inl, inr, arith, true, sym}
use Rattle.std.specs.Prelude.{slice_index}
use Rattle.std.proofs.lemmas.Bool.{cases_lt}
use Rattle.bit_rows.specs.Row.{bit}
use Rattle.field_groups.specs.Groups.{agrees}
use Rattle.word_summary.proofs.MarkLaws.{keeps-none, keeps-both, run-lines}
use Rattle.word_summary.proofs.marks.mark_block.Goals as goal

pub groups-init : goal.groups-init
groups-init c = record { own = c.requires.own; kept = keeps-none _; set = λ g v l h a. absurd (omega arith) }

pub groups-preserved : goal.groups-preserved
groups-preserved c = record {
  own = c.mark_run.ensures.own;
  kept = keeps-both _ _ _ c.groups.invariant.kept c.mark_run.ensures.kept;
  set = λ g v h w a. go g v w a (cases_lt g c.groups.g) h;
} where
  go : (g v : ℕ) → v < 256 → agrees 8 c.args.bits c.args.block g v ≡ true → (g < c.groups.g) ⊎ (c.groups.g ≤ g) → g < c.groups.g + 1 → bit (slice_index c.mark_run.new.page.items (g * 256 + v)) c.args.k ≡ true
  go g v w a (inl before) h = c.mark_run.ensures.kept.marks _ _ (c.groups.invariant.set g v before w a)
  go g v w a (inr here) h =
      let e : g ≡ c.groups.g = omega arith in
      let run = run-lines c.args.bits c.groups.g c.group_mask-base.result.0 c.group_mask-base.result.1 v c.args.block c.group_mask-base.ensures.base c.group_mask-base.ensures.mask w (ap (λ x. agrees 8 c.args.bits c.args.block x v) (sym e) ∙ a) in
      ap (λ x. bit (slice_index c.mark_run.new.page.items (x * 256 + v)) c.args.k) e ∙ c.mark_run.ensures.set (c.groups.g * 256 + v) (omega (arith, run.0)) (omega (arith, run.1))
