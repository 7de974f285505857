use Rattle.std.proofs.Common.{sym, ◌∙◌, ◌/◌}
use Rattle.fused_lookup.proofs.SieveLaws.{have-lines, none-left, no-rest, word-held, word-past}
use Rattle.fused_lookup.proofs.sieve.match_at.Goals.{then-left-eq0-via-then-left-eq0, then-left-eq0-via-else-left-eq0+then-probe-eq0}
use Rattle.fused_lookup.proofs.sieve.match_at.Goals as goal

pub left_at-left-requires-clause-lines : goal.left_at-left-requires-clause-lines
left_at-left-requires-clause-lines c = have-lines c.args.table.now c.args.probe.value c.args.probe.buckets (c.args.i / 8) c.page-words.result.now c.requires.probe.buckets c.page-words.ensures

pub returns-then-left-eq0-clause-held : goal.returns-then-left-eq0-clause-held
returns-then-left-eq0-clause-held c = λ blocks stands.
    word-held c.args.table.now c.args.probe.value _ c.page-words.result.now blocks c.args.i c.left_at-left.result c.left_at-left.result c.requires.probe.buckets c.page-words.ensures stands c.requires.probe.value
    c.left_at-left.ensures
    (elim c.then-left-eq0.branch [
      | then-left-eq0-via-then-left-eq0 w ↦ none-left c.args.table.now c.args.probe.value c.args.i c.left_at-left.result w.if-left-eq0.true
      | then-left-eq0-via-else-left-eq0+then-probe-eq0 w ↦ no-rest c.args.table.now c.args.probe.value c.args.i c.left_at-left.result (sym c.requires.probe.buckets.rest ∙ w.if-probe-eq0.true)
    ])

pub returns-then-left-eq0-clause-past : goal.returns-then-left-eq0-clause-past
returns-then-left-eq0-clause-past c =
    word-past c.args.table.now c.args.probe.value _ c.page-words.result.now c.args.i c.left_at-left.result c.left_at-left.result c.requires.probe.buckets c.page-words.ensures
    c.left_at-left.ensures
    (elim c.then-left-eq0.branch [
      | then-left-eq0-via-then-left-eq0 w ↦ none-left c.args.table.now c.args.probe.value c.args.i c.left_at-left.result w.if-left-eq0.true
      | then-left-eq0-via-else-left-eq0+then-probe-eq0 w ↦ no-rest c.args.table.now c.args.probe.value c.args.i c.left_at-left.result (sym c.requires.probe.buckets.rest ∙ w.if-probe-eq0.true)
    ])

pub returns-clause-held : goal.returns-clause-held
returns-clause-held c = λ blocks stands.
    word-held c.args.table.now c.args.probe.value _ c.page-words.result.now blocks c.args.i c.left_at-left.result c.match_before.result c.requires.probe.buckets c.page-words.ensures stands c.requires.probe.value
    c.left_at-left.ensures c.match_before.ensures.kept

pub returns-clause-past : goal.returns-clause-past
returns-clause-past c =
    word-past c.args.table.now c.args.probe.value _ c.page-words.result.now c.args.i c.left_at-left.result c.match_before.result c.requires.probe.buckets c.page-words.ensures
    c.left_at-left.ensures c.match_before.ensures.kept
