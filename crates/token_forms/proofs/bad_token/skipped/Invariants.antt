use Rattle.std.proofs.Common.{◌≡◌, ◌+◌, ◌≤◌, length}
use Rattle.token_forms.proofs.bad_token.skipped.Given as goal

abbrev pub invariant-skip : goal.invariant-skip
invariant-skip l = record { same : length l.ahead + length l.fn.left ≡ length l.fn.ahead + length l.left; within : length l.left ≤ length l.fn.left }

abbrev pub decreases-skip : goal.decreases-skip
decreases-skip l = length l.left
