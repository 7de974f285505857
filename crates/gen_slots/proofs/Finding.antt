-- What the writer knows while it checks slot after slot.
use Rattle.std.proofs.Common.{◌≡◌, ◌≢◌, ℕ, ◌+◌, ◌<◌, ◌≤◌, List, length}
use Rattle.std.specs.Prelude.{slice_index}
use Rattle.gen_slots.specs.declared.board.Plan.{Plan}
use Rattle.gen_slots.specs.declared.board.Role.{Role}
use Rattle.gen_slots.specs.declared.board.Role.TheVariants.{Keeper}
use Rattle.gen_slots.specs.SlotRule.{sum_below}

-- all slots below `slot` but the published one were tried, in m checks
pub record Tried {X : Type 0} (before now : Role X) (readers published : ℕ) (counts : List ℕ) (slot m : ℕ) : Type 0 where
  pub plan : Plan X
  pub tries : List ℕ
  pub was : before ≡ Keeper plan
  pub is : now ≡ Keeper (record plan { tried = tries; checks = plan.checks + m })
  pub readers_is : plan.readers ≡ readers
  pub published_is : plan.published ≡ published
  pub counts_is : plan.counts ≡ counts
  pub empty_hand : plan.hand ≡ 0
  pub size : length tries ≡ 18
  pub each : (k : ℕ) → k < slot → k ≢ published → slice_index tries k ≡ 1
  pub few : sum_below (readers + 2) (slice_index tries) ≤ readers
