-- Two steps keep the rule of the table: a note is made from a view, or another view takes it in. So
-- does the load of the published word after that.
use Rattle.std.proofs.Common.{◌≡◌, ◌≢◌, ℕ, ◌+◌, List, [], ◌∷◌, ◌++◌, set, sym, refl, ap, ◌∙◌, subst, ⊎_elim, arith, Option}
use Rattle.std.specs.List.{sum_by}
use Rattle.std.proofs.lemmas.List.Sums.{sum_by-append}
use mathlib.Core.Option.{none, some}
use lib.ListN.{get_elem?}
use lib.Seq.{set-get_or}
use Rattle.atomic_table.specs.Table.{State, Me, step, keeps, Allows, Splits, Joins}
use Rattle.atomic_table.proofs.Lists.{at_set, at_snoc}
use Rattle.history_laws.specs.Histories.{StartsWith, longer}
use Rattle.history_laws.proofs.Prefixes.{longer_begins, longer_whole, chain_prefix}
use Rattle.history_laws.proofs.Views.{views_stay, sum_by-view_set}
use Rattle.gen_slots.specs.declared.board.Plan.{Plan}
use Rattle.gen_slots.specs.declared.board.SeatView.{SeatView}
use Rattle.gen_slots.specs.declared.board.Role.{Role}
use Rattle.gen_slots.specs.declared.board.Role.TheVariants.{Idle, Out, Holds, Keeper}
use Rattle.gen_slots.specs.SlotRule.{Plays, Kept, seat_view, moves_of}
use Rattle.gen_slots.specs.SlotSteps.{IsLearner, learned}
use Rattle.gen_slots.proofs.ReaderSteps.{plays}

module _ {T X : Type 0} (state : T → X) (follows : X → X → Type 0) (start : ℕ) where
  abbrev St : Type 0
  St = State (Option T) (SeatView X)

  abbrev M : Type 0
  M = Me (Option T) (SeatView X)

  abbrev Rule : St → Type 0
  Rule = Kept state follows start

  abbrev Sits : (s : St) → Rule s → ℕ → SeatView X → Type 0
  Sits s k j d = StartsWith k.made d.seen × StartsWith k.made d.told × Plays state k.plan k.made k.n k.writer k.stage k.owner j d.seen d.role

  -- some views change, and nothing else does
  seats_change : (s : St) (k : Rule s) (views : List (SeatView X)) → sum_by moves_of views ≡ sum_by moves_of s.views → ((j : ℕ) (d : SeatView X) → get_elem? views j ≡ some d → Sits s k j d) → Rule record { words = s.words; homes = s.homes; views = views }
  seats_change s k views total seats = record {
    n = k.n;
    plan = k.plan;
    made = k.made;
    writer = k.writer;
    stage = k.stage;
    owner = k.owner;
    leaves = k.leaves;
    few = k.few;
    wide = k.wide;
    deep = k.deep;
    lists = k.lists;
    published = k.published;
    newest = k.newest;
    alone = k.alone;
    standings = k.standings;
    of_made = k.of_made;
    hand = k.hand;
    each_slot = k.each_slot;
    inside = k.inside;
    in_use = k.in_use;
    ungiven = k.ungiven;
    chain = k.chain;
    few_fail = k.few_fail;
    moved = total ∙ k.moved;
    each_seat = seats;
  }

  pub tells : (id : ℕ) (v : SeatView X) → Splits Rule id v v (seat_view Idle v.seen [] 0)
  tells id v s k at = let w : SeatView X = seat_view Idle v.seen [] 0 in let mine = k.each_seat id v at in
      let same = sum_by-view_set moves_of s.views id v v at in let more = sum_by-append moves_of (set s.views id v) (w ∷ []) in
      seats_change s k (set s.views id v ++ w ∷ []) (let none_moved : sum_by moves_of (w ∷ []) ≡ 0 = refl in omega (arith, same, more, none_moved)) (λ j d e. ⊎_elim (views_stay (Sits s k) s.views id v mine (λ i x _. k.each_seat i x) j d)
      (λ (t : w ≡ d). subst (Sits s k j) t (mine.0, (k.made, refl), tt)) (at_snoc (set s.views id v) w d j e))

  -- the same for any two views that equal these
  pub tells_as : (id : ℕ) (v left right : SeatView X) → left ≡ v → right ≡ seat_view Idle v.seen [] 0 → Splits Rule id v left right
  tells_as id v left right same other = subst (λ (z : SeatView X × SeatView X). Splits Rule id v z.0 z.1) (λ i. (sym same i, sym other i)) (tells id v)

  pub meets : (id : ℕ) (v : SeatView X) (other : ℕ) (w : SeatView X) → Joins Rule id v other w (seat_view v.role v.seen w.seen (v.moves + w.moves)) (seat_view Idle [] [] 0)
  meets id v other w s k at apart there = let both : SeatView X = seat_view v.role v.seen w.seen (v.moves + w.moves) in let spent : SeatView X = seat_view Idle [] [] 0 in let mine = k.each_seat id v at in
      let theirs = ⊎_elim (λ (t : (other ≡ id) × (both ≡ w)). absurd (apart t.0)) (λ (t : (other ≢ id) × (get_elem? s.views other ≡ some w)). (k.each_seat other w t.1).0) (at_set s.views id other both w there) in
      let first = sum_by-view_set moves_of s.views id v both at in let second = sum_by-view_set moves_of (set s.views id both) other w spent there in
      seats_change s k (set (set s.views id both) other spent) (omega (arith, first, second)) (views_stay (Sits s k) (set s.views id both) other spent ((k.made, refl), (k.made, refl), tt)
      (λ j d _. views_stay (Sits s k) s.views id both (mine.0, theirs, mine.2) (λ i x _. k.each_seat i x) j d))

  still : (p : Plan X) (made : List X) (n writer : ℕ) (stage owner : ℕ → ℕ) (id : ℕ) (seen told : List X) → StartsWith made told → (role : Role X) → IsLearner role
      → Plays state p made n writer stage owner id seen role → Plays state p made n writer stage owner id (longer seen told) role
  still p made n writer stage owner id seen told b Idle l k = tt
  still p made n writer stage owner id seen told b (Out r) l k = k
  still p made n writer stage owner id seen told b (Holds r c) l k = absurd l
  still p made n writer stage owner id seen told b (Keeper q) l k = (k.0, k.1, ap (λ (z : List X). longer z told) k.2 ∙ longer_whole made told b)

  pub learns : (slots id : ℕ) (me : M) → IsLearner me.0.role → Allows Rule slots id me 0 (λ x. x) (learned follows (step slots 0 0 0 none) me)
  learns slots id me l s k deep at fits = let mine = k.each_seat id me.0 at in let both = longer_begins k.made me.0.seen me.0.told mine.0 mine.1 in let w : SeatView X = seat_view me.0.role (longer me.0.seen me.0.told) [] me.0.moves in (
    w,
    keeps,
    tt,
    subst (λ (ws : List ℕ). Rule record { words = ws; homes = s.homes; views = set s.views id w }) (sym (set-get_or s.words 0 0))
        (seats_change s k (set s.views id w) (let same = sum_by-view_set moves_of s.views id me.0 w at in omega (arith, same)) (views_stay (Sits s k) s.views id w (both.0, (k.made, refl), still k.plan k.made k.n k.writer k.stage k.owner id me.0.seen me.0.told mine.1 me.0.role l mine.2) (λ j d _. k.each_seat j d))),
    (refl, both.1, both.2, λ p is. let knew = plays state follows start s k id me.0 (Keeper p) at is in ap (λ (z : List X). longer z me.0.told) knew.2 ∙ (longer_whole k.made me.0.told mine.1 ∙ sym knew.2), chain_prefix follows k.made (longer me.0.seen me.0.told) both.0 k.chain),
  )
