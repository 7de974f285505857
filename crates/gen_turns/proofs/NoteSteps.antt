-- A note is split off a view, another view takes it in, and word 1 is loaded. Each keeps the rule
-- of the table.
use Rattle.std.proofs.Common.{◌≡◌, ◌≢◌, ℕ, List, [], ◌∷◌, ◌++◌, set, sym, refl, ap, ◌∙◌, subst, ⊎_elim, arith}
use Rattle.std.proofs.lemmas.List.Sums.{sum_by-append}
use mathlib.Core.Option.{none, some}
use lib.ListN.{get_elem?}
use lib.Seq.{set-get_or}
use Rattle.atomic_table.specs.Table.{State, Me, step, keeps, Allows, Splits, Joins}
use Rattle.atomic_table.proofs.Lists.{at_set, set_here, at_snoc, at_longer}
use Rattle.history_laws.specs.Histories.{StartsWith, longer}
use Rattle.history_laws.proofs.Prefixes.{longer_begins, longer_whole, chain_prefix, starts_through}
use Rattle.history_laws.proofs.Views.{entry_read}
use Rattle.ticket_line.proofs.Lines.{rests as line_rests, joins_none as line_joins}
use Rattle.ticket_line.proofs.Seats.{nobody_still, one_with}
use Rattle.gen_turns.specs.declared.board.SeatView.{SeatView}
use Rattle.gen_turns.specs.declared.board.Role.TheVariants.{Idle, Keeper}
use Rattle.gen_turns.specs.TurnRule.{Entry, HasNumber, stage_of, ticket_of, turns_of, Sits, Kept, listing}
use Rattle.gen_turns.specs.TurnSteps.{with_note, learned}
use Rattle.gen_turns.proofs.SeatMoves.{no_ticket, other_lists, plays, seat_moves, view_changes}

module _ {T X : Type 0} (state : T → X) (follows : X → X → Type 0) where
  abbrev St : Type 0
  St = State (Entry T) (SeatView T X)

  abbrev M : Type 0
  M = Me (Entry T) (SeatView T X)

  abbrev Rule : St → Type 0
  Rule = Kept state follows

  -- one more note
  note_more : (s : St) (k : Rule s) (seen : List X) → StartsWith k.made seen → Rule record { words = s.words; homes = s.homes; views = s.views ++ listing seen ∷ [] }
  note_more s k seen begins = let w : SeatView T X = listing seen in record {
    line = k.line;
    n = k.n;
    first = k.first;
    made = k.made;
    given = k.given;
    last = k.last;
    few = k.few;
    deep = k.deep;
    queue = line_joins stage_of ticket_of s.words s.views k.line w k.queue (omega arith);
    home = λ away. k.home (λ j d h. away j d (at_longer s.views (w ∷ []) j d h));
    chain = k.chain;
    starts = k.starts;
    ungiven = k.ungiven;
    one_each = λ a. one_with (λ (d : SeatView T X). HasNumber k.n a d.role) s.views w (k.one_each a) (λ j d h is none_is. none_is);
    seats = (let sum = sum_by-append turns_of s.views (w ∷ []) in let count = k.seats in omega (arith, sum, count));
    each_seat = λ j d h. ⊎_elim (k.each_seat j d) (λ (t : w ≡ d). subst (Sits state k.n k.first k.made k.given k.last) t (begins, (k.made, refl), (seen, refl), (λ z. absurd (omega arith)), (λ z. absurd (omega arith)), tt)) (at_snoc s.views w d j h);
  }

  pub tells : (id : ℕ) (v : SeatView T X) → Splits Rule id v v (listing v.seen)
  tells id v s k at = let s' : St = record { words = s.words; homes = s.homes; views = set s.views id v } in let k' : Rule s' = view_changes state follows s k id v v at refl refl refl (k.each_seat id v at) in
      note_more s' k' v.seen (k'.each_seat id v (set_here s.views id v (entry_read s.views id v at).0)).0

  -- the same for any two views that equal these
  pub tells_as : (id : ℕ) (v left right : SeatView T X) → left ≡ v → right ≡ listing v.seen → Splits Rule id v left right
  tells_as id v left right same other = subst (λ (z : SeatView T X × SeatView T X). Splits Rule id v z.0 z.1) (λ i. (sym same i, sym other i)) (tells id v)

  pub meets : (id : ℕ) (v : SeatView T X) (other : ℕ) (w : SeatView T X) → w.role ≡ Idle → Joins Rule id v other w (with_note v w.seen) (listing [])
  meets id v other w idle s k at apart there =
      let both : SeatView T X = with_note v w.seen in let spent : SeatView T X = listing [] in let mine = k.each_seat id v at in
      let beside : get_elem? s.views other ≡ some w = ⊎_elim (λ (t : (other ≡ id) × (both ≡ w)). absurd (apart t.0)) (λ (t : (other ≢ id) × (get_elem? s.views other ≡ some w)). t.1) (at_set s.views id other both w there) in let theirs = k.each_seat other w beside in
      let s' : St = record { words = s.words; homes = s.homes; views = set s.views id both } in let k' : Rule s' = view_changes state follows s k id v both at refl refl refl (mine.0, theirs.0, mine.2, mine.3, mine.4, mine.5) in
      let low = no_ticket w.stage w.role idle theirs.3 in
      seat_moves state follows s' k' other w spent there (sym idle) s.words s.homes k'.line k'.made k'.last k'.deep (line_rests stage_of ticket_of s.words s'.views k'.line k'.queue other w spent there low (omega arith))
      (λ away. k'.home (nobody_still stage_of s'.views other w spent there (λ z. absurd (omega (arith, z, low))) away)) k'.chain k'.starts k'.ungiven
      ((k'.made, refl), (k'.made, refl), ([], refl), (λ z. absurd (omega arith)), (λ z. absurd (omega arith)), tt) (λ j d _ its. k'.each_seat j d its)

  pub learns : (slots id : ℕ) (me : M) → Allows Rule slots id me 1 (λ x. x) (learned follows (step slots 1 0 0 none) me)
  learns slots id me s k deep at fits = let mine = k.each_seat id me.0 at in let both = longer_begins k.made me.0.seen me.0.told mine.0 mine.1 in let seen : List X = longer me.0.seen me.0.told in let w : SeatView T X = record me.0 { seen = seen; told = [] } in (
    w,
    keeps,
    tt,
    subst (λ (ws : List ℕ). Rule record { words = ws; homes = s.homes; views = set s.views id w }) (sym (set-get_or s.words 1 0))
        (view_changes state follows s k id me.0 w at refl refl refl (
          both.0,
          (k.made, refl),
          starts_through seen me.0.seen me.0.entered both.1 mine.2,
          mine.3,
          mine.4,
          other_lists k.n k.first k.made k.given k.last me.0.seen me.0.entered seen (λ e. ap (λ (z : List X). longer z me.0.told) e ∙ longer_whole k.made me.0.told mine.1) me.0.role mine.5,
        )),
    (
      refl,
      both.1,
      both.2,
      λ q g is. let knew = plays state follows s k id me.0 (Keeper q g) at is in ap (λ (z : List X). longer z me.0.told) knew.2 ∙ (longer_whole k.made me.0.told mine.1 ∙ sym knew.2),
      chain_prefix follows k.made seen both.0 k.chain,
    ),
  )
