-- A draw, a look and the end of a turn: each keeps the rule of the table.
use Rattle.std.proofs.Common.{◌≡◌, ◌≢◌, ℕ, ◌+◌, ◌-◌, ◌%◌, ◌^◌, ◌<◌, ◌≤◌, List, [], ◌∷◌, ◌++◌, All, length, get_or, set, sym, refl, ap, ◌∙◌, subst, arith, Option, Some, None, length-set, length-append}
use Rattle.std.proofs.lemmas.List.Elements.{All-nil, All-cons, All-head, All-tail, All-append, All-weaker}
use mathlib.Core.Logic.{dite}
use mathlib.Core.Option.{none, some}
use native.Mathlib.Decide.{ℕ_discrete}
use lib.ListN.{get_elem?}
use lib.Seq.{set-get_or}
use Rattle.atomic_table.specs.Table.{State, Me, step, keeps, takes, gives, stepped, Allows, rest}
use Rattle.atomic_table.proofs.Lists.{set_here, set_again}
use Rattle.history_laws.specs.Histories.{StartsWith}
use Rattle.history_laws.proofs.Prefixes.{starts_itself, starts_through}
use Rattle.history_laws.proofs.Views.{views_stay, entry_read, sum_by-view_set}
use Rattle.ticket_line.specs.Tickets.{tickets_at, behind_first}
use Rattle.ticket_line.proofs.Lines.{none_at, draws as line_draws, takes as line_takes, ends as line_ends}
use Rattle.ticket_line.proofs.Seats.{at_most_one, few_wait as most_wait, served_ticket, served_alone, nobody_still, one_still}
use Rattle.log_turns.specs.declared.SeatView.{SeatView}
use Rattle.log_turns.specs.declared.Role.{Role}
use Rattle.log_turns.specs.declared.Role.TheVariants.{Idle, Opener, Clerk, Gatherer}
use Rattle.log_turns.specs.LogRule.{left_at, kept_at, stage_of, ticket_of, seats_of, times_of, left_of, kept_of, HasTurns, of_clerk, Keeps, Plays, Sits, IsNamed, Kept}
use Rattle.log_turns.specs.LogSteps.{drew, looked, ended_turn, MayGive}
use Rattle.log_turns.proofs.Seats.{GivesSeats, part_le, parts_le, times_in, once_alone, all_others, others_entries}

abbrev value_or : {B : Type 0} → B → List (ℕ × Option B) → B
value_or b [] = b
value_or b ((j, Some x) ∷ carried) = x
value_or b ((j, None) ∷ carried) = b

module _ {B E G : Type 0} (log : B → List E) (base : B → List G) (number : B → ℕ) (clerk : E → ℕ) (each bound : ℕ) where
  abbrev St : Type 0
  St = State (Option B) (SeatView B E G)

  abbrev M : Type 0
  M = Me (Option B) (SeatView B E G)

  abbrev Rule : St → Type 0
  Rule = Kept log base number clerk each bound

  abbrev PlaysAs : ℕ → ℕ → B → SeatView B E G → Role → Type 0
  PlaysAs = Plays log base number clerk each

  -- only seats with a number have tickets
  one_ticket : (n given : ℕ) (value : B) (d : SeatView B E G) (role : Role) → PlaysAs n given value d role → tickets_at d.stage ≤ length (kept_at role d.seen d.kept)
  one_ticket n given value d Idle k = let none = none_at d.stage k in omega (arith, none)
  one_ticket n given value d (Opener g) k = let none = none_at d.stage k.0 in omega (arith, none)
  one_ticket n given value d (Clerk c) k = at_most_one d.stage
  one_ticket n given value d Gatherer k = let some_kept = k.2 in let one = at_most_one d.stage in omega (arith, one, some_kept)

  -- what a seat with a number has
  pub seated : (n given : ℕ) (value : B) (d : SeatView B E G) (role : Role) → HasTurns role → PlaysAs n given value d role → (d.threads ≡ n) × (d.base ≡ base value) × (0 < length (kept_at role d.seen d.kept))
  seated n given value d Idle turns k = absurd turns
  seated n given value d (Opener g) turns k = absurd turns
  seated n given value d (Clerk c) turns k = (k.0, k.1, omega arith)
  seated n given value d Gatherer turns k = k

  left_whole : (role : Role) (left : ℕ) → HasTurns role → left_at role left ≡ left
  left_whole Idle left turns = absurd turns
  left_whole (Opener g) left turns = absurd turns
  left_whole (Clerk c) left turns = refl
  left_whole Gatherer left turns = refl

  -- a seat with a number keeps its part of the rule if all but these stay the same
  plays_on : (n given : ℕ) (value : B) (d w : SeatView B E G) (role : Role) → HasTurns role → w.threads ≡ d.threads → w.base ≡ d.base → w.kept ≡ d.kept → PlaysAs n given value d role → PlaysAs n given value w role
  plays_on n given value d w Idle turns threads_is base_is kept_is k = absurd turns
  plays_on n given value d w (Opener g) turns threads_is base_is kept_is k = absurd turns
  plays_on n given value d w (Clerk c) turns threads_is base_is kept_is k = (threads_is ∙ k.0, base_is ∙ k.1)
  plays_on n given value d w Gatherer turns threads_is base_is kept_is k = (threads_is ∙ k.0, base_is ∙ k.1, subst (λ (z : List (ℕ × List E)). 0 < length z) (sym kept_is) k.2)

  pub at_most_16 : (s : St) (k : Rule s) → length k.line ≤ 16
  at_most_16 s k =
      let most = most_wait stage_of ticket_of s.words s.views k.line k.queue seats_of (λ j d at. one_ticket k.n k.given k.value d d.role (k.each_seat j d at).2) in
      let clerks = k.clerks in let few = k.few in let a = few.0 in let b = few.1 in omega (arith, most, clerks, a, b)

  few_wait : (s : St) (k : Rule s) → length k.line < 18446744073709551616
  few_wait s k = let few = at_most_16 s k in omega (arith, few)

  -- what each seat keeps
  pub seat_keeps : (s : St) (k : Rule s) (j : ℕ) (d : SeatView B E G) → get_elem? s.views j ≡ some d → StartsWith (log k.value) d.seen × All (Keeps log base number clerk k.given k.value) (kept_of d)
  seat_keeps s k j d at = let its = k.each_seat j d at in (its.0, its.3)

  pub draws : (slots id : ℕ) (me : M) → HasTurns me.0.role → me.0.stage ≡ 1 → Allows Rule slots id me 0 (λ x. (x + 1) % 2 ^ 64) (drew (step slots 0 1 0 none) me)
  draws slots id me turns at_one s k deep at fits =
      let e : ℕ = get_or s.words 0 0 in let w : SeatView B E G = record me.0 { stage = 2; ticket = e } in let mine = k.each_seat id me.0 at in
      let clerks = sum_by-view_set seats_of s.views id me.0 w at in let lefts = sum_by-view_set left_of s.views id me.0 w at in let count = k.clerks in let numbers = k.numbers in (
        w,
        keeps,
        tt,
        record {
          line = k.line ++ id ∷ [];
          n = k.n;
          given = k.given;
          value = k.value;
          few = k.few;
          deep = k.deep;
          queue = line_draws stage_of ticket_of s.words s.views k.line k.queue id me.0 w at (omega (arith, at_one)) refl refl (few_wait s k) ((e + 1) % 18446744073709551616) refl;
          home = λ away. k.home (nobody_still stage_of s.views id me.0 w at (λ z. absurd (omega (arith, z, at_one))) away);
          one_opener = one_still GivesSeats s.views id me.0 w at (λ h. h) k.one_opener;
          one_each = λ c. let t = sum_by-view_set (times_of c) s.views id me.0 w at in let one = k.one_each c in omega (arith, t, one);
          clerks = omega (arith, clerks, count);
          named = k.named;
          numbers = omega (arith, lefts, numbers);
          each_seat = views_stay (λ _ d. Sits log base number clerk each k.n k.given k.value d) s.views id w
              (mine.0, (λ z. absurd (omega arith)), plays_on k.n k.given k.value me.0 w me.0.role turns refl refl refl mine.2, mine.3)
              (λ j d _ at_j. k.each_seat j d at_j);
        },
        refl,
      )

  pub looks : (slots id : ℕ) (me : M) → HasTurns me.0.role → me.0.stage ≡ 2 → Allows Rule slots id me 1 (λ x. x) (looked log base number clerk bound (step slots 1 0 0 none) me)
  looks slots id me turns at_two s k deep at fits =
      let e : ℕ = get_or s.words 1 0 in let mine = k.each_seat id me.0 at in let has = seated k.n k.given k.value me.0 me.0.role turns mine.2 in
      let same_words = set-get_or s.words 1 0 in
      dite (ℕ_discrete e me.0.ticket)
      (λ hit. let w : SeatView B E G = record me.0 { stage = 3; took = Some k.value } in
      let served = line_takes stage_of ticket_of s.words s.views k.line k.queue id me.0 w at at_two (sym hit) (few_wait s k) refl refl in
      let clerks = sum_by-view_set seats_of s.views id me.0 w at in let lefts = sum_by-view_set left_of s.views id me.0 w at in let count = k.clerks in let numbers = k.numbers in
      let part = part_le left_of s.views id me.0 at in let left_is : left_of me.0 ≡ me.0.left = left_whole me.0.role me.0.left turns in
      let within : k.given ≤ me.0.threads = (let few = k.few.0 in let is = has.0 in omega (arith, few, is)) in (
        w,
        takes 0 (Some k.value),
        k.home served.1,
        subst (λ (ws : List ℕ). Rule record { words = ws; homes = set s.homes 0 none; views = set s.views id w }) (sym same_words) record {
          line = k.line;
          n = k.n;
          given = k.given;
          value = k.value;
          few = k.few;
          deep = length-set s.homes 0 none ∙ k.deep;
          queue = served.0;
          home = λ away. absurd (away id w (set_here s.views id w (entry_read s.views id me.0 at).0) refl);
          one_opener = one_still GivesSeats s.views id me.0 w at (λ h. h) k.one_opener;
          one_each = λ c. let t = sum_by-view_set (times_of c) s.views id me.0 w at in let one = k.one_each c in omega (arith, t, one);
          clerks = omega (arith, clerks, count);
          named = k.named;
          numbers = omega (arith, lefts, numbers);
          each_seat = views_stay (λ _ d. Sits log base number clerk each k.n k.given k.value d) s.views id w
              (mine.0, (λ z. refl), plays_on k.n k.given k.value me.0 w me.0.role turns refl refl refl mine.2, mine.3)
              (λ j d _ at_j. k.each_seat j d at_j);
        },
        (
          (λ _. (
            k.value,
            refl,
            record {
              begins = mine.0;
              based = sym has.1;
              room = omega (arith, numbers, part, left_is);
              keeps = All-weaker (Keeps log base number clerk k.given k.value) (Keeps log base number clerk me.0.threads k.value) (λ p h. let most = h.1 in (h.0, omega (arith, most, within), h.2, h.3)) (kept_of me.0) mine.3;
              named = All-weaker (IsNamed log base number clerk k.given) (IsNamed log base number clerk me.0.threads) (λ e h. let most = h.1 in (h.0, omega (arith, most, within))) (log k.value) k.named;
            },
          )),
          λ miss. absurd (miss hit),
        ),
      ))
      (λ miss. (
        me.0,
        keeps,
        tt,
        subst Rule (λ i. record { words = sym same_words i; homes = s.homes; views = sym (set_again s.views id me.0 at) i }) k,
        ((λ hit. absurd (miss hit)), λ _. refl),
      ))

  -- if the states before the log are the same
  other_plays : (n given : ℕ) (value v : B) (d : SeatView B E G) (role : Role) → base v ≡ base value → PlaysAs n given value d role → PlaysAs n given v d role
  other_plays n given value v d Idle based k = k
  other_plays n given value v d (Opener g) based k = (k.0, k.1, k.2, k.3 ∙ sym based, k.4)
  other_plays n given value v d (Clerk c) based k = (k.0, k.1 ∙ sym based)
  other_plays n given value v d Gatherer based k = (k.0, k.1 ∙ sym based, k.2)

  -- if entries of one control thread are added, the logs of others are kept
  others_kept : (given : ℕ) (value v : B) (c : ℕ) (added : List E) → log v ≡ log value ++ added → All (λ e. clerk e ≡ c) added → (ps : List (ℕ × List E)) → All (λ p. p.0 ≢ c) ps → All (Keeps log base number clerk given value) ps → All (Keeps log base number clerk given v) ps
  others_kept given value v c added logged own [] apart all = All-nil (Keeps log base number clerk given v)
  others_kept given value v c added logged own (p ∷ ps) apart all =
      let K = Keeps log base number clerk given value in let h = All-head K p ps all in
      All-cons (Keeps log base number clerk given v) p ps (
        h.0,
        h.1,
        starts_through (log v) (log value) p.1 (added, logged) h.2,
        ap (of_clerk log base number clerk p.0) logged ∙ others_entries clerk c p.0 (log value) added (All-head (λ p. p.0 ≢ c) p ps apart) own ∙ h.3,
      )
      (others_kept given value v c added logged own ps (All-tail (λ p. p.0 ≢ c) p ps apart) (All-tail K p ps all))

  pub ends : (slots id : ℕ) (me : M) (c new : ℕ) (v : B) → me.0.role ≡ Clerk c → me.0.stage ≡ 3 → me.1 ≡ (0, Some v) ∷ [] → MayGive log base number clerk c me.0 v → new ≡ (me.0.ticket + 1) % 18446744073709551616
      → Allows Rule slots id me 1 (λ _. new) (λ _. ended_turn log base number clerk (step slots 1 new 0 none) me new)
  ends slots id me c new v is at_three carried may new_of s k deep at fits =
      let turns : HasTurns me.0.role = subst HasTurns (sym is) tt in
      let mine = k.each_seat id me.0 at in
      let own_log : (seen : List E) → kept_at me.0.role seen me.0.kept ≡ (c, seen) ∷ [] = (λ seen. ap (λ (r : Role). kept_at r seen me.0.kept) is) in
      let own : Keeps log base number clerk k.given k.value (c, me.0.seen) = All-head (Keeps log base number clerk k.given k.value) (c, me.0.seen) [] (subst (All (Keeps log base number clerk k.given k.value)) (own_log me.0.seen) mine.3) in
      let took : may.took ≡ k.value = (let both = sym may.was ∙ mine.1 at_three in cc both) in
      let logged : log v ≡ log k.value ++ may.added = may.log_is ∙ ap (λ b. log b ++ may.added) took in let based : base v ≡ base k.value = may.base_is ∙ ap base took in
      let more : StartsWith (log v) (log k.value) = (may.added, logged) in
      let w : SeatView B E G = record me.0 { stage = 1; seen = log v; left = me.0.left - (length (log v) - length (log may.took)) } in
      let ticket = served_ticket stage_of ticket_of s.words s.views k.line k.queue id me.0 at at_three in
      let clerks = sum_by-view_set seats_of s.views id me.0 w at in let one_before = ap length (own_log me.0.seen) in let one_then = ap length (own_log (log v)) in
      let lefts = sum_by-view_set left_of s.views id me.0 w at in let count = k.clerks in let numbers = k.numbers in
      let left_is : left_of me.0 ≡ me.0.left = left_whole me.0.role me.0.left turns in let left_then : left_of w ≡ me.0.left - (length (log v) - length (log may.took)) = left_whole me.0.role (me.0.left - (length (log v) - length (log may.took))) turns in
      let enough = may.enough in let grown = may.number_is in let same_number = ap number took in let sum = ap length may.log_is in let parts = length-append (log may.took) may.added in (
        w,
        gives,
        tt,
        subst (λ (cs : List (ℕ × Option B)). Rule (stepped s 1 new id cs w gives)) (sym carried) record {
          line = behind_first k.line;
          n = k.n;
          given = k.given;
          value = v;
          few = k.few;
          deep = length-set s.homes 0 (some (Some v)) ∙ k.deep;
          queue = line_ends stage_of ticket_of s.words s.views k.line id me.0 w new at k.queue at_three (omega arith) (new_of ∙ ap (λ (n : ℕ). (n + 1) % 18446744073709551616) ticket);
          home = λ _. set_here s.homes 0 (some (Some v)) (let one = k.deep in omega (arith, one));
          one_opener = one_still GivesSeats s.views id me.0 w at (λ h. h) k.one_opener;
          one_each = λ o. let t = sum_by-view_set (times_of o) s.views id me.0 w at in let one = k.one_each o in let before : times_of o me.0 ≡ times_in o ((c, me.0.seen) ∷ []) = ap (times_in o) (own_log me.0.seen) in let then : times_of o w ≡ times_in o ((c, log v) ∷ []) = ap (times_in o) (own_log (log v)) in
              let same : times_in o ((c, me.0.seen) ∷ []) ≡ times_in o ((c, log v) ∷ []) = refl in omega (arith, t, one, before, then, same);
          clerks = omega (arith, clerks, count, one_before, one_then);
          named = subst (All (IsNamed log base number clerk k.given)) (sym logged)
              (All-append (IsNamed log base number clerk k.given) (log k.value) may.added k.named
              (All-weaker (λ e. clerk e ≡ c) (IsNamed log base number clerk k.given) (λ e its. (let low = own.0 in omega (arith, its, low), let high = own.1 in omega (arith, its, high))) may.added may.own));
          numbers = omega (arith, lefts, numbers, left_is, left_then, enough, grown, same_number, sum, parts);
          each_seat = views_stay (λ _ d. Sits log base number clerk each k.n k.given v d) s.views id w (
            starts_itself (log v),
            (λ z. absurd (omega arith)),
            plays_on k.n k.given v me.0 w me.0.role turns refl refl refl (other_plays k.n k.given k.value v me.0 me.0.role based mine.2),
            subst (All (Keeps log base number clerk k.given v)) (sym (own_log (log v)))
                (All-cons (Keeps log base number clerk k.given v) (c, log v) [] (own.0, own.1, starts_itself (log v), refl) (All-nil (Keeps log base number clerk k.given v))),
          )
              (λ j d other at_j. let old = k.each_seat j d at_j in
              let both = parts_le (times_of c) s.views id j me.0 d at at_j (λ z. other (sym z)) in let mine_once : times_of c me.0 ≡ 1 = ap (times_in c) (own_log me.0.seen) ∙ once_alone c me.0.seen in let most = k.one_each c in
              let none : times_of c d ≡ 0 = omega (arith, both, mine_once, most) in (
                starts_through (log v) (log k.value) d.seen more old.0,
                (λ three. absurd (served_alone stage_of ticket_of s.words s.views k.line k.queue id me.0 at at_three j d other at_j three)),
                other_plays k.n k.given k.value v d d.role based old.2,
                others_kept k.given k.value v c may.added logged may.own (kept_of d) (all_others c (kept_of d) none) old.3,
              ));
        },
        λ v' took' has was. let same : v ≡ v' = ap (value_or v) (sym carried ∙ has) in let one : may.took ≡ took' = (let both = sym may.was ∙ was in cc both) in
            (λ i. (record me.0 { stage = 1; seen = log (same i); left = me.0.left - (length (log (same i)) - length (log (one i))) }, rest (carried i))),
      )
