-- Each step of a ticket lock keeps the line.
use Rattle.std.proofs.Common.{◌≡◌, ◌≢◌, ◌⊎◌, ℕ, zero, suc, ◌+◌, ◌%◌, ◌<◌, List, [], ◌∷◌, ◌++◌, length, get_or, set, sym, refl, ap, ◌∙◌, ⊎_elim, arith, length-set, length-append, get_or-set_other, get_or-set_same}
use Rattle.std.proofs.lemmas.List.Sums.{sum_by-append}
use mathlib.Core.Logic.{dite}
use mathlib.Core.Option.{some, some-injective, some-ne-none}
use native.Mathlib.Decide.{ℕ_discrete}
use lib.ListN.{get_elem?}
use Rattle.atomic_table.proofs.Lists.{at_set, set_here, set_else, at_longer, at_last}
use Rattle.history_laws.proofs.Views.{at_end, entry_read, sum_by-view_set}
use Rattle.ticket_line.specs.Tickets.{tickets_at, behind_first, InLine}

pub none_at : (n : ℕ) → n < 2 → tickets_at n ≡ 0
none_at zero l = refl
none_at (suc zero) l = refl
none_at (suc (suc n)) l = absurd (omega arith)

one_at : (n : ℕ) → 1 < n → tickets_at n ≡ 1
one_at zero l = absurd (omega arith)
one_at (suc zero) l = absurd (omega arith)
one_at (suc (suc n)) l = refl

module _ {D : Type 0} (stage ticket : D → ℕ) where
  abbrev weight : D → ℕ
  weight d = tickets_at (stage d)

  one_view : (views : List D) (j : ℕ) (d e : D) → get_elem? views j ≡ some d → get_elem? views j ≡ some e → d ≡ e
  one_view views j d e a b = some-injective d e (sym a ∙ b)

  module _ (words : List ℕ) (views : List D) (line : List ℕ) (k : InLine stage ticket words views line) (id : ℕ) (d w : D) (at : get_elem? views id ≡ some d) where
    there : id < length views
    there = (entry_read views id d at).0

    -- the view of another seat stays, and the seat's own is the new one
    seen_as : (j : ℕ) (e : D) → get_elem? (set views id w) j ≡ some e → ((j ≡ id) × (w ≡ e)) ⊎ ((j ≢ id) × (get_elem? views j ≡ some e))
    seen_as j e h = at_set views id j w e h

    -- A seat without a ticket has another view without one.
    pub rests : stage d < 2 → stage w < 2 → InLine stage ticket words (set views id w) line
    rests low low_then = let c = sum_by-view_set weight views id d w at in let t : weight d ≡ 0 = none_at (stage d) low in let u : weight w ≡ 0 = none_at (stage w) low_then in let count = k.count in record {
      wide = k.wide;
      small = k.small;
      next = k.next;
      count = omega (arith, c, t, u, count);
      each = λ p j h. let old = k.each p j h in dite (ℕ_discrete j id)
          (λ here. let one : old.0 ≡ d = one_view views id old.0 d (sym (ap (get_elem? views) here) ∙ old.1) at in let high = old.2 in let s = ap stage one in absurd (omega (arith, high, s, low)))
          (λ other. (old.0, set_else views id j w other ∙ old.1, old.2, old.3));
      waits = λ j e h l. ⊎_elim
          (λ (t : (j ≡ id) × (w ≡ e)). let s = ap stage t.1 in absurd (omega (arith, l, s, low_then)))
          (λ (t : (j ≢ id) × (get_elem? views j ≡ some e)). k.waits j e t.1 l) (seen_as j e h);
      apart = k.apart;
      first = λ p j e h g three. ⊎_elim
          (λ (t : (j ≡ id) × (w ≡ e)). let s = ap stage t.1 in absurd (omega (arith, three, s, low_then)))
          (λ (t : (j ≢ id) × (get_elem? views j ≡ some e)). k.first p j e h t.1 three) (seen_as j e g);
    }

    -- A seat has another view with the ticket that it had.
    pub stays : stage w ≡ stage d → ticket w ≡ ticket d → InLine stage ticket words (set views id w) line
    stays same_stage same_ticket = let c = sum_by-view_set weight views id d w at in let t = ap tickets_at same_stage in let count = k.count in record {
      wide = k.wide;
      small = k.small;
      next = k.next;
      count = omega (arith, c, t, count);
      each = λ p j h. let old = k.each p j h in let high = old.2 in dite (ℕ_discrete j id)
          (λ here. let one : old.0 ≡ d = one_view views id old.0 d (sym (ap (get_elem? views) here) ∙ old.1) at in let s = ap stage one in
          (w, ap (get_elem? (set views id w)) here ∙ set_here views id w there, omega (arith, high, s, same_stage), same_ticket ∙ ap ticket (sym one) ∙ old.3))
          (λ other. (old.0, set_else views id j w other ∙ old.1, old.2, old.3));
      waits = λ j e h l. ⊎_elim
          (λ (t : (j ≡ id) × (w ≡ e)). let s = ap stage t.1 in let mine = k.waits id d at (omega (arith, l, s, same_stage)) in (mine.0, mine.1 ∙ ap some (sym t.0)))
          (λ (t : (j ≢ id) × (get_elem? views j ≡ some e)). k.waits j e t.1 l) (seen_as j e h);
      apart = k.apart;
      first = λ p j e h g three. ⊎_elim
          (λ (t : (j ≡ id) × (w ≡ e)). let s = ap stage t.1 in k.first p id d (h ∙ ap some t.0) at (omega (arith, three, s, same_stage)))
          (λ (t : (j ≢ id) × (get_elem? views j ≡ some e)). k.first p j e h t.1 three) (seen_as j e g);
    }

    -- A seat without a ticket draws the next one, and goes to the end of the line.
    pub draws : stage d < 2 → stage w ≡ 2 → ticket w ≡ get_or words 0 0 → length line < 18446744073709551616 → (next : ℕ) → next ≡ (get_or words 0 0 + 1) % 18446744073709551616
        → InLine stage ticket (set words 0 next) (set views id w) (line ++ id ∷ [])
    draws low two numbered few next is =
        let c = sum_by-view_set weight views id d w at in let t : weight d ≡ 0 = none_at (stage d) low in let u : weight w ≡ 1 = one_at (stage w) (omega (arith, two)) in let count = k.count in
        let wide = k.wide in let stays = get_or-set_other words 0 1 next 0 (λ z. omega arith) in let now = get_or-set_same words 0 next 0 (omega (arith, wide)) in let more = length-append line (id ∷ []) in let small = k.small in let was = k.next in
        let not_in : (p : ℕ) → get_elem? line p ≢ some id = (λ p h. let old = k.each p id h in let high = old.2 in let s = ap stage (one_view views id old.0 d old.1 at) in omega (arith, high, s, low)) in record {
          wide = length-set words 0 next ∙ k.wide;
          small = omega (arith, stays, small);
          next = omega (arith, stays, now, is, was, more, small);
          count = omega (arith, c, t, u, count, more);
          each = λ p j h. ⊎_elim
              (λ (was_in : (p < length line) × (get_elem? line p ≡ some j)). let old = k.each p j was_in.1 in let other : j ≢ id = (λ z. not_in p (was_in.1 ∙ ap some z)) in
              (old.0, set_else views id j w other ∙ old.1, old.2, old.3 ∙ ap (λ (n : ℕ). (n + p) % 18446744073709551616) (sym stays)))
              (λ (last : (p ≡ length line) × (id ≡ j)). let at_end_p = last.0 in
              (w, ap (get_elem? (set views id w)) (sym last.1) ∙ set_here views id w there, omega (arith, two), numbered ∙ omega (arith, was, at_end_p, stays)))
              (at_end line id j p h);
          waits = λ j e h l. ⊎_elim
              (λ (t : (j ≡ id) × (w ≡ e)). (length line, at_last line id (length line) refl ∙ ap some (sym t.0)))
              (λ (t : (j ≢ id) × (get_elem? views j ≡ some e)). let got = k.waits j e t.1 l in (got.0, at_longer line (id ∷ []) got.0 j got.1))
              (seen_as j e h);
          apart = λ p q j h g. ⊎_elim
              (λ (a : (p < length line) × (get_elem? line p ≡ some j)). ⊎_elim
              (λ (b : (q < length line) × (get_elem? line q ≡ some j)). k.apart p q j a.1 b.1)
              (λ (b : (q ≡ length line) × (id ≡ j)). absurd (not_in p (a.1 ∙ ap some (sym b.1)))) (at_end line id j q g))
              (λ (a : (p ≡ length line) × (id ≡ j)). ⊎_elim
              (λ (b : (q < length line) × (get_elem? line q ≡ some j)). absurd (not_in q (b.1 ∙ ap some (sym a.1))))
              (λ (b : (q ≡ length line) × (id ≡ j)). a.0 ∙ sym b.0) (at_end line id j q g))
              (at_end line id j p h);
          first = λ p j e h g three. ⊎_elim
              (λ (t : (j ≡ id) × (w ≡ e)). let s = ap stage t.1 in absurd (omega (arith, s, two, three)))
              (λ (t : (j ≢ id) × (get_elem? views j ≡ some e)). ⊎_elim
              (λ (a : (p < length line) × (get_elem? line p ≡ some j)). k.first p j e a.1 t.1 three)
              (λ (a : (p ≡ length line) × (id ≡ j)). absurd (t.0 (sym a.1))) (at_end line id j p h))
              (seen_as j e g);
        }

    -- The first of the line is served, and nobody else is.
    pub takes : stage d ≡ 2 → ticket d ≡ get_or words 1 0 → length line < 18446744073709551616 → stage w ≡ 3 → ticket w ≡ ticket d
        → InLine stage ticket words (set views id w) line × ((j : ℕ) (e : D) → get_elem? views j ≡ some e → stage e ≢ 3)
    takes two hit few three same_ticket =
        let c = sum_by-view_set weight views id d w at in let t : weight d ≡ 1 = one_at (stage d) (omega (arith, two)) in let u : weight w ≡ 1 = one_at (stage w) (omega (arith, three)) in let count = k.count in
        let mine = k.waits id d at (omega (arith, two)) in let old = k.each mine.0 id mine.1 in let number = old.3 ∙ refl in let one : old.0 ≡ d = one_view views id old.0 d old.1 at in let same_number = ap ticket one in
        let below = (entry_read line mine.0 id mine.1).0 in let small = k.small in
        let here : mine.0 ≡ 0 = omega (arith, number, same_number, hit, below, few, small) in
        let nobody : (j : ℕ) (e : D) → get_elem? views j ≡ some e → stage e ≢ 3 = (λ j e h served.
        let its = k.waits j e h (omega (arith, served)) in let at_first = k.first its.0 j e its.1 h served in
        let same : j ≡ id = some-injective j id (sym its.1 ∙ ap (get_elem? line) (at_first ∙ sym here) ∙ mine.1) in
        let s = ap stage (one_view views id e d (sym (ap (get_elem? views) same) ∙ h) at) in omega (arith, s, two, served)) in (
          record {
            wide = k.wide;
            small = k.small;
            next = k.next;
            count = omega (arith, c, t, u, count);
            each = λ p j h. let was = k.each p j h in dite (ℕ_discrete j id)
                (λ here_j. let same_view : was.0 ≡ d = one_view views id was.0 d (sym (ap (get_elem? views) here_j) ∙ was.1) at in
                (w, ap (get_elem? (set views id w)) here_j ∙ set_here views id w there, omega (arith, three), same_ticket ∙ ap ticket (sym same_view) ∙ was.3))
                (λ other. (was.0, set_else views id j w other ∙ was.1, was.2, was.3));
            waits = λ j e h l. ⊎_elim
                (λ (a : (j ≡ id) × (w ≡ e)). (mine.0, mine.1 ∙ ap some (sym a.0)))
                (λ (a : (j ≢ id) × (get_elem? views j ≡ some e)). k.waits j e a.1 l) (seen_as j e h);
            apart = k.apart;
            first = λ p j e h g served. ⊎_elim
                (λ (a : (j ≡ id) × (w ≡ e)). k.apart p mine.0 id (h ∙ ap some a.0) mine.1 ∙ here)
                (λ (a : (j ≢ id) × (get_elem? views j ≡ some e)). absurd (nobody j e a.1 served)) (seen_as j e g);
          },
          nobody,
        )

  -- The served seat is done, and the next ticket is served.
  pub ends : (words : List ℕ) (views : List D) (line : List ℕ) (id : ℕ) (d w : D) (next : ℕ) → get_elem? views id ≡ some d → InLine stage ticket words views line → stage d ≡ 3 → stage w < 2 → next ≡ (get_or words 1 0 + 1) % 18446744073709551616
      → InLine stage ticket (set words 1 next) (set views id w) (behind_first line)
  ends words views [] id d w next at k three low is = absurd (some-ne-none id (sym (k.waits id d at (omega (arith, three))).1))
  ends words views (x ∷ line) id d w next at k three low is =
      let mine = k.waits id d at (omega (arith, three)) in let at_first : mine.0 ≡ 0 = k.first mine.0 id d mine.1 at three in
      let x_is : x ≡ id = some-injective x id (ap (get_elem? (x ∷ line)) (sym at_first) ∙ mine.1) in
      let c = sum_by-view_set weight views id d w at in let t : weight d ≡ 1 = one_at (stage d) (omega (arith, three)) in let u : weight w ≡ 0 = none_at (stage w) low in let count = k.count in
      let wide = k.wide in let still = get_or-set_other words 1 0 next 0 (λ z. omega arith) in let now = get_or-set_same words 1 next 0 (omega (arith, wide)) in let small = k.small in let was = k.next in
      let gone : (p : ℕ) → get_elem? line p ≢ some id = (λ p h. let z = k.apart (suc p) 0 id h (ap some x_is) in absurd (omega (arith, z))) in record {
        wide = length-set words 1 next ∙ k.wide;
        small = omega (arith, now, is);
        next = omega (arith, still, now, is, was, small);
        count = omega (arith, c, t, u, count);
        each = λ p j h. let old = k.each (suc p) j h in let other : j ≢ id = (λ z. gone p (h ∙ ap some z)) in let number = old.3 in
            (old.0, set_else views id j w other ∙ old.1, old.2, omega (arith, number, now, is, small));
        waits = λ j e h l. ⊎_elim
            (λ (a : (j ≡ id) × (w ≡ e)). let s = ap stage a.1 in absurd (omega (arith, s, l, low)))
            (λ (a : (j ≢ id) × (get_elem? views j ≡ some e)). let got = k.waits j e a.1 l in behind got.0 j got.1 (λ z. a.0 (sym z ∙ x_is)))
            (at_set views id j w e h);
        apart = λ p q j h g. let z = k.apart (suc p) (suc q) j h g in omega (arith, z);
        first = λ p j e h g served. ⊎_elim
            (λ (a : (j ≡ id) × (w ≡ e)). let s = ap stage a.1 in absurd (omega (arith, s, served, low)))
            (λ (a : (j ≢ id) × (get_elem? views j ≡ some e)). let z = k.first (suc p) j e h a.1 served in absurd (omega (arith, z)))
            (at_set views id j w e g);
      }
    where
      behind : (p j : ℕ) → get_elem? (x ∷ line) p ≡ some j → x ≢ j → (q : ℕ) × (get_elem? line q ≡ some j)
      behind zero j h other = absurd (other (some-injective x j h))
      behind (suc p) j h other = (p, h)

  -- One more seat, without a ticket.
  pub joins_none : (words : List ℕ) (views : List D) (line : List ℕ) (w : D) → InLine stage ticket words views line → stage w < 2 → InLine stage ticket words (views ++ w ∷ []) line
  joins_none words views line w k low = let u : weight w ≡ 0 = none_at (stage w) low in let more = sum_by-append weight views (w ∷ []) in let count = k.count in record {
    wide = k.wide;
    small = k.small;
    next = k.next;
    count = omega (arith, u, more, count);
    each = λ p j h. let old = k.each p j h in (old.0, at_longer views (w ∷ []) j old.0 old.1, old.2, old.3);
    waits = λ j e h l. ⊎_elim
        (λ (a : (j < length views) × (get_elem? views j ≡ some e)). k.waits j e a.1 l)
        (λ (a : (j ≡ length views) × (w ≡ e)). let s = ap stage a.1 in absurd (omega (arith, s, l, low)))
        (at_end views w e j h);
    apart = k.apart;
    first = λ p j e h g served. ⊎_elim
        (λ (a : (j < length views) × (get_elem? views j ≡ some e)). k.first p j e h a.1 served)
        (λ (a : (j ≡ length views) × (w ≡ e)). let s = ap stage a.1 in absurd (omega (arith, s, served, low)))
        (at_end views w e j g);
  }

  -- Nobody has a ticket at the start.
  pub opens : (w : D) → stage w < 2 → InLine stage ticket (0 ∷ 0 ∷ []) (w ∷ []) []
  opens w low = let u : weight w ≡ 0 = none_at (stage w) low in record {
    wide = refl;
    small = omega arith;
    next = refl;
    count = omega (arith, u);
    each = λ p j h. absurd (some-ne-none j (sym h));
    waits = λ j e h l. waits_none j e h l;
    apart = λ p q j h g. absurd (some-ne-none j (sym h));
    first = λ p j e h g served. absurd (some-ne-none j (sym h));
  }
    where
      waits_none : (j : ℕ) (e : D) → get_elem? (w ∷ []) j ≡ some e → 1 < stage e → (p : ℕ) × (get_elem? [] p ≡ some j)
      waits_none zero e h l = let s = ap stage (some-injective w e h) in absurd (omega (arith, s, l, low))
      waits_none (suc j) e h l = absurd (some-ne-none e (sym h))
