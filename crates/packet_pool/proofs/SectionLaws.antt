-- The lines of a section, from those of its threads.
use Rattle.std.proofs.Common.{◌≡◌, ℕ, zero, suc, ◌+◌, ◌/◌, ◌<◌, ◌≤◌, ◌==◌, List, [], ◌∷◌, length, sym, refl, ap, ◌∙◌, subst, arith, Some, slice_get, map}
use mathlib.Core.Logic.{dite}
use native.Mathlib.Decide.{dec_lt}
use lib.ListN.{length-map}
use Rattle.std.proofs.lemmas.List.{get_or_past}
use Rattle.std.proofs.lemmas.List.Concat.{flat_map-cons}
use Rattle.std.proofs.lemmas.Option.{slice_get_within, same_Some}
use Rattle.std.proofs.lemmas.Bool.Decides.{nat_tests}
use Rattle.history_laws.specs.Histories.{StartsWith}
use Rattle.set_model.specs.declared.packet.Packet.{Packet}
use Rattle.set_model.specs.declared.report.Line.{Line}
use Rattle.set_model.specs.declared.packet.Verdict.{Verdict}
use Rattle.set_model.specs.Control.{Generation}
use Rattle.packet_pool.specs.declared.worker.Worker.{Worker}
use Rattle.packet_pool.specs.Draws.{times, once_below}
use Rattle.packet_pool.specs.Section.{IsSection}
use Rattle.packet_pool.specs.Work.{IsLine, HasWorked, AllWorked, AreAnswers, IsFiled, lines_of, drawn_by}
use Rattle.packet_pool.proofs.Drawing.{times-append, below}
use Rattle.packet_pool.proofs.Lists.{get_at, count_there, count_some, get_list, list_get}
use Rattle.packet_pool.proofs.Telling.{line_later}

-- a list with a line is one of the lists
list_within : (lists : List (List Line)) (i k : ℕ) (l : Line) → slice_get (lines_of lists i) k ≡ Some l → i < length lists
list_within lists i k l at = dite (dec_lt i (length lists)) (λ lt. lt)
    (λ past. let empty = ap (λ (z : List Line). length z) (get_or_past lists i [] (omega arith)) in let lt = slice_get_within (lines_of lists i) k l at in absurd (omega (arith, empty, lt)))

-- the threads' lines in the order of the packets are those of the section
pub filed_section : (verdict : Generation → Packet → Verdict) (packets : List Packet) (first threads low : ℕ) (after : List Generation) (lists : List (List Line)) (lines : List Line)
    → AreAnswers verdict packets first threads low after lists → IsFiled first (length packets) lists lines → IsSection verdict packets first threads low after lines
filed_section verdict packets first threads low after lists lines answers filed = record {
  one_each = filed.size;
  each = λ p packet l at e.
      let from = filed.from p l e in let line = answers.each from.0 from.1 l from.2 in let here = line.1 in
      let place : line.0 ≡ p = (let a = here.names in let b = filed.names p l e in omega (arith, a, b)) in
      let same : here.packet ≡ packet = same_Some here.packet packet (sym here.packet_is ∙ (ap (slice_get packets) place ∙ at)) in record {
        names = filed.names p l e;
        thread = let a = here.thread_is in let b = list_within lists from.0 from.1 l from.2 in let c = answers.few in omega (arith, a, b, c);
        not_too_old = here.is_late;
        not_too_new = slice_get_within after l.generation here.answer.0 here.answer.1;
        answer = (here.answer.0, here.answer.1, here.answer.2 ∙ ap (verdict here.answer.0) same);
      };
  one_batch = λ p q a b e f same.
      let x = filed.from p a e in let y = filed.from q b f in let one = answers.split.together x.0 y.0 x.1 y.1 a b p q x.2 y.2 (filed.names p a e) (filed.names q b f) same in
      answers.split.thread_is x.0 x.1 a x.2 ∙ one ∙ sym (answers.split.thread_is y.0 y.1 b y.2);
  never_falls = λ p q a b lt e f same.
      let x = filed.from p a e in let y = filed.from q b f in
      let one : x.0 ≡ y.0 = sym (answers.split.thread_is x.0 x.1 a x.2) ∙ same ∙ answers.split.thread_is y.0 y.1 b y.2 in
      let there : slice_get (lines_of lists x.0) y.1 ≡ Some b = ap (λ i. slice_get (lines_of lists i) y.1) one ∙ y.2 in
      let na = filed.names p a e in let nb = filed.names q b f in
      dite (dec_lt x.1 y.1) (λ up. answers.never_falls x.0 x.1 y.1 a b up x.2 there)
      (λ not_up. dite (dec_lt y.1 x.1) (λ down. let r = answers.split.rising x.0 y.1 x.1 b a down there x.2 in absurd (omega (arith, r, na, nb, lt)))
      (λ level. let at_one : x.1 ≡ y.1 = omega arith in let is : a ≡ b = same_Some a b (sym x.2 ∙ (ap (slice_get (lines_of lists x.0)) at_one ∙ there)) in
      let n = ap (λ (l : Line). l.packet) is in absurd (omega (arith, n, na, nb, lt))));
}

-- Who drew a number, among all workers.
drawn-cons : (x : ℕ) (w : Worker) (ws : List Worker) → times x (drawn_by (w ∷ ws)) ≡ times x w.place.me.0.drawn + times x (drawn_by ws)
drawn-cons x w ws = ap (times x) (flat_map-cons (λ (v : Worker). v.place.me.0.drawn) w ws) ∙ times-append x w.place.me.0.drawn (drawn_by ws)

drawn_at : (x : ℕ) (ws : List Worker) (i : ℕ) (w : Worker) → slice_get ws i ≡ Some w → times x w.place.me.0.drawn ≤ times x (drawn_by ws)
drawn_at x [] i w e = absurd (cc)
drawn_at x (v ∷ vs) zero w e = let same = ap (λ (z : Worker). times x z.place.me.0.drawn) (same_Some v w e) in omega (arith, drawn-cons x v vs, same)
drawn_at x (v ∷ vs) (suc i) w e = let rest = drawn_at x vs i w e in omega (arith, drawn-cons x v vs, rest)

drawn_two : (x : ℕ) (ws : List Worker) (i j : ℕ) (v w : Worker) → i < j → slice_get ws i ≡ Some v → slice_get ws j ≡ Some w → times x v.place.me.0.drawn + times x w.place.me.0.drawn ≤ times x (drawn_by ws)
drawn_two x [] i j v w l e f = absurd (cc)
drawn_two x (u ∷ us) i zero v w l e f = absurd (omega arith)
drawn_two x (u ∷ us) zero (suc j) v w l e f = let same = ap (λ (z : Worker). times x z.place.me.0.drawn) (same_Some u v e) in let rest = drawn_at x us j w f in omega (arith, drawn-cons x u us, same, rest)
drawn_two x (u ∷ us) (suc i) (suc j) v w l e f = let rest = drawn_two x us i j v w (omega arith) e f in omega (arith, drawn-cons x u us, rest)

drawn_some : (x : ℕ) (ws : List Worker) → 0 < times x (drawn_by ws) → (i : ℕ) × (w : Worker) × (slice_get ws i ≡ Some w) × (0 < times x w.place.me.0.drawn)
drawn_some x [] h = absurd (omega arith)
drawn_some x (v ∷ vs) h = dite (dec_lt 0 (times x v.place.me.0.drawn)) (λ l. (0, v, refl, l))
    (λ nought. let r = drawn_some x vs (omega (arith, drawn-cons x v vs, h, nought)) in (suc r.0, r.1, r.2, r.3))

once_most : (x n : ℕ) → once_below x n ≤ 1
once_most x n = grind (arith, nat_tests)

-- Workers that have done their parts, and have drawn each number below a word once.
module _ (verdict : Generation → Packet → Verdict) (packets : List Packet) (first low : ℕ) (after : List Generation) (old new : List Worker) (worked : AllWorked verdict packets first old new)
    (dealt : (i : ℕ) (v : Worker) → slice_get old i ≡ Some v → (v.thread ≡ i) × (length v.reader.seen ≡ low)) (begun : (i : ℕ) (w : Worker) → slice_get new i ≡ Some w → StartsWith after w.reader.seen)
    (word : ℕ) (once : (x : ℕ) → times x (drawn_by new) ≡ once_below x word) where
  abbrev lists : List (List Line)
  lists = map (λ w. w.lines.items) new

  -- what a worker has done, and where it began
  abbrev Fact : ℕ → Worker → Type 0
  Fact i w = (v : Worker) × (v.thread ≡ i) × (length v.reader.seen ≡ low) × HasWorked verdict packets first v w

  fact : (i : ℕ) (w : Worker) → slice_get new i ≡ Some w → Fact i w
  fact i w e =
      let l = slice_get_within new i w e in let size = worked.size in let v = get_at old i (omega arith) in let d = dealt i v.0 v.1 in (v.0, d.0, d.1, worked.each i v.0 w v.1 e)

  one_drawer : (b i j : ℕ) (v w : Worker) → slice_get new i ≡ Some v → slice_get new j ≡ Some w → 0 < times b v.place.me.0.drawn → 0 < times b w.place.me.0.drawn → i ≡ j
  one_drawer b i j v w e f x y = let o = once b in let most = once_most b word in
      dite (dec_lt i j) (λ l. let t = drawn_two b new i j v w l e f in absurd (omega (arith, o, most, t, x, y)))
      (λ up. dite (dec_lt j i) (λ l. let t = drawn_two b new j i w v l f e in absurd (omega (arith, o, most, t, x, y))) (λ down. omega arith))

  -- a line of a thread
  line_at : (i k : ℕ) (l : Line) → slice_get (lines_of lists i) k ≡ Some l → (w : Worker) × (slice_get new i ≡ Some w) × (slice_get w.lines.items k ≡ Some l) × Fact i w
  line_at i k l e = let w = get_list (λ (x : Worker). x.lines.items) new i k l e in (w.0, w.1, w.2, fact i w.0 w.1)

  told_at : (i k : ℕ) (l : Line) → slice_get (lines_of lists i) k ≡ Some l → (p : ℕ) × IsLine verdict packets first i low after p l
  told_at i k l e =
      let at = line_at i k l e in let f = at.3 in let t = f.3.told.each k l at.2 in
      (t.0, subst (λ (z : ℕ × ℕ). IsLine verdict packets first z.0 z.1 after t.0 l) (λ q. ((f.3.thread_is ∙ f.1) q, f.2 q)) (line_later verdict packets first at.0.thread (length f.0.reader.seen) after at.0.reader.seen (begun i at.0 at.1) t.0 l t.1))

  -- the batch of a line was drawn by its thread
  batch_at : (i k p : ℕ) (l : Line) → slice_get (lines_of lists i) k ≡ Some l → l.packet ≡ first + p → (w : Worker) × (slice_get new i ≡ Some w) × (0 < times (p / 16) w.place.me.0.drawn)
  batch_at i k p l e names =
      let at = line_at i k l e in let t = (told_at i k l e).1 in let n = t.names in let q = (told_at i k l e).0 in let lt = slice_get_within packets q t.packet t.packet_is in
      let there = count_there (λ (x : Line). x.packet == (first + p)) at.0.lines.items k l at.2 (grind (arith, nat_tests)) in let drawn = at.3.3.drawn p (omega (arith, n, names, lt)) in
      (at.0, at.1, omega (arith, there, drawn))

  -- each packet has a line
  whole : (p : ℕ) → p < length packets → (0 < length new) → (i : ℕ) × (k : ℕ) × (l : Line) × (slice_get (lines_of lists i) k ≡ Some l) × (l.packet ≡ first + p)
  whole p lt some_worker =
      let v = get_at new 0 some_worker in let last = (fact 0 v.0 v.1).3.last in let most = drawn_at last.0 new 0 v.0 v.1 in
      let beyond = below last.0 word (let o = once last.0 in let t = last.2 in omega (arith, most, o, t)) in let in_word : p / 16 < word = (let b = last.1 in omega (arith, b, beyond, lt)) in
      let one : once_below (p / 16) word ≡ 1 = grind (arith, nat_tests) in let there = drawn_some (p / 16) new (let o = once (p / 16) in omega (arith, o, one)) in let w = there.1 in
      let drawn = (fact there.0 w there.2).3.drawn p lt in let t = there.3 in let l = count_some (λ (x : Line). x.packet == (first + p)) w.lines.items (omega (arith, drawn, t)) in
      (there.0, l.0, l.1, ap (λ (z : List Line). slice_get z l.0) (list_get (λ (x : Worker). x.lines.items) new there.0 w there.2) ∙ l.2, (let is = l.3 in grind (arith, nat_tests)))

  -- two lines of a thread
  two_lines : (i k m : ℕ) (a b : Line) → k < m → slice_get (lines_of lists i) k ≡ Some a → slice_get (lines_of lists i) m ≡ Some b → (a.packet < b.packet) × (a.generation ≤ b.generation)
  two_lines i k m a b lt e f =
      let x = line_at i k a e in let y = line_at i m b f in let same : y.0 ≡ x.0 = same_Some y.0 x.0 (sym y.1 ∙ x.1) in
      x.3.3.told.rising k m a b lt x.2 (subst (λ (w : Worker). slice_get w.lines.items m ≡ Some b) same y.2)

  pub answers : (threads : ℕ) → length new ≤ threads → (0 < length packets → 0 < length new) → AreAnswers verdict packets first threads low after lists
  answers threads few some_worker = record {
    few = omega (arith, few, length-map new (λ (w : Worker). w.lines.items));
    split = record {
      thread_is = λ i k l e. (told_at i k l e).1.thread_is;
      within = λ i k l e. let t = told_at i k l e in (t.0, slice_get_within packets t.0 t.1.packet t.1.packet_is, t.1.names);
      rising = λ i k m a b lt e f. (two_lines i k m a b lt e f).0;
      whole = λ p lt. whole p lt (some_worker (omega (arith, lt)));
      together = λ i j k m a b p q e f na nb same. let x = batch_at i k p a e na in let y = batch_at j m q b f nb in one_drawer (p / 16) i j x.0 y.0 x.1 y.1 x.2 (subst (λ z. 0 < times z y.0.place.me.0.drawn) (sym same) y.2);
    };
    each = told_at;
    never_falls = λ i k m a b lt e f. (two_lines i k m a b lt e f).1;
  }
