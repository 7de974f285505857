-- The lines of a thread, as it makes them.
use Rattle.std.proofs.Common.{◌≡◌, ℕ, ◌+◌, ◌-◌, ◌*◌, ◌/◌, ◌<◌, ◌≤◌, ◌==◌, min, cond, List, [], ◌∷◌, ◌++◌, length, ap, subst, ⊎_elim, arith, Some, slice_get}
use Rattle.std.proofs.lemmas.List.Sums.{sum_by_push}
use Rattle.std.proofs.lemmas.Option.{slice_get_within}
use Rattle.std.proofs.lemmas.Bool.Decides.{nat_tests}
use Rattle.history_laws.specs.Histories.{StartsWith}
use Rattle.history_laws.proofs.Prefixes.{begins_all}
use Rattle.set_model.specs.declared.packet.Packet.{Packet}
use Rattle.set_model.specs.declared.report.Line.{Line}
use Rattle.set_model.specs.declared.packet.Verdict.{Verdict}
use Rattle.set_model.specs.Control.{Generation}
use Rattle.packet_pool.specs.Draws.{once_below}
use Rattle.packet_pool.specs.Work.{IsLine, Told, Before, named, batches_of}
use Rattle.packet_pool.proofs.Lists.{get_push, get_begun}

pub named-push : (n : ℕ) (lines : List Line) (l : Line) → named n (lines ++ l ∷ []) ≡ named n lines + cond (l.packet == n) 1 0
named-push n lines l = sum_by_push (λ (x : Line). cond (x.packet == n) 1 0) lines l

pub before_more : (n m : ℕ) (lines : List Line) (l : Line) → Before n lines → n ≤ m → l.packet < m → Before m (lines ++ l ∷ [])
before_more n m lines l b le lt k z e = ⊎_elim
    (λ (t : slice_get lines k ≡ Some z). let a = b k z t in omega arith)
    (λ (t : (k ≡ length lines) × (l ≡ z)). let a = ap (λ (y : Line). y.packet) t.1 in omega (arith, a))
    (get_push lines l z k e)

-- one packet more is named
pub one_more : (first place p n : ℕ) → n ≡ first + place → once_below p place + cond (n == first + p) 1 0 ≡ once_below p (place + 1)
one_more first place p n at = grind (arith, nat_tests)

-- a batch's packets are those from sixteen times its number on
pub one_batch : (p batch end n : ℕ) → p < n → 16 * batch < n → end ≡ 16 * batch + min 16 (n - 16 * batch) → once_below p (16 * batch) + cond (batch == p / 16) 1 0 ≡ once_below p end
one_batch p batch end n l b is = grind (arith, nat_tests)

-- a number past the batches is no packet's
pub no_packet : (p n batch : ℕ) → p < n → batches_of n ≤ batch → ◌≡◌ {A = ℕ} (cond (batch == p / 16) 1 0) 0
no_packet p n batch l past = grind (arith, nat_tests)

module _ (verdict : Generation → Packet → Verdict) (packets : List Packet) (first thread : ℕ) where
  -- more has been seen since
  pub line_later : (low : ℕ) (all seen : List Generation) → StartsWith all seen → (p : ℕ) (l : Line) → IsLine verdict packets first thread low seen p l → IsLine verdict packets first thread low all p l
  line_later low all seen b p l h = record {
    names = h.names;
    thread_is = h.thread_is;
    packet = h.packet;
    packet_is = h.packet_is;
    is_late = h.is_late;
    answer = (h.answer.0, get_begun all seen b l.generation h.answer.0 h.answer.1, h.answer.2);
  }

  -- less had been seen before
  line_lower : (low high : ℕ) (seen : List Generation) → low ≤ high → (p : ℕ) (l : Line) → IsLine verdict packets first thread high seen p l → IsLine verdict packets first thread low seen p l
  line_lower low high seen le p l h = record { names = h.names; thread_is = h.thread_is; packet = h.packet; packet_is = h.packet_is; is_late = let a = h.is_late in omega (arith, le, a); answer = h.answer }

  -- a line on the newest generation, after all others
  pub told_more : (low : ℕ) (all seen : List Generation) → StartsWith all seen → low ≤ length seen → (lines : List Line) (p : ℕ) (l : Line) → IsLine verdict packets first thread (length all) all p l → l.generation + 1 ≡ length all → Before l.packet lines
      → Told verdict packets first thread low seen lines → Told verdict packets first thread low all (lines ++ l ∷ [])
  told_more low all seen b le lines p l new newest before t = let more = begins_all all seen b in record {
    each = λ k z e. ⊎_elim
        (λ (o : slice_get lines k ≡ Some z). let was = t.each k z o in (was.0, line_later low all seen b was.0 z was.1))
        (λ (n : (k ≡ length lines) × (l ≡ z)). (p, subst (IsLine verdict packets first thread low all p) n.1 (line_lower low (length all) all (omega (arith, le, more)) p l new)))
        (get_push lines l z k e);
    rising = λ k m x y lt e f. ⊎_elim
        (λ (o : slice_get lines m ≡ Some y). let in_m = slice_get_within lines m y o in ⊎_elim
        (λ (q : slice_get lines k ≡ Some x). t.rising k m x y lt q o)
        (λ (n : (k ≡ length lines) × (l ≡ x)). let a = n.0 in absurd (omega arith))
        (get_push lines l x k e))
        (λ (n : (m ≡ length lines) × (l ≡ y)). ⊎_elim
        (λ (q : slice_get lines k ≡ Some x).
        let was = (t.each k x q).1 in let there = slice_get_within seen x.generation was.answer.0 was.answer.1 in
        let pk = ap (λ (z : Line). z.packet) n.1 in let ge = ap (λ (z : Line). z.generation) n.1 in let bf = before k x q in
        (omega (arith, pk, bf), omega (arith, ge, there, more, newest)))
        (λ (q : (k ≡ length lines) × (l ≡ x)). let a = q.0 in let c = n.0 in absurd (omega arith))
        (get_push lines l x k e))
        (get_push lines l y m f);
  }
