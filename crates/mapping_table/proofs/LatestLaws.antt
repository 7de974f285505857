-- How changes of ends affect the moments of their words.
use Rattle.std.proofs.Common.{◌≡◌, refl, sym, ◌∙◌, ap, subst, ℕ, zero, suc, ◌+◌, ◌-◌, ◌*◌, ◌/◌, ◌%◌, ◌^◌, ◌<◌, ◌≤◌, ◌⊎◌, inl, inr, false, List, [], ◌∷◌, ◌++◌, length, get_or, take, drop, Option, Some, None, All, arith, length-append, length-drop}
use Rattle.std.specs.Prelude.{max, unwrap_or}
use Rattle.std.proofs.lemmas.Bool.{cases_lt}
use Rattle.std.proofs.lemmas.Bool.Decides.{nat_tests}
use Rattle.std.proofs.lemmas.List.{length-take, get_or_append_left, get_or-append_right, get_or-take, take_all, take_more}
use Rattle.set_model.specs.Expiry.{lives}
use Rattle.set_tables.specs.declared.End.{End}
use Rattle.set_tables.specs.Rows.{lowered_place, end_renewed}
use Rattle.mapping_table.specs.Spared.{word_of, IsMoved}
use Rattle.mapping_table.specs.Latest.{expiry_moment, latest_end, AreBounded, AreRaised, AreFound}
use Rattle.mapping_table.proofs.WordLaws.{word-at}

-- ---- the ends of a word

-- what holds of each end of a word, holds of each of its rules
pub word-each : (P : End → Type 0) (ends : List End) (w k : ℕ) (d : End) → All P (word_of w ends) → k / 64 ≡ w → k < length ends → P (get_or ends k d)
word-each P ends w k d all e h =
    let place : 64 * w + k % 64 ≡ k = omega arith in
    let a = length-take 64 (drop (64 * w) ends) in
    let b = length-drop (64 * w) ends in
    let same : get_or (word_of w ends) (k % 64) d ≡ get_or ends k d = word-at ends w (k % 64) d (omega arith) ∙ ap (λ j. get_or ends j d) place in
    subst P same (all (k % 64) d (omega (arith, a, b)))

word-all : (P : End → Type 0) (ends : List End) (w : ℕ) → ((k : ℕ) (d : End) → k / 64 ≡ w → k < length ends → P (get_or ends k d)) → All P (word_of w ends)
word-all P ends w each = λ j d h.
    let a = length-take 64 (drop (64 * w) ends) in
    let b = length-drop (64 * w) ends in
    let low : j < 64 = omega (arith, a) in
    subst P (sym (word-at ends w j d low)) (each (64 * w + j) d (omega arith) (omega (arith, a, b)))

latest-each : (es : List End) (m : ℕ) → latest_end es ≤ m → All (λ e. expiry_moment e ≤ m) es
latest-each [] m h k d l = absurd (omega arith)
latest-each (e ∷ es) m h zero d l = omega arith
latest-each (e ∷ es) m h (suc k) d l = latest-each es m (omega arith) k d (omega arith)

latest-all : (es : List End) (m : ℕ) → All (λ e. expiry_moment e ≤ m) es → latest_end es ≤ m
latest-all [] m all = omega arith
latest-all (e ∷ es) m all =
    let here : expiry_moment e ≤ m = all 0 e (omega arith) in
    let rest = latest-all es m (λ k d h. all (suc k) d (omega arith)) in
    omega arith

latest-more : (es : List End) (e : End) → latest_end (es ++ e ∷ []) ≡ max (latest_end es) (expiry_moment e)
latest-more [] e = omega arith
latest-more (x ∷ es) e = let h = latest-more es e in omega arith

-- one more end of a word
pub latest-next : (ends : List End) (w i n : ℕ) (d : End) → 64 * w ≤ i → i < 64 * w + 64 → i < length ends → n ≡ i - 64 * w
    → latest_end (take (n + 1) (word_of w ends)) ≡ max (latest_end (take n (word_of w ends))) (expiry_moment (get_or ends i d))
latest-next ends w i n d low high within e =
    let place : 64 * w + n ≡ i = omega arith in
    let a = length-take 64 (drop (64 * w) ends) in
    let b = length-drop (64 * w) ends in
    let here : get_or (word_of w ends) n d ≡ get_or ends i d = word-at ends w n d (omega arith) ∙ ap (λ j. get_or ends j d) place in
    ap latest_end (take_more (word_of w ends) n d (omega (arith, a, b))) ∙ latest-more (take n (word_of w ends)) (get_or (word_of w ends) n d)
    ∙ ap (λ x. max (latest_end (take n (word_of w ends))) (expiry_moment x)) here

-- all ends of a word
pub latest-whole : (ends : List End) (w n : ℕ) → 64 * w ≤ length ends → (64 ≤ n) ⊎ (length ends - 64 * w ≤ n) → latest_end (take n (word_of w ends)) ≡ latest_end (word_of w ends)
latest-whole ends w n h (inl l) = let a = length-take 64 (drop (64 * w) ends) in ap latest_end (take_all n (word_of w ends) (omega (arith, a)))
latest-whole ends w n h (inr l) =
    let a = length-take 64 (drop (64 * w) ends) in
    let b = length-drop (64 * w) ends in
    ap latest_end (take_all n (word_of w ends) (omega (arith, a, b)))

-- ---- moments that are raised

raised-least : (from to m : ℕ) (old new : List ℕ) (w : ℕ) → AreRaised from to m old new → get_or old w 0 ≤ get_or new w 0
raised-least from to m old new w so = go (cases_lt w from) (cases_lt w to) where
  go : (w < from) ⊎ (from ≤ w) → (w < to) ⊎ (to ≤ w) → get_or old w 0 ≤ get_or new w 0
  go (inl a) b = omega (arith, so.before w a)
  go (inr a) (inl b) = omega (arith, so.raised w a b)
  go (inr a) (inr b) = omega (arith, so.behind w b)

-- ---- ends that change

bound-at : (ends : List End) (moments : List ℕ) (k : ℕ) (d : End) → AreBounded ends moments → k < length ends → expiry_moment (get_or ends k d) ≤ get_or moments (k / 64) 0
bound-at ends moments k d so h =
    let m = get_or moments (k / 64) 0 in
    word-each (λ e. expiry_moment e ≤ m) ends (k / 64) k d (latest-each (word_of (k / 64) ends) m (so.latest (k / 64))) refl h

bounded : (ends : List End) (moments : List ℕ) → length moments ≡ (length ends + 63) / 64 → ((k : ℕ) (d : End) → k < length ends → expiry_moment (get_or ends k d) ≤ get_or moments (k / 64) 0) → AreBounded ends moments
bounded ends moments n each = record {
  count = n;
  latest = λ w.
      let m = get_or moments w 0 in
      latest-all (word_of w ends) m (word-all (λ e. expiry_moment e ≤ m) ends w (λ k d e h. subst (λ v. expiry_moment (get_or ends k d) ≤ get_or moments v 0) e (each k d h)));
}

-- one more rule
pub bounded-pushed : (ends : List End) (end : End) (before after : List ℕ) (w m : ℕ) → w ≡ length ends / 64 → m ≡ expiry_moment end → length after ≡ max (length before) (w + 1)
    → AreRaised w (w + 1) m before after → AreBounded ends before → AreBounded (ends ++ end ∷ []) after
bounded-pushed ends end before after w m e f n so was = bounded (ends ++ end ∷ []) after (omega (arith, was.count, length-append ends (end ∷ []))) (λ k d h. go k d h (cases_lt k (length ends))) where
  go : (k : ℕ) (d : End) → k < length (ends ++ end ∷ []) → (k < length ends) ⊎ (length ends ≤ k) → expiry_moment (get_or (ends ++ end ∷ []) k d) ≤ get_or after (k / 64) 0
  go k d h (inl l) =
      let same = ap expiry_moment (get_or_append_left ends (end ∷ []) d k l) in
      omega (arith, same, bound-at ends before k d was l, raised-least w (w + 1) m before after (k / 64) so)
  go k d h (inr l) =
      let last : k - length ends ≡ 0 = omega (arith, length-append ends (end ∷ [])) in
      let same = ap expiry_moment (get_or-append_right ends (end ∷ []) (length ends) k d refl l ∙ ap (λ j. get_or (end ∷ []) j d) last) in
      omega (arith, same, so.raised (k / 64) (omega arith) (omega (arith, last)))

-- other expiries of some rules
pub bounded-renewed : (first n from to m : ℕ) (expiry : Option ℕ) (old new : List End) (before after : List ℕ) → 64 * from ≤ first → first + n ≤ 64 * to → m ≡ unwrap_or expiry (2 ^ 64 - 1)
    → length after ≡ length before → IsMoved (end_renewed expiry) first 0 (first + n) old new → AreRaised from to m before after → AreBounded old before → AreBounded new after
bounded-renewed first n from to m expiry old new before after low high f e moved so was =
    bounded new after (omega (arith, was.count, moved.long)) (λ k d h. go k d (omega (arith, moved.long)) (cases_lt k first) (cases_lt k (first + n))) where
      kept : (k : ℕ) (d : End) → k < length old → get_or new k d ≡ get_or old k d → expiry_moment (get_or new k d) ≤ get_or after (k / 64) 0
      kept k d h same = omega (arith, ap expiry_moment same, bound-at old before k d was h, raised-least from to m before after (k / 64) so)

      go : (k : ℕ) (d : End) → k < length old → (k < first) ⊎ (first ≤ k) → (k < first + n) ⊎ (first + n ≤ k) → expiry_moment (get_or new k d) ≤ get_or after (k / 64) 0
      go k d h (inl a) b = kept k d h (moved.before k d a)
      go k d h (inr a) (inl b) = omega (arith, ap expiry_moment (moved.moved k d a (omega arith)), so.raised (k / 64) (omega arith) (omega arith))
      go k d h (inr a) (inr b) = kept k d h (moved.behind k d (omega arith))

-- some rules are removed, and later rules move to lower places
pub bounded-dropped : (first n to len from : ℕ) (old moved : List End) (before after : List ℕ) → from ≡ first / 64 → first + n ≤ length old → IsMoved lowered_place first n to old moved
    → AreFound (take len moved) from before after → AreBounded old before → AreBounded (take len moved) after
bounded-dropped first n to len from old moved before after e range so found was = record {
  count = found.count;
  latest = λ w. go w (cases_lt w from);
} where
  go : (w : ℕ) → (w < from) ⊎ (from ≤ w) → latest_end (word_of w (take len moved)) ≤ get_or after w 0
  go w (inr l) = omega (arith, found.found w l)
  go w (inl l) =
      let m = get_or after w 0 in
      let same : get_or after w 0 ≡ get_or before w 0 = found.before w l in
      latest-all (word_of w (take len moved)) m
      (word-all (λ e. expiry_moment e ≤ m) (take len moved) w (λ k d q h.
      let cut = length-take len moved in
      let stays = ap expiry_moment (get_or-take len moved k d (omega (arith, cut)) ∙ so.before k d (omega arith)) in
      let bound : expiry_moment (get_or old k d) ≤ get_or before w 0 = subst (λ v. expiry_moment (get_or old k d) ≤ get_or before v 0) q (bound-at old before k d was (omega (arith, cut, so.long))) in
      omega arith))

-- ---- at a moment

expired : (expiry : Option ℕ) (m now : ℕ) → unwrap_or expiry (2 ^ 64 - 1) ≤ m → (m < 2 ^ 64 - 1) × (m ≤ now) → lives expiry now ≡ false
expired None m now h past = absurd (omega arith)
expired (Some x) m now h past = grind (arith, nat_tests)

pub none-live : (ends : List End) (moments : List ℕ) (w m now : ℕ) → m ≡ get_or moments w 0 → (m < 2 ^ 64 - 1) × (m ≤ now) → AreBounded ends moments → All (λ e. lives e.expiry now ≡ false) (word_of w ends)
none-live ends moments w m now e past so = λ k d h. expired (get_or (word_of w ends) k d).expiry m now (latest-each (word_of w ends) m (omega (arith, so.latest w)) k d h) past
