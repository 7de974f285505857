-- A text that is appended step by step: what is written so far, and what is left of it.
use Rattle.std.proofs.Common.{◌≡◌, refl, sym, ◌∙◌, ap, subst, ℕ, suc, ◌+◌, ◌-◌, ◌<◌, ◌≤◌, List, [], ◌++◌, flat_map, append_assoc, append-nil, arith}
use Rattle.std.specs.List.{range_with_len}
use Rattle.text_pieces.specs.Appends.{AppendsPart}

-- All of a text but what is left was appended.
pub record Leaves (old new text left : List ℕ) : Type 0 where
  pub part : List ℕ
  pub appended : new ≡ old ++ part
  pub front : text ≡ part ++ left

pub begun : (old text : List ℕ) → Leaves old old text text
begun old text = record { part = []; appended = sym (append-nil old); front = refl }

pub further : (old mid new text here left : List ℕ) → Leaves old mid text (here ++ left) → new ≡ mid ++ here → Leaves old new text left
further old mid new text here left w e = record {
  part = w.part ++ here;
  appended = e ∙ ap (λ m. m ++ here) w.appended ∙ append_assoc old w.part here;
  front = w.front ∙ sym (append_assoc w.part here left);
}

pub ended : (old new text : List ℕ) → Leaves old new text [] → new ≡ old ++ text
ended old new text w = w.appended ∙ ap (λ t. old ++ t) (sym (w.front ∙ append-nil w.part))

pub broken : (old mid new text here left : List ℕ) → Leaves old mid text (here ++ left) → AppendsPart mid new here → AppendsPart old new text
broken old mid new text here left w p = record {
  part = w.part ++ p.part;
  rest = p.rest ++ left;
  appended = p.appended ∙ ap (λ m. m ++ p.part) w.appended ∙ append_assoc old w.part p.part;
  front =
      w.front
      ∙ ap (λ t. w.part ++ (t ++ left)) p.front
      ∙ ap (λ t. w.part ++ t) (append_assoc p.part p.rest left)
      ∙ sym (append_assoc w.part p.part (p.rest ++ left));
}

-- what is left from number i on
pub range-more : (f : ℕ → List ℕ) (i n : ℕ) → i < n → flat_map f (range_with_len i (n - i)) ≡ f i ++ flat_map f (range_with_len (i + 1) (n - (i + 1)))
range-more f i n h = let e : n - i ≡ suc (n - (i + 1)) = omega arith in ap (λ k. flat_map f (range_with_len i k)) e

-- A text of numbers below n, after the numbers before i were written.
abbrev pub LeavesFrom : (f : ℕ → List ℕ) (i n : ℕ) (old new text : List ℕ) → Type 0
LeavesFrom f i n old new text = Leaves old new text (flat_map f (range_with_len i (n - i)))

pub from-more : (f : ℕ → List ℕ) (i n : ℕ) (old mid new text : List ℕ) → i < n → LeavesFrom f i n old mid text → new ≡ mid ++ f i → LeavesFrom f (i + 1) n old new text
from-more f i n old mid new text h w e = further old mid new text (f i) _ (subst (λ t. Leaves old mid text t) (range-more f i n h) w) e

pub from-broken : (f : ℕ → List ℕ) (i n : ℕ) (old mid new text : List ℕ) → i < n → LeavesFrom f i n old mid text → AppendsPart mid new (f i) → AppendsPart old new text
from-broken f i n old mid new text h w p = broken old mid new text (f i) _ (subst (λ t. Leaves old mid text t) (range-more f i n h) w) p

pub from-ended : (f : ℕ → List ℕ) (i n : ℕ) (old new text : List ℕ) → n ≤ i → LeavesFrom f i n old new text → new ≡ old ++ text
from-ended f i n old new text h w = let e : n - i ≡ 0 = omega arith in ended old new text (subst (λ k. Leaves old new text (flat_map f (range_with_len i k))) e w)
