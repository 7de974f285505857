-- Readers that go to workers and come back.
use Rattle.std.proofs.Common.{◌≡◌, ℕ, ◌+◌, ◌<◌, ◌≤◌, List, [], ◌∷◌, ◌++◌, length, length-append, length-set, sym, refl, ap, ◌∙◌, subst, arith, Option, Some, None, slice_get, slice_set}
use mathlib.Core.Logic.{dite}
use native.Mathlib.Decide.{ℕ_discrete}
use Rattle.std.proofs.lemmas.Option.{slice_get_within, same_Some}
use Rattle.std.proofs.lemmas.Grind.{flat_map-append}
use Rattle.std.proofs.lemmas.List.Concat.{flat_map-cons}
use mathlib.Core.List.{append-nil}
use Rattle.atomic_table.specs.Seated.{TableId}
use Rattle.history_laws.specs.Histories.{StartsWith}
use Rattle.set_model.specs.Control.{Generation}
use Rattle.gen_publish.specs.Publish.{ReaderView}
use Rattle.packet_pool.specs.declared.worker.Worker.{Worker}
use Rattle.packet_pool.specs.Work.{AreDealt, AreBack, IsFresh, drawn_by}
use Rattle.packet_pool.proofs.Lists.{each_push, get_set_here, get_set_other}

-- one worker more
pub dealt_more : (readers : List (Option ReaderView)) (batches : ℕ) (table : TableId) (workers : List Worker) (w : Worker) → AreDealt readers batches table workers
    → w.thread ≡ length workers → slice_get readers (length workers) ≡ Some (Some w.reader) → IsFresh batches table w → AreDealt readers batches table (workers ++ w ∷ [])
dealt_more readers batches table workers w h thread reader fresh = record {
  thread_is = each_push (λ i (x : Worker). x.thread ≡ i) workers w h.thread_is thread;
  reader_is = each_push (λ i (x : Worker). slice_get readers i ≡ Some (Some x.reader)) workers w h.reader_is reader;
  fresh = each_push (λ i (x : Worker). IsFresh batches table x) workers w h.fresh fresh;
}

-- one reader more is back
pub back_more : (old new : List (Option ReaderView)) (workers : List Worker) (w : Worker) → AreBack old workers new → w.thread ≡ length workers → length workers < length old → AreBack old (workers ++ w ∷ []) (slice_set new w.thread (Some w.reader))
back_more old new workers w h thread within =
    let size = h.size in let put = slice_set new w.thread (Some w.reader) in record {
      size = length-set new w.thread (Some w.reader) ∙ size;
      back = each_push (λ i (x : Worker). slice_get put i ≡ Some (Some x.reader)) workers w
          (λ i x e. let l = slice_get_within workers i x e in get_set_other new w.thread i (Some w.reader) (λ same. omega (arith, same, thread, l)) ∙ h.back i x e)
          (ap (slice_get put) (sym thread) ∙ get_set_here new w.thread (Some w.reader) (omega (arith, thread, size, within)));
      idle = λ i le. let n = length-append workers (w ∷ []) in get_set_other new w.thread i (Some w.reader) (λ same. omega (arith, same, thread, le, n)) ∙ h.idle i (omega (arith, le, n));
    }

pub back_none : (old : List (Option ReaderView)) → AreBack old [] old
back_none old = record { size = refl; back = λ i w e. absurd (cc); idle = λ i le. refl }

pub drawn-push : (workers : List Worker) (w : Worker) → drawn_by (workers ++ w ∷ []) ≡ drawn_by workers ++ w.place.me.0.drawn
drawn-push workers w =
    flat_map-append (λ (x : Worker). x.place.me.0.drawn) workers (w ∷ []) ∙ ap (λ z. drawn_by workers ++ z) (flat_map-cons (λ (x : Worker). x.place.me.0.drawn) w [] ∙ append-nil w.place.me.0.drawn)

module _ (all : List Generation) (old : List (Option ReaderView)) where
  -- the readers before k have met the control
  abbrev pub MetBefore : ℕ → List (Option ReaderView) → Type 0
  MetBefore k items = (i : ℕ) (d : ReaderView) → i < k → slice_get old i ≡ Some (Some d) → StartsWith all d.seen × (slice_get items i ≡ Some (Some (record d { seen = all })))

  -- and the others are as they were
  abbrev pub SameFrom : ℕ → List (Option ReaderView) → Type 0
  SameFrom k items = (i : ℕ) → k ≤ i → slice_get items i ≡ slice_get old i

  pub met_more : (k : ℕ) (items : List (Option ReaderView)) (d : ReaderView) → k < length items → SameFrom k items → slice_get items k ≡ Some (Some d) → StartsWith all d.seen → MetBefore k items
      → MetBefore (k + 1) (slice_set items k (Some (record d { seen = all }))) × SameFrom (k + 1) (slice_set items k (Some (record d { seen = all })))
  met_more k items d within same at begins met = let new : Option ReaderView = Some (record d { seen = all }) in (
    (λ i e l f. dite (ℕ_discrete i k)
        (λ here. let is : d ≡ e = same_Some d e (same_Some (Some d) (Some e) (sym at ∙ same k (omega arith) ∙ ap (slice_get old) (sym here) ∙ f)) in
        subst (λ (x : ReaderView). StartsWith all x.seen × (slice_get (slice_set items k new) i ≡ Some (Some (record x { seen = all })))) is
        (begins, ap (slice_get (slice_set items k new)) here ∙ get_set_here items k new within))
        (λ other. let m = met i e (omega arith) f in (m.0, get_set_other items k i new other ∙ m.1))),
    λ i le. get_set_other items k i new (λ here. omega arith) ∙ same i (omega arith),
  )

  pub met_none : (k : ℕ) (items : List (Option ReaderView)) → SameFrom k items → slice_get items k ≡ Some None → MetBefore k items → MetBefore (k + 1) items × SameFrom (k + 1) items
  met_none k items same at met = (
    (λ i e l f. dite (ℕ_discrete i k)
        (λ here. absurd (cc (sym at ∙ same k (omega arith) ∙ ap (slice_get old) (sym here) ∙ f)))
        (λ other. met i e (omega arith) f)),
    λ i le. same i (omega arith),
  )
