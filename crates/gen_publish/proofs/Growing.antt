-- Generations that grow from one commit to the next, and readers that have seen some of them.
use Rattle.std.proofs.Common.{◌≡◌, ℕ, zero, suc, ◌+◌, ◌<◌, List, [], ◌∷◌, ◌++◌, map, length, length-append, All, Option, sym, refl, ap, ◌∙◌, subst, arith}
use lib.ListN.{length-map}
use Rattle.atomic_table.specs.Seated.{TableId}
use Rattle.history_laws.specs.Histories.{StartsWith, EndsWith, Linked, Chain}
use Rattle.history_laws.specs.States.{AllShow}
use Rattle.history_laws.proofs.Prefixes.{one_last, begins_all}
use Rattle.history_laws.proofs.States.{all_show_same}
use Rattle.gen_slots.specs.SlotViews as slots
use Rattle.gen_slots.specs.SlotViews.{AllNew}
use Rattle.set_model.specs.declared.script.SetDecl.{SetDecl}
use Rattle.set_model.specs.SetState.{State, purged}
use Rattle.set_model.specs.Control.{Generation, first_generation}
use Rattle.set_space.specs.Open.{Open, opened, sealed}
use Rattle.gen_publish.specs.Publish.{Follows, Grown, IsSteered, IsSeen, ReaderView, AllFresh, kinds_of, declared_kinds, reader_view}

grown_from : (schema : List SetDecl) (k : ℕ) (g : Generation) (gs : List Generation) → g.number ≡ k → kinds_of g.sets ≡ declared_kinds schema → Linked Follows g gs → Grown schema k (g ∷ gs)
grown_from schema k g [] n s h = (n, s, tt)
grown_from schema k g (x ∷ xs) n s h = (n, s, grown_from schema (k + 1) x xs (h.0.0 ∙ ap (λ (z : ℕ). z + 1) n) (h.0.1 ∙ s) h.1)

-- A chain of generations that begins with seen ones is numbered on, with the same sets.
pub seen_on : (schema : List SetDecl) (all seen : List Generation) → StartsWith all seen → Chain Follows all → IsSeen schema seen → IsSeen schema all
seen_on schema all [] b c h = let some = h.some in absurd (omega (arith, some))
seen_on schema all (g ∷ gs) b c h =
    let n = begins_all all (g ∷ gs) b in let some = h.some in record {
      some = omega (arith, n, some);
      grown = subst (Grown schema 0) (sym b.1) (grown_from schema 0 g (gs ++ b.0) h.grown.0 h.grown.1 (subst (Chain Follows) b.1 c));
    }

-- The last of numbered generations has the last number, and the declared sets.
pub grown_last : (schema : List SetDecl) (k : ℕ) (front : List Generation) (g : Generation) → Grown schema k (front ++ g ∷ []) → (g.number ≡ k + length front) × (kinds_of g.sets ≡ declared_kinds schema)
grown_last schema k [] g h = (omega (arith, h.0), h.1)
grown_last schema k (x ∷ xs) g h = let rest = grown_last schema (k + 1) xs g h.2 in let n = rest.0 in (omega (arith, n), rest.1)

grown_more : (schema : List SetDecl) (k : ℕ) (gs : List Generation) (g : Generation) → Grown schema k gs → g.number ≡ k + length gs → kinds_of g.sets ≡ declared_kinds schema → Grown schema k (gs ++ g ∷ [])
grown_more schema k [] g h n e = (omega arith, e, tt)
grown_more schema k (x ∷ xs) g h n e = (h.0, h.1, grown_more schema (k + 1) xs g h.2 (omega arith) e)

-- the last generation that was seen
pub seen_last : (schema : List SetDecl) (seen : List Generation) (g : Generation) → IsSeen schema seen → EndsWith seen g → (g.number + 1 ≡ length seen) × (kinds_of g.sets ≡ declared_kinds schema)
seen_last schema seen g h ends =
    let last = grown_last schema 0 ends.0 g (subst (Grown schema 0) ends.1 h.grown) in let n = last.0 in
    let e = ap length ends.1 in let a = length-append ends.0 (g ∷ []) in (omega (arith, n, e, a), last.1)

-- There are as many sets of the declared kinds as declared sets.
pub as_many : (sets : List State) (schema : List SetDecl) → kinds_of sets ≡ declared_kinds schema → length sets ≡ length schema
as_many sets schema e = let a = length-map sets (λ (s : State). s.kinds) in let b = length-map schema (λ (d : SetDecl). d.kinds) in let l = ap length e in omega (arith, a, b, l)

purged_kinds : (sets : List State) (now : ℕ) → kinds_of (map (λ s. purged s now) sets) ≡ kinds_of sets
purged_kinds [] now = refl
purged_kinds (s ∷ ss) now = ap (λ ks. s.kinds ∷ ks) (purged_kinds ss now)

module _ (schema : List SetDecl) (made : List Generation) (w : Open) (steered : IsSteered schema made w) where
  base_is : (w.base.number + 1 ≡ length made) × (kinds_of w.base.sets ≡ declared_kinds schema)
  base_is = let last = grown_last schema 0 steered.last.0 w.base (subst (Grown schema 0) steered.last.1 steered.grown) in let n = last.0 in
      let e = ap length steered.last.1 in let a = length-append steered.last.0 (w.base ∷ []) in (omega (arith, n, e, a), last.1)

  pub base_kinds : kinds_of w.base.sets ≡ declared_kinds schema
  base_kinds = base_is.1

  -- A change keeps the base and the kinds of all sets.
  pub steered_by : (new : Open) → new.base ≡ w.base → kinds_of new.sets ≡ kinds_of w.sets → IsSteered schema made new
  steered_by new base kinds = record { last = subst (EndsWith made) (sym base) steered.last; grown = steered.grown; open_sets = kinds ∙ steered.open_sets }

  -- An abort keeps them.
  pub steered_abort : (new : Open) → new ≡ opened w.base → IsSteered schema made new
  steered_abort new is = subst (IsSteered schema made) (sym is) (steered_by (opened w.base) refl (base_kinds ∙ sym steered.open_sets))

  module _ (now : ℕ) where
    pub next_kinds : kinds_of (sealed w now).sets ≡ declared_kinds schema
    next_kinds = purged_kinds w.sets now ∙ steered.open_sets

    pub next_long : length (sealed w now).sets ≡ length w.base.sets
    next_long = as_many (sealed w now).sets schema next_kinds ∙ sym (as_many w.base.sets schema base_is.1)

    next_follows : (g : Generation) → EndsWith made g → Follows g (sealed w now)
    next_follows g last = subst (λ (z : Generation). Follows z (sealed w now)) (one_last made w.base g steered.last last) (refl, next_kinds ∙ sym base_is.1)

    -- Values that show the sealed generation may be published next.
    pub shown_follows : {T : Type 0} (state : T → Generation) (ys : List (Option T)) (x y : Generation) → 0 < length ys → AllShow state (sealed w now) ys → AllShow state x ys → EndsWith made y → Follows y x
    shown_follows state ys x y some next shows last = subst (Follows y) (all_show_same state (sealed w now) x ys some next shows) (next_follows y last)

    -- The work is based on it after it is published.
    pub steered_next : IsSteered schema (made ++ sealed w now ∷ []) (opened (sealed w now))
    steered_next = record { last = (made, refl); grown = grown_more schema 0 made (sealed w now) steered.grown (let n = base_is.0 in omega (arith, n)) next_kinds; open_sets = next_kinds }

first_kinds : (schema : List SetDecl) → kinds_of (first_generation schema).sets ≡ declared_kinds schema
first_kinds [] = refl
first_kinds (d ∷ ds) = ap (λ ks. d.kinds ∷ ks) (first_kinds ds)

first_seen : (schema : List SetDecl) → IsSeen schema (first_generation schema ∷ [])
first_seen schema = record { some = omega arith; grown = (refl, first_kinds schema, tt) }

-- New passes make new readers, which have seen generation 0.
pub new_seen : (z : TableId) (schema : List SetDecl) (made : List Generation) (k : ℕ) (ps : List (slots.PassView Generation)) → made ≡ first_generation schema ∷ [] → AllNew z made k ps → All (λ p. IsSeen schema p.seen) ps
new_seen z schema made k [] is new i d l = absurd (omega (arith, l))
new_seen z schema made k (p ∷ ps) is new zero d l = subst (IsSeen schema) (sym is ∙ sym (ap (λ x. x.seen) new.0)) (first_seen schema)
new_seen z schema made k (p ∷ ps) is new (suc i) d l = new_seen z schema made (k + 1) ps is new.1 i d (omega (arith, l))

new_readers : (z : TableId) (schema : List SetDecl) (seen : List Generation) (k : ℕ) (ps : List (slots.PassView Generation)) → AllNew z seen k ps → AllFresh z schema seen k (map (reader_view schema) ps)
new_readers z schema seen k [] new = tt
new_readers z schema seen k (p ∷ ps) new = (ap (reader_view schema) new.0, new_readers z schema seen (k + 1) ps new.1)

pub fresh_as : (z of : TableId) (t schema : List SetDecl) (made seen : List Generation) (ps : List (slots.PassView Generation)) (rs : List ReaderView) → z ≡ of → t ≡ schema → made ≡ seen → rs ≡ map (reader_view t) ps → AllNew z made 0 ps
    → (length rs ≡ length ps) × AllFresh of schema seen 0 rs
fresh_as z of t schema made seen ps rs same declared all readers new = (
  ap length readers ∙ length-map ps (reader_view t),
  subst (AllFresh of schema seen 0) (sym readers)
      (subst (λ (x : TableId × List SetDecl × List Generation). AllFresh x.0 x.1 x.2 0 (map (reader_view t) ps)) (λ i. (same i, declared i, all i)) (new_readers z t made 0 ps new)),
)

-- A work on generation 0.
pub first_steered : (schema : List SetDecl) (made : List Generation) (w : Open) → made ≡ first_generation schema ∷ [] → w ≡ opened (first_generation schema) → IsSteered schema made w
first_steered schema made w all work =
    let start : IsSteered schema (first_generation schema ∷ []) (opened (first_generation schema)) = record { last = ([], refl); grown = (refl, first_kinds schema, tt); open_sets = first_kinds schema } in
    subst (IsSteered schema made) (sym work) (subst (λ z. IsSteered schema z (opened (first_generation schema))) (sym all) start)
