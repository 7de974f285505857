-- The steps of a search, and what it shows of two sets at its end.
use Rattle.std.proofs.Common.{◌≡◌, refl, sym, ◌∙◌, ap, subst, ℕ, ◌+◌, ◌<◌, ◌⊎◌, inl, inr, Bool, true, false, ◌||◌, ◌&&◌, not, List, [], ◌∷◌, ◌++◌, length, Option, None, Some, arith}
use Rattle.std.specs.Prelude.{map, filter, take, slice_get, cond, ◌==◌, ◌↔◌, IsTrue, is_none}
use Rattle.std.proofs.lemmas.Bool.{or_cases, or_left, or_right, and_parts, and_from, not-true, not_from_false}
use Rattle.std.proofs.lemmas.Bool.Decides.{nat_tests}
use Rattle.std.proofs.lemmas.List.{take_more}
use Rattle.std.proofs.lemmas.Option.{get_or_from_slice_get, slice_get_within}
use Rattle.std.proofs.lemmas.List.Folds.{list_any-append}
use Rattle.std.proofs.lemmas.List.Elements.{All-head, All-tail, All-cons}
use Rattle.set_model.specs.declared.kind.Kind.{Kind}
use Rattle.set_model.specs.declared.kind.Interval.{Interval}
use Rattle.set_model.specs.declared.element.Element.{Element}
use Rattle.set_model.specs.Key.{parts_hold, parts_fit, start_key, key_fits, values_fit}
use Rattle.set_model.specs.Expiry.{live}
use Rattle.set_model.specs.SetState.{State, place}
use Rattle.pipapo_image.proofs.AddLaws.{start-fits}
use Rattle.set_compare.specs.Missing.{finds, is_up_to, is_missing, DecideAlike, IsLeastMissing, IsNoneMissing, IsFirstMissing}
use Rattle.set_compare.specs.declared.missing.Lack.{Lack}
use Rattle.set_compare.specs.Search.{in_some, total_volume, AllFit, is_reached, IsWitness, IsSearched, IsSubtracted, live_regions}
use Rattle.set_compare.proofs.CutLaws.{fit-proper, fit-long, volume-some}
use Rattle.set_compare.proofs.HoldLaws.{up-to-trans, up-to-total, start-first, finds-not, IsHolder, live-held}
use Rattle.set_compare.proofs.RegionLaws.{some-push, total-push}

or-false : (a : Bool) → (a || false) ≡ a
or-false true = refl
or-false false = refl

pub searched-not : (s : State) (now : ℕ) (least : Option (List ℕ)) (regions : List (List Interval)) → IsSearched s now least regions least regions
searched-not s now least regions = record { kept = λ key fit un h. h; inside = λ key h. h; witness = inl refl }

-- A search that goes on.
pub searched-on : (s : State) (now : ℕ) (a b c : Option (List ℕ)) (old mid new : List (List Interval)) → IsSearched s now a old b mid → IsSearched s now b mid c new → IsSearched s now a old c new
searched-on s now a b c old mid new x y = record {
  kept = λ key fit un h. y.kept key fit un (x.kept key fit un h);
  inside = λ key h. x.inside key (y.inside key h);
  witness = after y.witness;
} where
  before : c ≡ b → (b ≡ a) ⊎ ((key : List ℕ) × (b ≡ Some key) × IsWitness s now old key) → (c ≡ a) ⊎ ((key : List ℕ) × (c ≡ Some key) × IsWitness s now old key)
  before e (inl f) = inl (e ∙ f)
  before e (inr (key, f, w)) = inr (key, e ∙ f, w)

  after : (c ≡ b) ⊎ ((key : List ℕ) × (c ≡ Some key) × IsWitness s now mid key) → (c ≡ a) ⊎ ((key : List ℕ) × (c ≡ Some key) × IsWitness s now old key)
  after (inl e) = before e x.witness
  after (inr (key, e, w)) = inr (key, e, record { held = x.inside key w.held; missed = w.missed; fits = w.fits })

-- The regions in another order.
pub searched-same : (s : State) (now : ℕ) (a b : Option (List ℕ)) (old mid new : List (List Interval)) → IsSearched s now a old b mid → ((key : List ℕ) → in_some mid key ≡ in_some new key) → IsSearched s now a old b new
searched-same s now a b old mid new x same = record {
  kept = λ key fit un h. ap (λ z. is_reached b key || z) (sym (same key)) ∙ x.kept key fit un h;
  inside = λ key h. x.inside key (same key ∙ h);
  witness = x.witness;
}

-- The region that is taken off the end, and then a step of its own.
pub searched-step : (s : State) (now : ℕ) (a b c : Option (List ℕ)) (old mid rest new : List (List Interval)) (region : List Interval) → IsSearched s now a old b mid → mid ≡ rest ++ region ∷ [] → IsSearched s now b (region ∷ rest) c new
    → IsSearched s now a old c new
searched-step s now a b c old mid rest new region x e y =
    searched-on s now a b c old (region ∷ rest) new
    (searched-same s now a b old mid (region ∷ rest) x (λ key. ap (λ z. in_some z key) e ∙ some-push rest region key)) y

pub fit-step : (kinds : List Kind) (mid rest : List (List Interval)) (region : List Interval) → mid ≡ rest ++ region ∷ [] → AllFit kinds mid → AllFit kinds (region ∷ rest)
fit-step kinds mid rest region e h =
    let Q : List Interval → Type 0 = λ r. parts_fit kinds r ≡ true in
    All-cons Q region rest (last kinds rest region (subst (AllFit kinds) e h)) (front kinds rest region (subst (AllFit kinds) e h)) where
      front : (kinds : List Kind) (rest : List (List Interval)) (region : List Interval) → AllFit kinds (rest ++ region ∷ []) → AllFit kinds rest
      front kinds [] region h = λ k d l. absurd (omega arith)
      front kinds (r ∷ rs) region h =
          let Q : List Interval → Type 0 = λ r. parts_fit kinds r ≡ true in
          All-cons Q r rs (All-head Q r (rs ++ region ∷ []) h) (front kinds rs region (All-tail Q r (rs ++ region ∷ []) h))

      last : (kinds : List Kind) (rest : List (List Interval)) (region : List Interval) → AllFit kinds (rest ++ region ∷ []) → parts_fit kinds region ≡ true
      last kinds [] region h = let Q : List Interval → Type 0 = λ r. parts_fit kinds r ≡ true in All-head Q region [] h
      last kinds (r ∷ rs) region h = let Q : List Interval → Type 0 = λ r. parts_fit kinds r ≡ true in last kinds rs region (All-tail Q r (rs ++ region ∷ []) h)

pub volume-step : (mid rest : List (List Interval)) (region : List Interval) (n : ℕ) → mid ≡ rest ++ region ∷ [] → n < total_volume (region ∷ rest) → n < total_volume mid
volume-step mid rest region n e l = subst (λ z. n < z) (sym (ap total_volume e ∙ total-push rest region)) l

fits-long : (kinds : List Kind) (key : List ℕ) → key_fits kinds key ≡ true → length kinds ≡ length key
fits-long kinds key h = from-equal (length kinds) (length key) (and_parts (length kinds == length key) (values_fit kinds key) h).0 where
  from-equal : (m n : ℕ) → (m == n) ≡ true → m ≡ n
  from-equal m n h = grind (arith, nat_tests)

-- The least key so far comes no later than the region's least key.
pub searched-reached : (s : State) (now : ℕ) (least : Option (List ℕ)) (region : List Interval) (rest : List (List Interval)) → parts_fit s.kinds region ≡ true → is_reached least (start_key region) ≡ true
    → IsSearched s now least (region ∷ rest) least rest
searched-reached s now least region rest fit reached = record {
  kept = λ key f un h. go key f (or_cases (is_reached least key) (in_some (region ∷ rest) key) h);
  inside = λ key h. or_right (parts_hold region key) (in_some rest key) h;
  witness = inl refl;
} where
  beyond : (o : Option (List ℕ)) (key : List ℕ) → is_reached o (start_key region) ≡ true → is_up_to (start_key region) key ≡ true → is_reached o key ≡ true
  beyond None key h k = h
  beyond (Some first) key h k = up-to-trans first (start_key region) key h k

  inner : (key : List ℕ) → key_fits s.kinds key ≡ true → (parts_hold region key ≡ true) ⊎ (in_some rest key ≡ true) → (is_reached least key || in_some rest key) ≡ true
  inner key f (inl h) =
      or_left (is_reached least key) (in_some rest key)
      (beyond least key reached (start-first region key (sym (fit-long s.kinds region fit) ∙ fits-long s.kinds key f) h))
  inner key f (inr h) = or_right (is_reached least key) (in_some rest key) h

  go : (key : List ℕ) → key_fits s.kinds key ≡ true → (is_reached least key ≡ true) ⊎ (in_some (region ∷ rest) key ≡ true) → (is_reached least key || in_some rest key) ≡ true
  go key f (inl h) = or_left (is_reached least key) (in_some rest key) h
  go key f (inr h) = inner key f (or_cases (parts_hold region key) (in_some rest key) h)

-- The set doesn't find the region's least key, which comes before the least key so far.
pub searched-witness : (s : State) (now : ℕ) (least : Option (List ℕ)) (region : List Interval) (rest : List (List Interval)) → parts_fit s.kinds region ≡ true → is_reached least (start_key region) ≡ false
    → None ≡ place s (start_key region) now → IsSearched s now least (region ∷ rest) (Some (start_key region)) rest
searched-witness s now least region rest fit far none = record {
  kept = λ key f un h. go key f (or_cases (is_reached least key) (in_some (region ∷ rest) key) h);
  inside = λ key h. or_right (parts_hold region key) (in_some rest key) h;
  witness = inr (
    start_key region,
    refl,
    record {
      held = or_left (parts_hold region (start_key region)) (in_some rest (start_key region)) (fit-proper s.kinds region fit);
      missed = finds-not s (start_key region) now none;
      fits = start-fits s.kinds region fit;
    },
  );
} where
  sooner : (o : Option (List ℕ)) (key : List ℕ) → is_reached o (start_key region) ≡ false → is_reached o key ≡ true → is_up_to (start_key region) key ≡ true
  sooner None key h k = absurd (cc k)
  sooner (Some first) key h k = up-to-trans (start_key region) first key (up-to-total first (start_key region) h) k

  inner : (key : List ℕ) → key_fits s.kinds key ≡ true → (parts_hold region key ≡ true) ⊎ (in_some rest key ≡ true) → (is_up_to (start_key region) key || in_some rest key) ≡ true
  inner key f (inl h) =
      or_left (is_up_to (start_key region) key) (in_some rest key)
      (start-first region key (sym (fit-long s.kinds region fit) ∙ fits-long s.kinds key f) h)
  inner key f (inr h) = or_right (is_up_to (start_key region) key) (in_some rest key) h

  go : (key : List ℕ) → key_fits s.kinds key ≡ true → (is_reached least key ≡ true) ⊎ (in_some (region ∷ rest) key ≡ true) → (is_up_to (start_key region) key || in_some rest key) ≡ true
  go key f (inl h) = or_left (is_up_to (start_key region) key) (in_some rest key) (sooner least key far h)
  go key f (inr h) = inner key f (or_cases (parts_hold region key) (in_some rest key) h)

-- One region fewer has a smaller volume.
pub fewer-by-one : (kinds : List Kind) (region : List Interval) (rest : List (List Interval)) → parts_fit kinds region ≡ true → total_volume rest < total_volume (region ∷ rest)
fewer-by-one kinds region rest fit = let some = volume-some region (fit-proper kinds region fit) in omega arith

-- An element holds the region's least key, and its keys are taken out.
pub searched-cut : (s : State) (now : ℕ) (least : Option (List ℕ)) (key : List ℕ) (element : List Interval) (old new : List (List Interval)) → IsHolder s now key element → IsSubtracted element old new → IsSearched s now least old least new
searched-cut s now least key element old new h cut = record {
  kept = λ other fit un held. go other un (or_cases (is_reached least other) (in_some old other) held);
  inside = cut.inside;
  witness = inl refl;
} where
  go : (other : List ℕ) → finds s now other ≡ false → (is_reached least other ≡ true) ⊎ (in_some old other ≡ true) → (is_reached least other || in_some new other) ≡ true
  go other un (inl a) = or_left (is_reached least other) (in_some new other) a
  go other un (inr a) = or_right (is_reached least other) (in_some new other) (cut.kept other (h.others other un) a)

-- One more element is searched, after all regions before it.
pub searched-more : (s : State) (now : ℕ) (a b c : Option (List ℕ)) (regions : List (List Interval)) (region : List Interval) → IsSearched s now a regions b [] → IsSearched s now b (region ∷ []) c [] → IsSearched s now a (regions ++ region ∷ []) c []
searched-more s now a b c regions region x y = searched-on s now a b c (regions ++ region ∷ []) (region ∷ []) [] beside y where
  all : (key : List ℕ) → in_some (regions ++ region ∷ []) key ≡ (in_some regions key || in_some (region ∷ []) key)
  all key = list_any-append (λ r. parts_hold r key) regions (region ∷ [])

  reached : (key : List ℕ) → (is_reached b key || in_some [] key) ≡ true → (is_reached b key || in_some (region ∷ []) key) ≡ true
  reached key h = or_left (is_reached b key) (in_some (region ∷ []) key) (sym (or-false (is_reached b key)) ∙ h)

  later : (key : List ℕ) → key_fits s.kinds key ≡ true → finds s now key ≡ false → (in_some regions key ≡ true) ⊎ (in_some (region ∷ []) key ≡ true) → (is_reached b key || in_some (region ∷ []) key) ≡ true
  later key fit un (inl h) = reached key (x.kept key fit un (or_right (is_reached a key) (in_some regions key) h))
  later key fit un (inr h) = or_right (is_reached b key) (in_some (region ∷ []) key) h

  go : (key : List ℕ) → key_fits s.kinds key ≡ true → finds s now key ≡ false → (is_reached a key ≡ true) ⊎ (in_some (regions ++ region ∷ []) key ≡ true) → (is_reached b key || in_some (region ∷ []) key) ≡ true
  go key fit un (inl h) = reached key (x.kept key fit un (or_left (is_reached a key) (in_some regions key) h))
  go key fit un (inr h) = later key fit un (or_cases (in_some regions key) (in_some (region ∷ []) key) (sym (all key) ∙ h))

  more : (b ≡ a) ⊎ ((key : List ℕ) × (b ≡ Some key) × IsWitness s now regions key) → (b ≡ a) ⊎ ((key : List ℕ) × (b ≡ Some key) × IsWitness s now (regions ++ region ∷ []) key)
  more (inl e) = inl e
  more (inr (key, e, w)) = inr (key, e, record { held = all key ∙ or_left (in_some regions key) (in_some (region ∷ []) key) w.held; missed = w.missed; fits = w.fits })

  beside : IsSearched s now a (regions ++ region ∷ []) b (region ∷ [])
  beside = record {
    kept = λ key fit un h. go key fit un (or_cases (is_reached a key) (in_some (regions ++ region ∷ []) key) h);
    inside = λ key h. all key ∙ or_right (in_some regions key) (in_some (region ∷ []) key) h;
    witness = more x.witness;
  }

-- The regions of one more element.
one-region : (e : Element) (t : Bool) → map (λ (e : Element). e.parts) (cond t (e ∷ []) []) ≡ cond t (e.parts ∷ []) []
one-region e true = refl
one-region e false = refl

live-end : (xs : List Element) (now : ℕ) (e : Element) → live_regions (xs ++ e ∷ []) now ≡ live_regions xs now ++ cond (live e now) (e.parts ∷ []) []
live-end [] now e = one-region e (live e now)
live-end (x ∷ xs) now e = step (live x now) (live-end xs now e) where
  step : (t : Bool) → live_regions (xs ++ e ∷ []) now ≡ live_regions xs now ++ cond (live e now) (e.parts ∷ []) []
      → map (λ (e : Element). e.parts) (cond t (x ∷ filter (λ e. live e now) (xs ++ e ∷ [])) (filter (λ e. live e now) (xs ++ e ∷ [])))
      ≡ map (λ (e : Element). e.parts) (cond t (x ∷ filter (λ e. live e now) xs) (filter (λ e. live e now) xs)) ++ cond (live e now) (e.parts ∷ []) []
  step true ih = ap (λ z. x.parts ∷ z) ih
  step false ih = ih

live-more : (es : List Element) (i now : ℕ) (e : Element) → slice_get es i ≡ Some e → live_regions (take (i + 1) es) now ≡ live_regions (take i es) now ++ cond (live e now) (e.parts ∷ []) []
live-more es i now e h =
    ap (λ z. live_regions z now) (take_more es i e (slice_get_within es i e h) ∙ ap (λ z. take i es ++ z ∷ []) (get_or_from_slice_get es i e e h)) ∙ live-end (take i es) now e

-- A live element is searched.
pub searched-next : (t : State) (now at i : ℕ) (a b : Option (List ℕ)) (es others : List Element) (e : Element) (parts : List Interval) → IsSearched t now None (live_regions (take i es) at) a [] → others ≡ es
    → slice_get others i ≡ Some e → live e at ≡ true → parts ≡ e.parts → IsSearched t now a (parts ∷ []) b [] → IsSearched t now None (live_regions (take (i + 1) es) at) b []
searched-next t now at i a b es others e parts x same is alive own y =
    let there : slice_get es i ≡ Some e = ap (λ xs. slice_get xs i) (sym same) ∙ is in
    let P : List (List Interval) → Type 0 = λ z. IsSearched t now None z b [] in
    let more : live_regions (take (i + 1) es) at ≡ live_regions (take i es) at ++ parts ∷ [] =
    live-more es i at e there ∙ ap (λ z. live_regions (take i es) at ++ cond z (e.parts ∷ []) []) alive ∙ ap (λ z. live_regions (take i es) at ++ z ∷ []) (sym own) in
    subst P (sym more) (searched-more t now None a b (live_regions (take i es) at) parts x y)

append-none : (xs : List (List Interval)) → xs ++ [] ≡ xs
append-none [] = refl
append-none (x ∷ xs) = ap (λ z. x ∷ z) (append-none xs)

-- An expired element is passed over.
pub searched-past : (t : State) (now at i : ℕ) (a : Option (List ℕ)) (es others : List Element) (e : Element) → IsSearched t now None (live_regions (take i es) at) a [] → others ≡ es
    → slice_get others i ≡ Some e → live e at ≡ false → IsSearched t now None (live_regions (take (i + 1) es) at) a []
searched-past t now at i a es others e x same is dead =
    let there : slice_get es i ≡ Some e = ap (λ xs. slice_get xs i) (sym same) ∙ is in
    let P : List (List Interval) → Type 0 = λ z. IsSearched t now None z a [] in
    let more : live_regions (take (i + 1) es) at ≡ live_regions (take i es) at =
    live-more es i at e there ∙ ap (λ z. live_regions (take i es) at ++ cond z (e.parts ∷ []) []) dead ∙ append-none (live_regions (take i es) at) in
    subst P (sym more) x

-- No missing key: the search of all live elements ends without a least key.
pub none-missing : (s t : State) (at later : ℕ) → s.kinds ≡ t.kinds → IsSearched t later None (live_regions s.elements at) None [] → IsNoneMissing s at t later
none-missing s t at later same x key fit = go (finds s at key) (finds t later key) refl refl where
  go : (f g : Bool) → finds s at key ≡ f → finds t later key ≡ g → (f && not g) ≡ false
  go false g h k = refl
  go true true h k = refl
  go true false h k = absurd (cc (x.kept key (ap (λ z. key_fits z key) (sym same) ∙ fit) k (live-held s.elements at key ∙ h)))

-- The least key that was found is the least missing key.
pub least-missing : (s t : State) (at later : ℕ) (key : List ℕ) → s.kinds ≡ t.kinds → IsSearched t later None (live_regions s.elements at) (Some key) [] → IsLeastMissing s at t later key
least-missing s t at later key same x = go x.witness where
  first : (other : List ℕ) → key_fits s.kinds other ≡ true → is_missing s at t later other ≡ true → is_up_to key other ≡ true
  first other fit h =
      let a = and_parts (finds s at other) (not (finds t later other)) h in
      sym (or-false (is_up_to key other))
      ∙ x.kept other (ap (λ z. key_fits z other) (sym same) ∙ fit) (not-true (finds t later other) a.1) (live-held s.elements at other ∙ a.0)

  go : (Some key ≡ None) ⊎ ((other : List ℕ) × (Some key ≡ Some other) × IsWitness t later (live_regions s.elements at) other) → IsLeastMissing s at t later key
  go (inl e) = absurd (cc e)
  go (inr (other, e, w)) =
      let k : key ≡ other = cc e in
      record {
        fits = ap (λ z. key_fits z key) same ∙ ap (key_fits t.kinds) k ∙ w.fits;
        missing = and_from (finds s at key) (not (finds t later key)) (ap (finds s at) k ∙ sym (live-held s.elements at other) ∙ w.held) (not_from_false (finds t later key) (ap (finds t later) k ∙ w.missed));
        least = first;
      }

-- Two sets decide alike exactly if neither misses a key of the other.
none-of : (s t : State) (at later : ℕ) (answer : Option Lack) → IsFirstMissing s at t later answer → ((key : List ℕ) → key_fits s.kinds key ≡ true → finds s at key ≡ finds t later key) → is_none answer ≡ true
none-of s t at later None first alike = refl
none-of s t at later (Some lack) first alike =
    let a = and_parts (finds s at lack.key) (not (finds t later lack.key)) first.key.missing in
    absurd (cc (a.0, not-true (finds t later lack.key) a.1, alike lack.key first.key.fits))

none-then : (s t : State) (at later : ℕ) (answer : Option Lack) → IsFirstMissing s at t later answer → is_none answer ≡ true → IsNoneMissing s at t later
none-then s t at later None first h = first
none-then s t at later (Some lack) first h = absurd (cc h)

neither : (s t : State) (at later : ℕ) → s.kinds ≡ t.kinds → IsNoneMissing s at t later → IsNoneMissing t later s at → DecideAlike s at t later
neither s t at later same x y key fit = go (finds s at key) (finds t later key) (x key fit) (y key (ap (λ z. key_fits z key) (sym same) ∙ fit)) where
  go : (f g : Bool) → (f && not g) ≡ false → (g && not f) ≡ false → f ≡ g
  go true true h k = refl
  go false false h k = refl
  go true false h k = absurd (cc h)
  go false true h k = absurd (cc k)

pub alike-law : (s t : State) (at later : ℕ) (here there : Option Lack) → s.kinds ≡ t.kinds → IsFirstMissing s at t later here → IsFirstMissing t later s at there
    → IsTrue (is_none here && is_none there) ↔ DecideAlike s at t later
alike-law s t at later here there same x y = (
  λ h. let a = and_parts (is_none here) (is_none there) h in neither s t at later same (none-then s t at later here x a.0) (none-then t s later at there y a.1),
  λ alike. and_from (is_none here) (is_none there) (none-of s t at later here x alike)
      (none-of t s later at there y (λ key fit. sym (alike key (ap (λ z. key_fits z key) same ∙ fit)))),
)
