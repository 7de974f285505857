-- Each element of a generation came from the step that is noted for its id.
use Rattle.std.proofs.Common.{◌≡◌, refl, sym, ◌∙◌, ap, subst, ℕ, zero, suc, ◌+◌, ◌<◌, ◌≤◌, ◌==◌, ◌||◌, Bool, true, false, not, if◌then◌else◌, List, [], ◌∷◌, ◌++◌, length, map, take, drop, fold, All, Option, Some, None, slice_get, slice_set, slice_index_or, option_map, ◌⊎◌, inl, inr, arith, eq-eqb, eqb-true, true≢false}
use Rattle.std.specs.List.{enumerate_from, remove}
use Rattle.std.proofs.lemmas.List.Elements.{All-filter}
use Rattle.std.proofs.lemmas.List.Sums.{fold-append}
use Rattle.std.proofs.lemmas.Option.{slice_get-map, slice_get_within}
use Rattle.set_model.specs.declared.element.Element.{Element}
use Rattle.set_model.specs.declared.element.NewElement.{NewElement}
use Rattle.set_model.specs.declared.report.Why.{Why}
use Rattle.set_model.specs.declared.script.SetDecl.{SetDecl}
use Rattle.set_model.specs.declared.script.Step.{Step}
use Rattle.set_model.specs.declared.script.Step.TheVariants.{Change, Flush, Commit, Abort}
use Rattle.set_model.specs.declared.script.Verb.{Verb}
use Rattle.set_model.specs.declared.script.Verb.TheVariants as verbs
use Rattle.set_model.specs.Expiry.{live, renewed_element, renewed_at}
use Rattle.set_model.specs.SetState.{State, Addition, New, Already, Renewed, Refused, add, add_by, with_element, renewed, without_at, purged, cleared, empty_set, element_at, exact_place, twin_place, start_in_the_way, end_in_the_way, sharing_in_the_way, is_full, crowded_field}
use Rattle.set_model.specs.Control.{Mode, Strict, KeepGoing, Control, Generation, first_generation, start, step, section, refused, answered, as_added, as_created, as_deleted, as_destroyed, changed, changed_set, with_set, flushed, next_generation}
use Rattle.packet_pool.proofs.Lists.{all_at, all_from, get_drop, get_push, get_set_here, get_set_other, get_take}
use Rattle.script_laws.proofs.Lists.{All-snoc, append-either}
use Rattle.key_answer.specs.Origin.{new_id, made_in, with_line, lines_after, Traced, traced_step}
use Rattle.element_lines.specs.Additions.{AdditionsTell, HasMade, all_of, on_line, one_a_line, step_at}

-- Lists of which something holds.
module _ {X : Type 0} (P : X → Type 0) where
  all-set : (xs : List X) (i : ℕ) (x : X) → All P xs → P x → All P (slice_set xs i x)
  all-set xs i x h p = all_from P (slice_set xs i x) (λ k y at. go k y at) where
    at-place : (ys : List X) (i k : ℕ) (y : X) → slice_get (slice_set ys i x) k ≡ Some y → (x ≡ y) ⊎ (slice_get ys k ≡ Some y)
    at-place [] i k y at = inr at
    at-place (z ∷ ys) zero zero y at = inl (cc at)
    at-place (z ∷ ys) zero (suc k) y at = inr at
    at-place (z ∷ ys) (suc i) zero y at = inr at
    at-place (z ∷ ys) (suc i) (suc k) y at = at-place ys i k y at

    one-of : (k : ℕ) (y : X) → (x ≡ y) ⊎ (slice_get xs k ≡ Some y) → P y
    one-of k y (inl is) = subst P is p
    one-of k y (inr at) = all_at P xs h k y at

    go : (k : ℕ) (y : X) → slice_get (slice_set xs i x) k ≡ Some y → P y
    go k y at = one-of k y (at-place xs i k y at)

  all-remove : (xs : List X) (i : ℕ) → All P xs → All P (remove xs i)
  all-remove xs i h = all_from P (remove xs i) (λ k x at. go x (append-either (take i xs) (drop (suc i) xs) k x at)) where
    go : {k : ℕ} (x : X) → (slice_get (take i xs) k ≡ Some x) ⊎ ((q : ℕ) × (slice_get (drop (suc i) xs) q ≡ Some x) × (k ≡ length (take i xs) + q)) → P x
    go {k} x (inl at) = all_at P xs h k x (get_take i xs k x at).1
    go x (inr at) = all_at P xs h (suc i + at.0) x (get_drop (suc i) xs at.0 x at.1)

all-imp : {X : Type 0} (P Q : X → Type 0) (xs : List X) → ((x : X) → P x → Q x) → All P xs → All Q xs
all-imp P Q xs f h = λ k d lt. f (slice_index_or xs k d) (h k d lt)

-- a list that is cut and gets one more item
module _ {X : Type 0} (y : X) where
  cut-front : (xs : List X) (n k : ℕ) → k < n → n ≤ length xs → slice_get (take n xs ++ y ∷ []) k ≡ slice_get xs k
  cut-front xs zero k lt le = absurd (omega (arith, lt))
  cut-front [] (suc n) k lt le = absurd (omega (arith, le))
  cut-front (x ∷ xs) (suc n) zero lt le = refl
  cut-front (x ∷ xs) (suc n) (suc k) lt le = cut-front xs n k (omega (arith, lt)) (omega (arith, le))

  cut-seam : (xs : List X) (n : ℕ) → n ≤ length xs → slice_get (take n xs ++ y ∷ []) n ≡ Some y
  cut-seam xs zero le = refl
  cut-seam [] (suc n) le = absurd (omega (arith, le))
  cut-seam (x ∷ xs) (suc n) le = cut-seam xs n (omega (arith, le))

  cut-long : (xs : List X) (n : ℕ) → n ≤ length xs → length (take n xs ++ y ∷ []) ≡ n + 1
  cut-long xs zero le = refl
  cut-long [] (suc n) le = absurd (omega (arith, le))
  cut-long (x ∷ xs) (suc n) le = ap suc (cut-long xs n (omega (arith, le))) ∙ omega arith

-- the next id of a set, or 0 if there is no such set
abbrev next_of : Option State → ℕ
next_of None = 0
next_of (Some s) = s.next

next-at : (o : Option State) (s : State) → o ≡ Some s → next_of o ≡ s.next
next-at o s is = ap next_of is

next-purged : (now : ℕ) (o : Option State) → next_of (option_map (λ s. purged s now) o) ≡ next_of o
next-purged now None = refl
next-purged now (Some s) = refl

-- what an addition makes of a set
abbrev IsAdded : State → NewElement → Addition × State → Type 0
IsAdded s e (New id, t) = (id ≡ s.next) × (t ≡ with_element s e)
IsAdded s e (Already id, t) = t ≡ s
IsAdded s e (Renewed id, t) = (i : ℕ) × (expiry : Option ℕ) × (t ≡ renewed s i expiry)
IsAdded s e (Refused why, t) = Unit {0}

added-by : (s : State) (e : NewElement) (twin expiry at_start at_end sharing : Option ℕ) (full : Bool) (crowded : Option ℕ) → IsAdded s e (add_by s e twin expiry at_start at_end sharing full crowded)
added-by s e (Some i) None at_start at_end sharing full crowded = refl
added-by s e (Some i) (Some moment) at_start at_end sharing full crowded = (i, Some moment, refl)
added-by s e None expiry (Some i) at_end sharing full crowded = tt
added-by s e None expiry None (Some i) sharing full crowded = tt
added-by s e None expiry None None (Some i) full crowded = tt
added-by s e None expiry None None None true crowded = tt
added-by s e None expiry None None None false (Some f) = tt
added-by s e None expiry None None None false None = (refl, refl)

added : (s : State) (e : NewElement) (now : ℕ) → IsAdded s e (add s e now)
added s e now = added-by s e (twin_place s e.parts now) e.expiry (start_in_the_way s e.parts now) (end_in_the_way s e.parts now) (sharing_in_the_way s e.parts now) (is_full s) (crowded_field s e.parts)

module _ (steps : List Step) (set : ℕ) where
  -- an element has an id that was given, and came from the step that is noted for it
  abbrev From : List ℕ → ℕ → Element → Type 0
  From places next e = (e.id < next) × HasMade (step_at steps (slice_get places e.id)) set e

  -- a place is noted for each id that a set gave, and each of its elements came from there
  record Holds (places : List ℕ) (s : State) : Type 0 where
    long : s.next ≤ length places
    each : All (From places s.next) s.elements

  -- The control's sets at this place: those of all generations, no newer than the last one's; and the open one.
  record Sound (c : Control) (places : List ℕ) : Type 0 where
    open_is : (s : State) → slice_get c.sets set ≡ Some s → Holds places s
    rising : next_of (slice_get c.last.sets set) ≤ next_of (slice_get c.sets set)
    last_is : (s : State) → slice_get c.last.sets set ≡ Some s → Holds places s
    old_is : (n : ℕ) (g : Generation) (s : State) → slice_get c.committed n ≡ Some g → slice_get g.sets set ≡ Some s → Holds places s × (s.next ≤ next_of (slice_get c.last.sets set))

  -- A cut that leaves the ids of a set.
  holds-cut : (places : List ℕ) (n place : ℕ) (s : State) → n ≤ length places → s.next ≤ n → Holds places s → Holds (take n places ++ place ∷ []) s
  holds-cut places n place s within below h = record {
    long = let size = cut-long place places n within in omega (arith, size, below);
    each = all-imp (From places s.next) (From (take n places ++ place ∷ []) s.next) s.elements
        (λ e f. let low = f.0 in (f.0, subst (λ (o : Option ℕ). HasMade (step_at steps o) set e) (sym (cut-front place places n e.id (omega (arith, low, below)) within)) f.1)) h.each;
  }

  -- A new element.
  holds-new : (places : List ℕ) (place line now : ℕ) (verb : Verb) (e : NewElement) (s : State) → slice_get steps place ≡ Some (Change line set verb e now) → Holds places s → Holds (take s.next places ++ place ∷ []) (with_element s e)
  holds-new places place line now verb e s at h =
      let cut = holds-cut places s.next place s h.long (omega arith) h in
      let more = take s.next places ++ place ∷ [] in
      let new : Element = record { id = s.next; parts = e.parts; expiry = e.expiry; comment = e.comment } in record {
        long = let size = cut-long place places s.next h.long in omega (arith, size);
        each = All-snoc (From more (s.next + 1)) s.elements new
            (all-imp (From more s.next) (From more (s.next + 1)) s.elements (λ x f. let low = f.0 in (omega (arith, low), f.1)) cut.each)
            (omega arith, subst (λ (o : Option Step). HasMade o set new) (sym (ap (step_at steps) (cut-seam place places s.next h.long) ∙ at)) (refl, refl, refl));
      }

  made-renewed : (o : Option Step) (e : Element) (expiry : Option ℕ) → HasMade o set e → HasMade o set (record e { expiry = expiry })
  made-renewed None e expiry h = h
  made-renewed (Some (Change line other verb new now)) e expiry h = h
  made-renewed (Some (Flush line other now)) e expiry h = h
  made-renewed (Some (Commit now)) e expiry h = h
  made-renewed (Some Abort) e expiry h = h

  -- An element with another expiry.
  renewed-from : (places : List ℕ) (next i : ℕ) (expiry : Option ℕ) (es : List Element) → All (From places next) es → All (From places next) (renewed_at es i expiry)
  renewed-from places next i expiry es h = go (slice_get es i) refl where
    go : (o : Option Element) → slice_get es i ≡ o → All (From places next) (renewed_element es i expiry o)
    go None at = h
    go (Some e) at = all-set (From places next) es i (record e { expiry = expiry }) h (let f = all_at (From places next) es h i e at in (f.0, made-renewed (step_at steps (slice_get places e.id)) e expiry f.1))

  holds-with : (places : List ℕ) (s : State) (es : List Element) → Holds places s → All (From places s.next) es → Holds places (record s { elements = es })
  holds-with places s es h each = record { long = h.long; each = each }

  -- One set has another state, and the places are others.
  set-sound : (c : Control) (places more : List ℕ) (s t : State) → Sound c places → slice_get c.sets set ≡ Some s → Holds more t → s.next ≤ t.next → ((u : State) → Holds places u → u.next ≤ s.next → Holds more u) → Sound (with_set c set t) more
  set-sound c places more s t h at new up carry =
      let there : slice_get (slice_set c.sets set t) set ≡ Some t = get_set_here c.sets set t (slice_get_within c.sets set s at) in
      let open_next = next-at (slice_get c.sets set) s at in
      let new_next = next-at (slice_get (slice_set c.sets set t) set) t there in
      let rises = h.rising in record {
        open_is = λ u is. subst (Holds more) (let same : Some t ≡ Some u = sym there ∙ is in cc same) new;
        rising = omega (arith, rises, open_next, new_next, up);
        last_is = λ u is. carry u (h.last_is u is) (let n = next-at (slice_get c.last.sets set) u is in omega (arith, n, rises, open_next));
        old_is = λ n g u is its. let old = h.old_is n g u is its in (carry u old.0 (let below = old.1 in omega (arith, below, rises, open_next)), old.1);
      }

  -- The same places.
  same-sound : (c : Control) (places : List ℕ) (s t : State) → Sound c places → slice_get c.sets set ≡ Some s → Holds places t → s.next ≤ t.next → Sound (with_set c set t) places
  same-sound c places s t h at new up = set-sound c places places s t h at new up (λ u held below. held)

  -- Another set changes.
  other-sound : (c : Control) (places : List ℕ) (other : ℕ) (t : State) → (other == set) ≡ false → Sound c places → Sound (with_set c other t) places
  other-sound c places other t apart h =
      let same : slice_get (slice_set c.sets other t) set ≡ slice_get c.sets set = get_set_other c.sets other set t (λ e. true≢false (sym (eq-eqb other set (sym e)) ∙ apart)) in record {
        open_is = λ s is. h.open_is s (sym same ∙ is);
        rising = let n = ap next_of same in let r = h.rising in omega (arith, n, r);
        last_is = h.last_is;
        old_is = h.old_is;
      }

  -- A refusal leaves the sets.
  refused-sound : (mode : Mode) (c : Control) (places : List ℕ) (line other : ℕ) (why : Why) → Sound c places → Sound (refused mode c line other why) places
  refused-sound Strict c places line other why h = record { open_is = h.open_is; rising = h.rising; last_is = h.last_is; old_is = h.old_is }
  refused-sound KeepGoing c places line other why h = record { open_is = h.open_is; rising = h.rising; last_is = h.last_is; old_is = h.old_is }

  other-answered : (mode : Mode) (c : Control) (places : List ℕ) (line other : ℕ) (x : Option Why × State) → (other == set) ≡ false → Sound c places → Sound (answered mode c line other x) places
  other-answered mode c places line other (Some why, t) apart h = refused-sound mode c places line other why h
  other-answered mode c places line other (None, t) apart h = other-sound c places other t apart h

  other-changed : (mode : Mode) (c : Control) (places : List ℕ) (line other : ℕ) (verb : Verb) (e : NewElement) (now : ℕ) (o : Option State) → (other == set) ≡ false → Sound c places → Sound (changed mode c line other verb e now o) places
  other-changed mode c places line other verb e now None apart h = h
  other-changed mode c places line other verb e now (Some s) apart h = other-answered mode c places line other (changed_set verb s e now) apart h

  module _ (mode : Mode) (c : Control) (places : List ℕ) (h : Sound c places) (place line now : ℕ) (given : Verb) (e : NewElement) (at_step : slice_get steps place ≡ Some (Change line set given e now)) (s : State) (at : slice_get c.sets set ≡ Some s) where
    held : Holds places s
    held = h.open_is s at

    new-sound : (id : ℕ) (t : State) → id ≡ s.next → t ≡ with_element s e → Sound (with_set c set t) (take id places ++ place ∷ [])
    new-sound id t is made =
        subst (λ (z : ℕ × State). Sound (with_set c set z.1) (take z.0 places ++ place ∷ [])) (λ i. (sym is i, sym made i))
        (set-sound c places (take s.next places ++ place ∷ []) s (with_element s e) h at (holds-new places place line now given e s at_step held) (omega arith) (λ u old below. holds-cut places s.next place u held.long below old))

    renewed-sound : (i : ℕ) (expiry : Option ℕ) (t : State) → t ≡ renewed s i expiry → Sound (with_set c set t) places
    renewed-sound i expiry t is = subst (λ (z : State). Sound (with_set c set z) places) (sym is) (same-sound c places s (renewed s i expiry) h at (holds-with places s (renewed_at s.elements i expiry) held (renewed-from places s.next i expiry s.elements held.each)) (omega arith))

    stays-sound : (t : State) → t ≡ s → Sound (with_set c set t) places
    stays-sound t is = subst (λ (z : State). Sound (with_set c set z) places) (sym is) (same-sound c places s s h at held (omega arith))

    own-added : (a : Addition × State) → IsAdded s e a → Sound (answered mode c place set (as_added a)) (with_line places place (new_id a.0))
    own-added (New id, t) k = new-sound id t k.0 k.1
    own-added (Already id, t) k = stays-sound t k
    own-added (Renewed id, t) k = renewed-sound k.0 k.1 t k.2
    own-added (Refused why, t) k = refused-sound mode c places place set why h

    own-created : (a : Addition × State) → IsAdded s e a → Sound (answered mode c place set (as_created s a)) (with_line places place (new_id a.0))
    own-created (New id, t) k = new-sound id t k.0 k.1
    own-created (Already id, t) k = refused-sound mode c places place set _ h
    own-created (Renewed id, t) k = refused-sound mode c places place set _ h
    own-created (Refused why, t) k = refused-sound mode c places place set why h

    without-sound : (i : ℕ) → Sound (with_set c set (without_at s i)) places
    without-sound i = same-sound c places s (without_at s i) h at (holds-with places s (remove s.elements i) held (all-remove (From places s.next) s.elements i held.each)) (omega arith)

    own-deleted : (o : Option ℕ) → let r : Option (ℕ × State) = option_map (λ i. ((element_at s i).id, without_at s i)) o in Sound (answered mode c place set (as_deleted s r)) places × Sound (answered mode c place set (as_destroyed s r)) places
    own-deleted None = (refused-sound mode c places place set _ h, stays-sound s refl)
    own-deleted (Some i) = (without-sound i, without-sound i)

    own-changed : (verb : Verb) → Sound (answered mode c place set (changed_set verb s e now)) (with_line places place (made_in verb e now (Some s)))
    own-changed verbs.Add = own-added (add s e now) (added s e now)
    own-changed verbs.Create = own-created (add s e now) (added s e now)
    own-changed verbs.Delete = (own-deleted (exact_place s e.parts now)).0
    own-changed verbs.Destroy = (own-deleted (exact_place s e.parts now)).1

  -- The sets after a commit.
  purged-at : (now : ℕ) (sets : List State) (s : State) → slice_get (map (λ t. purged t now) sets) set ≡ Some s → (t : State) × (slice_get sets set ≡ Some t) × (purged t now ≡ s)
  purged-at now sets s at = go (slice_get sets set) refl (sym (slice_get-map (λ (t : State). purged t now) sets set) ∙ at) where
    go : (o : Option State) → slice_get sets set ≡ o → option_map (λ t. purged t now) o ≡ Some s → (t : State) × (slice_get sets set ≡ Some t) × (purged t now ≡ s)
    go None is e = absurd (cc e)
    go (Some t) is e = (t, is, cc e)

  holds-purged : (now : ℕ) (places : List ℕ) (s : State) → Holds places s → Holds places (purged s now)
  holds-purged now places s h = record { long = h.long; each = All-filter (λ e. live e now) (From places s.next) s.elements h.each }

  commit-sound : (mode : Mode) (c : Control) (places : List ℕ) (now : ℕ) → c.failed ≡ false → Sound c places → Sound (step mode c (Commit now)) places
  commit-sound mode c places now quiet h = rw quiet (record {
    open_is = new;
    rising = omega arith;
    last_is = new;
    old_is = λ n g s is its. old n g s its (get_push c.committed (next_generation c now) g n is);
  }) where
    after : List State
    after = (next_generation c now).sets

    same : next_of (slice_get after set) ≡ next_of (slice_get c.sets set)
    same = ap next_of (slice_get-map (λ (t : State). purged t now) c.sets set) ∙ next-purged now (slice_get c.sets set)

    new : (s : State) → slice_get after set ≡ Some s → Holds places s
    new s at = let from = purged-at now c.sets s at in subst (Holds places) from.2 (holds-purged now places from.0 (h.open_is from.0 from.1))

    old : (n : ℕ) (g : Generation) (s : State) → slice_get g.sets set ≡ Some s → (slice_get c.committed n ≡ Some g) ⊎ ((n ≡ length c.committed) × (next_generation c now ≡ g)) → Holds places s × (s.next ≤ next_of (slice_get after set))
    old n g s its (inl is) = let k = h.old_is n g s is its in let below = k.1 in let r = h.rising in (k.0, omega (arith, below, r, same))
    old n g s its (inr is) =
        let at : slice_get after set ≡ Some s = ap (λ (z : Generation). slice_get z.sets set) is.1 ∙ its in
        let n = next-at (slice_get after set) s at in
        (new s at, omega (arith, n))

  -- A failed transaction does nothing until its end.
  rewound-sound : (c d : Control) (places : List ℕ) → d.committed ≡ c.committed → d.last ≡ c.last → d.sets ≡ c.last.sets → Sound c places → Sound d places
  rewound-sound c d places committed last sets h = record {
    open_is = λ s is. h.last_is s (ap (λ (z : List State). slice_get z set) (sym sets) ∙ is);
    rising = let a = ap (λ (z : Generation). next_of (slice_get z.sets set)) last in let b = ap (λ (z : List State). next_of (slice_get z set)) sets in omega (arith, a, b);
    last_is = λ s is. h.last_is s (ap (λ (z : Generation). slice_get z.sets set) (sym last) ∙ is);
    old_is = λ n g s is its.
        let k = h.old_is n g s (ap (λ (z : List Generation). slice_get z n) (sym committed) ∙ is) its in
        (k.0, subst (λ (z : Generation). s.next ≤ next_of (slice_get z.sets set)) (sym last) k.1);
  }

  flush-sound : (c : Control) (places : List ℕ) (other : ℕ) (o : Option State) → slice_get c.sets other ≡ o → Sound c places → Sound (flushed c other o) places
  flush-sound c places other None at h = h
  flush-sound c places other (Some s) at h = go (other == set) refl where
    go : (b : Bool) → (other == set) ≡ b → Sound (with_set c other (cleared s)) places
    go false apart = other-sound c places other (cleared s) apart h
    go true same =
        let this : other ≡ set = eqb-true other set same in
        let here : slice_get c.sets set ≡ Some s = ap (slice_get c.sets) (sym this) ∙ at in
        subst (λ k. Sound (with_set c k (cleared s)) places) (sym this) (same-sound c places s (cleared s) h here (holds-with places s [] (h.open_is s here) (λ k d lt. absurd (omega (arith, lt)))) (omega arith))

  -- One step, on the line of its place.
  step-sound : (mode : Mode) (c : Control) (places : List ℕ) (place : ℕ) (s : Step) → slice_get steps place ≡ Some s → Sound c places → Sound (step mode c (on_line place s)) (lines_after set c places (on_line place s))
  step-sound mode c places place (Change line other verb e now) at h = go c.failed refl (other == set) refl (slice_get c.sets other) refl where
    next : Control
    next = changed mode c place other verb e now (slice_get c.sets other)

    more : List ℕ
    more = with_line places place (made_in verb e now (slice_get c.sets other))

    goes : (f b : Bool) → c.failed ≡ f → (other == set) ≡ b → Sound (if f then c else next) (if not b || f then places else more) → Sound (step mode c (Change place other verb e now)) (lines_after set c places (Change place other verb e now))
    goes f b failed same k = subst (λ (z : Control × List ℕ). Sound z.0 z.1) (λ i. (if sym failed i then c else next, if not (sym same i) || sym failed i then places else more)) k

    none : (verb : Verb) → Sound c (with_line places place (made_in verb e now None))
    none verbs.Add = h
    none verbs.Create = h
    none verbs.Delete = h
    none verbs.Destroy = h

    own : (other ≡ set) → (o : Option State) → slice_get c.sets other ≡ o → Sound (changed mode c place other verb e now o) (with_line places place (made_in verb e now o))
    own this None is = none verb
    own this (Some s) is =
        let here : slice_get c.sets set ≡ Some s = ap (slice_get c.sets) (sym this) ∙ is in
        let step_at_place : slice_get steps place ≡ Some (Change line set verb e now) = at ∙ ap (λ k. Some (Change line k verb e now)) this in
        subst (λ k. Sound (answered mode c place k (changed_set verb s e now)) (with_line places place (made_in verb e now (Some s)))) (sym this) (own-changed mode c places h place line now verb e step_at_place s here verb)

    go : (f : Bool) → c.failed ≡ f → (b : Bool) → (other == set) ≡ b → (o : Option State) → slice_get c.sets other ≡ o → Sound (step mode c (Change place other verb e now)) (lines_after set c places (Change place other verb e now))
    go true failed true same o is = goes true true failed same h
    go true failed false apart o is = goes true false failed apart h
    go false quiet false apart o is = goes false false quiet apart (other-changed mode c places place other verb e now (slice_get c.sets other) apart h)
    go false quiet true same o is = goes false true quiet same (own (eqb-true other set same) (slice_get c.sets other) refl)
  step-sound mode c places place (Flush line other now) at h = go c.failed refl where
    next : Control
    next = flushed c other (slice_get c.sets other)

    go : (f : Bool) → c.failed ≡ f → Sound (step mode c (Flush place other now)) places
    go true failed = subst (λ f. Sound (if f then c else next) places) (sym failed) h
    go false quiet = subst (λ f. Sound (if f then c else next) places) (sym quiet) (flush-sound c places other (slice_get c.sets other) refl h)
  step-sound mode c places place (Commit now) at h = go c.failed refl where
    go : (f : Bool) → c.failed ≡ f → Sound (step mode c (Commit now)) places
    go true failed = rw failed (rewound-sound c _ places refl refl refl h)
    go false quiet = commit-sound mode c places now quiet h
  step-sound mode c places place Abort at h = rewound-sound c _ places refl refl refl h

  -- All steps from one on.
  walk : (mode : Mode) (n : ℕ) (rest : List Step) (t : Traced) → ((i : ℕ) (s : Step) → slice_get rest i ≡ Some s → slice_get steps (n + i) ≡ Some s) → Sound t.control t.lines
      → let end = fold (traced_step mode set) t (map (λ m. on_line m.0 m.1) (enumerate_from n rest)) in Sound end.control end.lines
  walk mode n [] t at h = h
  walk mode n (s ∷ rest) t at h =
      let here : slice_get steps n ≡ Some s = let same : n ≡ n + 0 = omega arith in ap (slice_get steps) same ∙ at 0 s refl in
      walk mode (n + 1) rest (traced_step mode set t (on_line n s)) (λ i x is. let same : n + 1 + i ≡ n + suc i = omega arith in ap (slice_get steps) same ∙ at (suc i) x is) (step-sound mode t.control t.lines n s here h)

-- Two controls have the same generations and sets, whatever they report.
record Same (c d : Control) : Type 0 where
  committed : c.committed ≡ d.committed
  last : c.last ≡ d.last
  sets : c.sets ≡ d.sets
  failed : c.failed ≡ d.failed

-- the control with other reports
abbrev reporting : Control → Control → Control
reporting d c = record d { events = c.events }

same-as : (c d : Control) → Same c d → c ≡ reporting d c
same-as c d h = λ i. record { committed = h.committed i; last = h.last i; sets = h.sets i; failed = h.failed i; events = c.events }

-- Reports change no step, and neither does its line.
refused-same : (mode : Mode) (c d : Control) (line other set : ℕ) (why : Why) → Same c d → Same (refused mode c line set why) (refused mode d other set why)
refused-same Strict c d line other set why h = record { committed = h.committed; last = h.last; sets = h.sets; failed = refl }
refused-same KeepGoing c d line other set why h = record { committed = h.committed; last = h.last; sets = h.sets; failed = h.failed }

answered-same : (mode : Mode) (c d : Control) (line other set : ℕ) (x : Option Why × State) → Same c d → Same (answered mode c line set x) (answered mode d other set x)
answered-same mode c d line other set (Some why, s) h = refused-same mode c d line other set why h
answered-same mode c d line other set (None, s) h = record { committed = h.committed; last = h.last; sets = ap (λ (z : List State). slice_set z set s) h.sets; failed = h.failed }

changed-same : (mode : Mode) (c d : Control) (line other set : ℕ) (verb : Verb) (e : NewElement) (now : ℕ) (o : Option State) → Same c d → Same (changed mode c line set verb e now o) (changed mode d other set verb e now o)
changed-same mode c d line other set verb e now None h = h
changed-same mode c d line other set verb e now (Some s) h = answered-same mode c d line other set (changed_set verb s e now) h

flushed-same : (c d : Control) (set : ℕ) (o : Option State) → Same c d → Same (flushed c set o) (flushed d set o)
flushed-same c d set None h = h
flushed-same c d set (Some s) h = record { committed = h.committed; last = h.last; sets = ap (λ (z : List State). slice_set z set (cleared s)) h.sets; failed = h.failed }

-- one of two, by a mark that both have
if-same : (f g : Bool) (a b c d : Control) → f ≡ g → Same a c → Same b d → Same (if f then a else b) (if g then c else d)
if-same true true a b c d e h k = h
if-same true false a b c d e h k = absurd (true≢false e)
if-same false true a b c d e h k = absurd (true≢false (sym e))
if-same false false a b c d e h k = k

step-same : (mode : Mode) (c d : Control) (line : ℕ) (s : Step) → Same c d → Same (step mode c (on_line line s)) (step mode d s)
step-same mode c d line (Change old set verb e now) h =
    if-same c.failed d.failed c (changed mode c line set verb e now (slice_get c.sets set)) d (changed mode d old set verb e now (slice_get d.sets set)) h.failed h
    (subst (λ (z : List State). Same (changed mode c line set verb e now (slice_get c.sets set)) (changed mode d old set verb e now (slice_get z set))) h.sets (changed-same mode c d line old set verb e now (slice_get c.sets set) h))
step-same mode c d line (Flush old set now) h =
    if-same c.failed d.failed c (flushed c set (slice_get c.sets set)) d (flushed d set (slice_get d.sets set)) h.failed h
    (subst (λ (z : List State). Same (flushed c set (slice_get c.sets set)) (flushed d set (slice_get z set))) h.sets (flushed-same c d set (slice_get c.sets set) h))
step-same mode c d line (Commit now) h =
    let number = ap (λ (g : Generation). g.number) h.last in
    let next : next_generation c now ≡ next_generation d now = λ i. record { number = (h.last i).number + 1; sets = map (λ s. purged s now) (h.sets i) } in
    if-same c.failed d.failed _ _ _ _ h.failed
    (record { committed = h.committed; last = h.last; sets = ap (λ (g : Generation). g.sets) h.last; failed = refl })
    (record { committed = λ i. h.committed i ++ next i ∷ []; last = next; sets = ap (λ (g : Generation). g.sets) next; failed = h.failed })
step-same mode c d line Abort h = record { committed = h.committed; last = h.last; sets = ap (λ (g : Generation). g.sets) h.last; failed = refl }

walk-same : (mode : Mode) (set n : ℕ) (rest : List Step) (t : Traced) (d : Control) → Same t.control d → Same (fold (traced_step mode set) t (map (λ m. on_line m.0 m.1) (enumerate_from n rest))).control (fold (step mode) d rest)
walk-same mode set n [] t d h = h
walk-same mode set n (s ∷ rest) t d h = walk-same mode set (n + 1) rest (traced_step mode set t (on_line n s)) (step mode d s) (step-same mode t.control d n s h)

-- Sections are done as one section of all steps.
flat : (mode : Mode) (c : Control) (sections : List (List Step)) → fold (section mode) c sections ≡ fold (step mode) c (all_of sections)
flat mode c [] = refl
flat mode c (steps ∷ sections) = flat mode (section mode c steps) sections ∙ sym (fold-append (step mode) c steps (all_of sections))

-- Generation 0 has empty sets.
empty-start : (steps : List Step) (set : ℕ) (schema : List SetDecl) → Sound steps set (start schema) []
empty-start steps set schema = record {
  open_is = none;
  rising = omega arith;
  last_is = none;
  old_is = λ n g s is its. first n g s is its;
} where
  none : (s : State) → slice_get (first_generation schema).sets set ≡ Some s → Holds steps set [] s
  none s at = go (slice_get schema set) (sym (slice_get-map _ schema set) ∙ at) where
    go : (o : Option SetDecl) → option_map (λ (d : SetDecl). empty_set d.kinds d.size d.disjoint) o ≡ Some s → Holds steps set [] s
    go None e = absurd (cc e)
    go (Some d) e = let is : empty_set d.kinds d.size d.disjoint ≡ s = cc e in subst (Holds steps set []) is (record { long = omega arith; each = λ k x lt. absurd (omega (arith, lt)) })

  first : (n : ℕ) (g : Generation) (s : State) → slice_get (first_generation schema ∷ []) n ≡ Some g → slice_get g.sets set ≡ Some s → Holds steps set [] s × (s.next ≤ next_of (slice_get (first_generation schema).sets set))
  first zero g s is its =
      let at : slice_get (first_generation schema).sets set ≡ Some s = ap (λ (z : Generation). slice_get z.sets set) (let same : first_generation schema ≡ g = cc is in same) ∙ its in
      let n = next-at (slice_get (first_generation schema).sets set) s at in
      (none s at, omega (arith, n))
  first (suc n) g s is its = absurd (cc is)

-- Each element of each generation came from the addition of its id.
pub additions-tell : AdditionsTell
additions-tell mode script n set place g s e is its at =
    let steps = all_of script.sections in
    let begun : Traced = record { control = start script.schema; lines = [] } in
    let end = fold (traced_step mode set) begun (one_a_line steps) in
    let sound : Sound steps set end.control end.lines = walk steps set mode 0 steps begun (λ i x there. let same : i ≡ 0 + i = omega arith in ap (slice_get steps) (sym same) ∙ there) (empty-start steps set script.schema) in
    let same = walk-same mode set 0 steps begun (start script.schema) (record { committed = refl; last = refl; sets = refl; failed = refl }) in
    let there : slice_get end.control.committed n ≡ Some g = ap (λ (z : List Generation). slice_get z n) (same.committed ∙ ap (λ (c : Control). c.committed) (sym (flat mode (start script.schema) script.sections))) ∙ is in
    (all_at (From steps set end.lines s.next) s.elements (sound.old_is n g s there its).0.each place e at).1
