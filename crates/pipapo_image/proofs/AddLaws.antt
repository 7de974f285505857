-- An addition, decided by the lookups of the start key and the end key, or of the intervals.
use Rattle.std.proofs.Common.{◌≡◌, ◌+◌, refl, sym, ◌∙◌, ap, subst, ℕ, ◌^◌, Bool, true, false, ◌==◌, nat_le, nat_lt, List, [], ◌∷◌, length, Option, Some, None, Result, Ok, Err, arith}
use Rattle.std.specs.Prelude.{◌&&◌, ◌||◌, not, option_map, if◌then◌else◌, cond, IsErrAnd, find, position}
use Rattle.std.specs.List.{list_all}
use Rattle.std.specs.Option.{option_or}
use Rattle.std.proofs.lemmas.Bool.{and_parts, and_from}
use Rattle.std.proofs.lemmas.Bool.Decides.{nat_tests}
use Rattle.std.proofs.lemmas.List.{length-map}
use Rattle.std.specs.Global.{Vec}
use Rattle.set_model.specs.declared.block.Block.{Block}
use Rattle.set_model.specs.declared.kind.Kind.{Kind}
use Rattle.set_model.specs.declared.kind.Interval.{Interval}
use Rattle.set_model.specs.declared.element.Element.{Element}
use Rattle.set_model.specs.declared.element.NewElement.{NewElement}
use Rattle.set_model.specs.declared.report.Why.{Why}
use Rattle.set_model.specs.declared.report.Why.TheVariants.{Overlap, Full}
use Rattle.set_model.specs.Kind.{bits_of}
use Rattle.set_model.specs.Key.{parts_fit, intervals_fit, key_fits, values_fit, is_good, is_value, start_key, end_key, parts_hold, same_parts, parts_share}
use Rattle.set_model.specs.Expiry.{live}
use Rattle.set_model.specs.SetState.{State, add, add_by, answers, element_at, same_at, twin_place, place, sharing_place, is_sharing, crowded_field}
use Rattle.set_tables.proofs.RowLaws.{find-at, find-none, position-cons}
use Rattle.pipapo_image.specs.declared.answers.Added.{Added as Came}
use Rattle.pipapo_image.specs.declared.answers.ChangeError.{ChangeError}
use Rattle.pipapo_image.specs.declared.answers.ChangeError.TheVariants as errors
use Rattle.pipapo_image.specs.declared.image.decision.Decision.{Decision}
use Rattle.pipapo_image.specs.declared.image.decision.Decision.TheVariants.{Adds}
use Rattle.pipapo_image.specs.Image.Insert.{IsAnswer, addition_said}
use Rattle.pipapo_image.specs.Image.Decision.{IsDecision, comes, set_left}
use Rattle.pipapo_image.specs.Image.Deciding.{IsTest, add_if, by_start, by_way, by_size, by_twin, by_rules, at_start, add_new, add_again}
use Rattle.pipapo_image.proofs.ImageUse.{from-equal}

-- the first that shares a key, by its place
pub sharing-at : (s : State) (parts : List Interval) (now : ℕ) (o : Option ℕ) → sharing_place s parts now ≡ o → find (is_sharing parts now) s.elements ≡ option_map (element_at s) o
sharing-at s parts now None h = find-none (is_sharing parts now) s.elements h
sharing-at s parts now (Some i) h = find-at (is_sharing parts now) s.elements i (record { id = 0; parts = []; expiry = None; comment = [] }) h

-- ---- the cases of an addition
-- why a new element is refused, by who is in the way, whether the set is full, and which field is
-- crowded
abbrev refused_by : State → Option ℕ → Bool → Option ℕ → Option Why
refused_by s (Some i) full crowded = Some (Overlap (element_at s i).id)
refused_by s None full crowded = option_or (if full then Some Full else None) (by_rules crowded)

by-way : (s : State) (parts : List Interval) (full : Bool) (o : Option ℕ) → refused_by s o full (crowded_field s parts) ≡ by_way s parts full o
by-way s parts full None = refl
by-way s parts full (Some i) = refl

new-at-end : (s : State) (e : NewElement) (x at_end crowded : Option ℕ) (full : Bool) → add_by s e None x None at_end None full crowded ≡ add_new s e (refused_by s at_end full crowded)
new-at-end s e x (Some i) crowded full = refl
new-at-end s e x None crowded true = refl
new-at-end s e x None (Some f) false = refl
new-at-end s e x None None false = refl

new-apart : (s : State) (e : NewElement) (x sharing crowded : Option ℕ) (full : Bool) → add_by s e None x None None sharing full crowded ≡ add_new s e (refused_by s sharing full crowded)
new-apart s e x (Some i) crowded full = refl
new-apart s e x None crowded full = new-at-end s e x None crowded full

there-again : (s : State) (e : NewElement) (i : ℕ) (x at_start at_end sharing crowded : Option ℕ) (full : Bool) → add_by s e (Some i) x at_start at_end sharing full crowded ≡ add_again s x i
there-again s e i None at_start at_end sharing crowded full = refl
there-again s e i (Some m) at_start at_end sharing crowded full = refl

-- if elements may share keys, the element that holds the start key decides
start-decides : (s : State) (e : NewElement) (now : ℕ) (full : Bool) (o : Option ℕ)
    → add_by s e (same_at s e.parts o) e.expiry o (place s (end_key e.parts) now) None full (crowded_field s e.parts) ≡ by_start s e now full o
start-decides s e now full None =
    new-at-end s e e.expiry (place s (end_key e.parts) now) (crowded_field s e.parts) full ∙ ap (add_new s e) (by-way s e.parts full (place s (end_key e.parts) now))
start-decides s e now full (Some i) = go (same_parts (element_at s i).parts e.parts) where
  go : (t : Bool) → add_by s e (if t then Some i else None) e.expiry (Some i) (place s (end_key e.parts) now) None full (crowded_field s e.parts) ≡ at_start s i e.expiry t
  go true = there-again s e i e.expiry (Some i) (place s (end_key e.parts) now) None (crowded_field s e.parts) full
  go false = refl

pub add-by : (s : State) (e : NewElement) (now : ℕ) (full : Bool) → s.disjoint ≡ false → add_if full s e now ≡ by_start s e now full (place s (start_key e.parts) now)
add-by s e now full d =
    let at_start = place s (start_key e.parts) now in
    let at_end = place s (end_key e.parts) now in
    ap (λ t. add_by s e (same_at s e.parts at_start) e.expiry (if t then None else at_start) (if t then None else at_end) (if t then sharing_place s e.parts now else None) full (crowded_field s e.parts)) d
    ∙ start-decides s e now full at_start

-- in a disjoint set, the element that is there already
twin-decides : (s : State) (e : NewElement) (now : ℕ) (full : Bool) (o : Option ℕ)
    → add_by s e o e.expiry None None (sharing_place s e.parts now) full (crowded_field s e.parts) ≡ by_twin s e now full o
twin-decides s e now full None =
    new-apart s e e.expiry (sharing_place s e.parts now) (crowded_field s e.parts) full ∙ ap (add_new s e) (by-way s e.parts full (sharing_place s e.parts now))
twin-decides s e now full (Some i) = there-again s e i e.expiry None None (sharing_place s e.parts now) (crowded_field s e.parts) full

pub add-apart : (s : State) (e : NewElement) (now : ℕ) (full : Bool) → s.disjoint ≡ true → add_if full s e now ≡ by_twin s e now full (twin_place s e.parts now)
add-apart s e now full d =
    let at_start = place s (start_key e.parts) now in
    let at_end = place s (end_key e.parts) now in
    ap (λ t. add_by s e (twin_place s e.parts now) e.expiry (if t then None else at_start) (if t then None else at_end) (if t then sharing_place s e.parts now else None) full (crowded_field s e.parts)) d
    ∙ twin-decides s e now full (twin_place s e.parts now)

-- ---- intervals of one value each
-- They end with the key with which they start.
single-key : (parts : List Interval) → list_all (λ part. part.low == part.high) parts ≡ true → end_key parts ≡ start_key parts
single-key [] h = refl
single-key (p ∷ parts) h =
    let a = and_parts (p.low == p.high) (list_all (λ part. part.low == part.high) parts) h in
    ap (λ v. v ∷ end_key parts) (from-equal p.low p.high a.0) ∙ ap (λ vs. p.low ∷ vs) (single-key parts a.1)

-- If no element holds this key, no element is in the way.
pub single-way : (s : State) (parts : List Interval) (now : ℕ) (full : Bool) → list_all (λ part. part.low == part.high) parts ≡ true → place s (start_key parts) now ≡ None
    → by_way s parts full (place s (end_key parts) now) ≡ by_size s parts full
single-way s parts now full one none = ap (λ key. by_way s parts full (place s key now)) (single-key parts one) ∙ ap (by_way s parts full) none

-- They share a key with other intervals exactly if these hold their key.
single-shares : (parts others : List Interval) → list_all (λ part. part.low == part.high) others ≡ true → parts_share parts others ≡ parts_hold parts (start_key others)
single-shares [] others h = refl
single-shares (p ∷ parts) [] h = refl
single-shares (p ∷ parts) (o ∷ others) h =
    let a = and_parts (o.low == o.high) (list_all (λ part. part.low == part.high) others) h in
    ap (λ v. (nat_le p.low v && nat_le o.low p.high) && parts_share parts others) (from-equal o.low o.high a.0)
    ∙ ap (λ t. (nat_le p.low o.low && nat_le o.low p.high) && t) (single-shares parts others a.1)

-- So the first element that shares a key with them is the first that holds it.
single-place : (parts : List Interval) (now : ℕ) (es : List Element) → list_all (λ part. part.low == part.high) parts ≡ true
    → position (is_sharing parts now) es ≡ position (answers (start_key parts) now) es
single-place parts now [] one = refl
single-place parts now (e ∷ es) one =
    position-cons (is_sharing parts now) e es
    ∙ ap (λ t. cond (live e now && t) (Some 0) (option_map (λ i. 1 + i) (position (is_sharing parts now) es))) (single-shares e.parts parts one)
    ∙ ap (λ o. cond (answers (start_key parts) now e) (Some 0) (option_map (λ i. 1 + i) o)) (single-place parts now es one)
    ∙ sym (position-cons (answers (start_key parts) now) e es)

-- In a disjoint set, too, the element that holds the one key decides.
single-decides : (s : State) (e : NewElement) (now : ℕ) (full : Bool) (o : Option ℕ) → list_all (λ part. part.low == part.high) e.parts ≡ true → place s (start_key e.parts) now ≡ o
    → by_twin s e now full (same_at s e.parts o) ≡ by_start s e now full o
single-decides s e now full None one is =
    ap (λ z. add_new s e (by_way s e.parts full z)) (single-place e.parts now s.elements one ∙ ap (λ key. place s key now) (sym (single-key e.parts one)))
single-decides s e now full (Some i) one is = go (same_parts (element_at s i).parts e.parts) where
  go : (t : Bool) → by_twin s e now full (if t then Some i else None) ≡ at_start s i e.expiry t
  go true = refl
  go false = ap (λ z. add_new s e (by_way s e.parts full z)) (single-place e.parts now s.elements one ∙ is)

by-ends : (s : State) (e : NewElement) (now : ℕ) (full t : Bool) → s.disjoint ≡ t → (not t || list_all (λ part. part.low == part.high) e.parts) ≡ true
    → add_if full s e now ≡ by_start s e now full (place s (start_key e.parts) now)
by-ends s e now full false is h = add-by s e now full is
by-ends s e now full true is h = add-apart s e now full is ∙ single-decides s e now full (place s (start_key e.parts) now) h refl

-- ---- what is decided
-- If elements may share keys, or if the intervals hold one key alone, the places of the start key
-- and the end key decide.
pub decision_by : (s : State) (e : NewElement) (now : ℕ) (full : Bool) (r : Result Decision ChangeError) → (not s.disjoint || list_all (λ part. part.low == part.high) e.parts) ≡ true
    → IsDecision s e (by_start s e now full (place s (start_key e.parts) now)) r → IsDecision s e (add_if full s e now) r
decision_by s e now full r d h = subst (λ z. IsDecision s e z r) (sym (by-ends s e now full s.disjoint refl d)) h

-- Otherwise the place of the element that is there already decides.
pub decision_apart : (s : State) (e : NewElement) (now : ℕ) (full : Bool) (r : Result Decision ChangeError) → (not s.disjoint || list_all (λ part. part.low == part.high) e.parts) ≡ false
    → IsDecision s e (by_twin s e now full (twin_place s e.parts now)) r → IsDecision s e (add_if full s e now) r
decision_apart s e now full r d h = go s.disjoint refl d where
  go : (t : Bool) → s.disjoint ≡ t → (not t || list_all (λ part. part.low == part.high) e.parts) ≡ false → IsDecision s e (add_if full s e now) r
  go false is d = absurd (cc d)
  go true is d = subst (λ z. IsDecision s e z r) (sym (add-apart s e now full is)) h

-- Whether an element is there already decides.
pub decision_twin : (s : State) (e : NewElement) (now : ℕ) (full : Bool) (o : Option ℕ) (r : Result Decision ChangeError) → o ≡ twin_place s e.parts now
    → IsDecision s e (by_twin s e now full o) r → IsDecision s e (by_twin s e now full (twin_place s e.parts now)) r
decision_twin s e now full o r at h = subst (λ z. IsDecision s e (by_twin s e now full z) r) at h

-- The element that holds the start key decides.
pub decision_at : (s : State) (e : NewElement) (now : ℕ) (full : Bool) (i : ℕ) (r : Result Decision ChangeError) → Some i ≡ place s (start_key e.parts) now
    → IsDecision s e (at_start s i e.expiry (same_parts (element_at s i).parts e.parts)) r → IsDecision s e (by_start s e now full (place s (start_key e.parts) now)) r
decision_at s e now full i r at h = subst (λ o. IsDecision s e (by_start s e now full o) r) at h

-- If nothing refuses the element, it is new.
pub adds : (s : State) (e : NewElement) (why : Option Why) (columns : Vec (List Block)) → IsTest s e.parts why (Ok columns) → IsDecision s e (add_new s e why) (Ok (Adds columns))
adds s e why columns h = (h.1, ap (add_new s e) h.0)

pub adds_none : (s : State) (e : NewElement) (why : Option Why) (error : ChangeError) → IsTest s e.parts why (Err error) → IsDecision s e (add_new s e why) (Err error)
adds_none s e why (errors.Refused cause) h = ap (add_new s e) h
adds_none s e why errors.Memory h = tt

pub ruleset decides = (adds, adds_none)

-- ---- what follows from a decision
-- If something is done, the call returns it.
pub done : (s t : State) (e : NewElement) (now : ℕ) (decision : Decision) (came : Came) → IsDecision s e (add s e now) (Ok decision)
    → addition_said came ≡ comes decision s.next → t ≡ set_left s e decision → IsAnswer (add s e now) (Ok came) s t
done s t e now decision came h a b = (a ∙ ap (λ z. z.0) (sym h.1), b ∙ ap (λ z. z.1) (sym h.1))

-- A refusal leaves the set.
refused_as : (s : State) (e : NewElement) (now : ℕ) (error : ChangeError) → IsDecision s e (add s e now) (Err error) → IsAnswer (add s e now) (Err error) s s
refused_as s e now (errors.Refused why) h = (ap (λ z. z.0) (sym h), ap (λ z. z.1) (sym h))
refused_as s e now errors.Memory h = refl

pub refused : (s : State) (e : NewElement) (now : ℕ) (r : Result Came ChangeError) (error : ChangeError) → IsErrAnd r (λ z. z ≡ error)
    → IsDecision s e (add s e now) (Err error) → IsAnswer (add s e now) r s s
refused s e now (Ok came) error is h = absurd is
refused s e now (Err f) error is h = subst (λ z. IsAnswer (add s e now) (Err z) s s) (sym is) (refused_as s e now error h)

-- ---- the keys of intervals that fit
lt-from : (m n k : ℕ) → nat_le m n ≡ true → nat_lt n k ≡ true → nat_lt m k ≡ true
lt-from m n k a b = grind (arith, nat_tests)

ends-fit : (kinds : List Kind) (parts : List Interval) → intervals_fit kinds parts ≡ true → values_fit kinds (end_key parts) ≡ true
ends-fit [] parts h = refl
ends-fit (k ∷ kinds) [] h = refl
ends-fit (k ∷ kinds) (p ∷ parts) h =
    let a = and_parts (is_good k p) (intervals_fit kinds parts) h in
    let b = and_parts (nat_le p.low p.high) (is_value k p.high) a.0 in
    and_from (is_value k p.high) (values_fit kinds (end_key parts)) b.1 (ends-fit kinds parts a.1)

starts-fit : (kinds : List Kind) (parts : List Interval) → intervals_fit kinds parts ≡ true → values_fit kinds (start_key parts) ≡ true
starts-fit [] parts h = refl
starts-fit (k ∷ kinds) [] h = refl
starts-fit (k ∷ kinds) (p ∷ parts) h =
    let a = and_parts (is_good k p) (intervals_fit kinds parts) h in
    let b = and_parts (nat_le p.low p.high) (is_value k p.high) a.0 in
    and_from (is_value k p.low) (values_fit kinds (start_key parts)) (lt-from p.low p.high (2 ^ bits_of k) b.0 b.1) (starts-fit kinds parts a.1)

pub end-fits : (kinds : List Kind) (parts : List Interval) → parts_fit kinds parts ≡ true → key_fits kinds (end_key parts) ≡ true
end-fits kinds parts h =
    let a = and_parts (length kinds == length parts) (intervals_fit kinds parts) h in
    and_from (length kinds == length (end_key parts)) (values_fit kinds (end_key parts)) (ap (λ n. length kinds == n) (length-map parts (λ part. part.high)) ∙ a.0) (ends-fit kinds parts a.1)

pub start-fits : (kinds : List Kind) (parts : List Interval) → parts_fit kinds parts ≡ true → key_fits kinds (start_key parts) ≡ true
start-fits kinds parts h =
    let a = and_parts (length kinds == length parts) (intervals_fit kinds parts) h in
    and_from (length kinds == length (start_key parts)) (values_fit kinds (start_key parts)) (ap (λ n. length kinds == n) (length-map parts (λ part. part.low)) ∙ a.0) (starts-fit kinds parts a.1)
