-- What a listing says of a set at a moment, and the set that it gives when it is read.
use Rattle.std.specs.Prelude.{◌≡◌, ℕ, ◌+◌, ◌-◌, ◌++◌, ◌<◌, ◌≤◌, ◌^◌, Bool, true, false, ◌||◌, if◌then◌else◌, List, [], ◌∷◌, length, map, fold, Option, option_map, IfSome}
use Rattle.std.specs.List.{AllPairs}
use Rattle.set_model.specs.declared.kind.Interval.{Interval}
use Rattle.set_model.specs.declared.element.Element.{Element}
use Rattle.set_model.specs.declared.element.NewElement.{NewElement}
use Rattle.set_model.specs.Key.{start_key, end_key}
use Rattle.set_model.specs.Expiry.{live}
use Rattle.set_model.specs.SetState.{State, Addition, empty_set, holds, first, shares, field_rules, rules_limit, add, purged}
use Rattle.set_model.specs.SetState.Addition.{New}

-- how long until an expiry, and 0 if it has passed
abbrev pub left : ℕ → Option ℕ → Option ℕ
left now expiry = option_map (λ t. t - now) expiry

-- An element as its listing says it: an addition at moment 0 of the same intervals and the same comment, which expires
-- after the time that is left.
abbrev pub relisted : ℕ → Element → NewElement
relisted now e = record { parts = e.parts; expiry = left now e.expiry; comment = e.comment }

-- an element with this id, after its listing is read
abbrev pub read_back : ℕ → ℕ → Element → Element
read_back now id e = record { id = id; parts = e.parts; expiry = left now e.expiry; comment = e.comment }

-- Elements in their order, with ids from this one on.
abbrev pub all_read_back : ℕ → ℕ → List Element → List Element
all_read_back now id [] = []
all_read_back now id (e ∷ es) = read_back now id e ∷ all_read_back now (id + 1) es

-- The set that a listing gives before its commit: all elements, and the ids after them.
abbrev pub before_commit : State → ℕ → State
before_commit s now = record { kinds = s.kinds; size = s.size; disjoint = s.disjoint; elements = all_read_back now 0 s.elements; next = length s.elements }

-- An addition at moment 0 after others: the outcomes so far, and the set.
abbrev pub added : List Addition × State → NewElement → List Addition × State
added (outcomes, s) e = let r = add s e 0 in (outcomes ++ r.0 ∷ [], r.1)

-- new elements with ids from this one on
abbrev pub all_new : ℕ → List Element → List Addition
all_new id [] = []
all_new id (e ∷ es) = New id ∷ all_new (id + 1) es

-- An element is in the way of an addition of these intervals, as long as it is live.
abbrev pub is_in_the_way : Bool → Element → List Interval → Bool
is_in_the_way disjoint e parts = holds e (start_key parts) || (if disjoint then shares e parts else holds e (end_key parts))

-- The set is such as additions make it at rising moments up to this one: no element that is live then is in the way of a
-- later one, and the set is within its limits.
pub record IsGrown (now : ℕ) (s : State) : Type 0 where
  pub free : AllPairs (λ e f. live e now ≡ true → is_in_the_way s.disjoint e f.parts ≡ false) s.elements
  pub sized : IfSome s.size (λ size. length s.elements ≤ size)
  pub numbered : (length s.elements ≤ s.next) × (s.next < 2 ^ 64)
  pub short : (f : ℕ) → length (field_rules s.kinds f s.elements) ≤ rules_limit

-- The elements of a listing are new, one after another, and give the set's elements in their order. The commit then
-- removes those that have no time left. They are the ones that are expired at the moment of the listing. From then on a
-- lookup finds what it would have found in the listed set so much after the listing.
pub record ReadsBack (now : ℕ) (s : State) : Type 0 where
  pub all : fold added ([], empty_set s.kinds s.size s.disjoint) (map (relisted now) s.elements) ≡ (all_new 0 s.elements, before_commit s now)
  pub lives : map (relisted 0) (purged (before_commit s now) 0).elements ≡ map (relisted now) (purged s now).elements
  pub finds : (key : List ℕ) (more : ℕ) → option_map (relisted more) (first (purged (before_commit s now) 0) key more) ≡ option_map (relisted (now + more)) (first s key (now + more))

-- What the law says: each set that is grown reads back.
abbrev pub GrownReadsBack : Type 0
GrownReadsBack = (now : ℕ) (s : State) → IsGrown now s → ReadsBack now s
