-- Worked examples of the definitions. They compute, so the proof check refuses a wrong number.
use Rattle.std.specs.Prelude.{◌≡◌, refl, ℕ, zero, suc, ◌+◌, ◌-◌, ◌^◌, List, [], ◌∷◌, map, Some, None, Option, Bool, length, true, false, codes}
use Rattle.std.proofs.Common.{ap, ◌∙◌, arith}
use Rattle.std.specs.List.{position_or_len}
use Rattle.std.specs.Fmt.{digits}
use Rattle.set_model.specs.declared.kind.Kind.TheVariants.{Service}
use Rattle.set_model.specs.declared.kind.Interval.{Interval}
use Rattle.set_model.specs.declared.element.Element.{Element}
use Rattle.set_model.specs.declared.element.NewElement.{NewElement}
use Rattle.set_model.specs.declared.report.Why.TheVariants.{Overlap, Exists, Missing, Full, RulesFull}
use Rattle.set_model.specs.declared.report.Event.TheVariants.{Refused, Committed, Aborted, Dropped}
use Rattle.set_model.specs.declared.report.Line.{Line}
use Rattle.set_model.specs.declared.packet.Verdict.TheVariants as verdicts
use Rattle.set_model.specs.declared.packet.Packet.{Packet}
use Rattle.set_model.specs.declared.script.Step.TheVariants.{Change, Commit, Abort}
use Rattle.set_model.specs.declared.script.Step.{Step}
use Rattle.set_model.specs.declared.script.Script.{Script}
use Rattle.set_model.specs.declared.script.SetDecl.{SetDecl}
use Rattle.set_model.specs.declared.script.Family.TheVariants.{Ip}
use Rattle.set_model.specs.declared.script.Verb.TheVariants.{Add, Create, Delete, Destroy}
use Rattle.set_model.specs.SetState.{State, New, Already, Renewed, Refused as IsRefused, add, removed, purged, cleared, empty_set, place, answers, field_rules}
use Rattle.set_model.specs.Apart.{is_apart}
use Rattle.set_model.specs.Blocks.{blocks}
use Rattle.set_model.specs.Control.{Strict, KeepGoing, history}
use Rattle.set_model.specs.Text.{transcript_text}

-- the intervals of a set of ports
abbrev ports : ℕ → ℕ → List Interval
ports low high = record { low = low; high = high } ∷ []

abbrev port : ℕ → List Interval
port n = ports n n

-- the ids of a set's elements
abbrev ids : State → List ℕ
ids s = map (λ e. e.id) s.elements

-- an answer, and the ids of the set that it leaves
abbrev of_ports : Bool → State
of_ports disjoint = empty_set (Service ∷ []) None disjoint

-- an element of these intervals without a comment
abbrev element : List Interval → Option ℕ → NewElement
element parts expiry = record { parts = parts; expiry = expiry; comment = [] }

-- a set after an addition at moment 0
abbrev plus : State → List Interval → Option ℕ → State
plus s parts expiry = (add s (element parts expiry) 0).1

-- 10-20 and then 5-30: neither end of the second is in the first, so the second is added.
encloses : (add (plus (of_ports false) (ports 10 20) None) (element (ports 5 30) None) 0).0 ≡ New 1
encloses = refl

-- 5-30 and then 10-20: the start of the second is in the first.
overlaps : (add (plus (of_ports false) (ports 5 30) None) (element (ports 10 20) None) 0).0 ≡ IsRefused (Overlap 0)
overlaps = refl

-- 5-30 and then 1-10: the end of the second is in the first.
overlaps_at_end : (add (plus (of_ports false) (ports 5 30) None) (element (ports 1 10) None) 0).0 ≡ IsRefused (Overlap 0)
overlaps_at_end = refl

-- The set has 10-20 and then 5-30. A lookup of 15 finds the earlier inserted one, and a lookup of
-- 25 the other one.
abbrev two_ranges : State
two_ranges = plus (plus (of_ports false) (ports 10 20) None) (ports 5 30) None

earliest : map (λ key. place two_ranges key 0) ((15 ∷ []) ∷ (7 ∷ []) ∷ (30 ∷ []) ∷ (31 ∷ []) ∷ []) ≡ Some 0 ∷ Some 1 ∷ Some 1 ∷ None ∷ []
earliest = refl

-- The same interval again is there already. With an expiry it is renewed and keeps its place.
already : (add two_ranges (element (ports 5 30) None) 0).0 ≡ Already 1
already = refl

renewed : (add (plus two_ranges (port 80) (Some 30000)) (element (port 80) (Some 50000)) 20000).0 ≡ Renewed 2
renewed = refl

renewed_expiry : map (λ e. e.expiry) (add (plus two_ranges (port 80) (Some 30000)) (element (port 80) (Some 50000)) 20000).1.elements ≡ None ∷ None ∷ Some 50000 ∷ []
renewed_expiry = refl

-- An expired element is in nobody's way, but counts towards the size.
expired_is_added : (add (plus (of_ports false) (port 80) (Some 30000)) (element (port 80) None) 30000).0 ≡ New 1
expired_is_added = refl

full : (add (plus (empty_set (Service ∷ []) (Some 1) false) (port 80) (Some 30000)) (element (port 81) None) 30000).0 ≡ IsRefused Full
full = refl

-- A field has at most 1,048,576 rules. That many elements of port 80, each expired at once, have
-- one rule each. They are in nobody's way, but count.
expired_from : ℕ → ℕ → List Element
expired_from id zero = []
expired_from id (suc n) = record { id = id; parts = port 80; expiry = Some 0; comment = [] } ∷ expired_from (id + 1) n

abbrev expired_ports : ℕ → State
expired_ports n = record (of_ports false) { elements = expired_from 0 n; next = n }

expired_rules : (id n : ℕ) → length (field_rules (Service ∷ []) 0 (expired_from id n)) ≡ n
unfolding expired_from
expired_rules id zero = refl
expired_rules id (suc n) = ap suc (expired_rules (id + 1) n)

none_answers : (id n : ℕ) (key : List ℕ) → position_or_len (answers key 0) (expired_from id n) ≡ n
unfolding expired_from
none_answers id zero key = refl
none_answers id (suc n) key = ap (λ k. 1 + k) (none_answers (id + 1) n key) ∙ omega arith

so_many : (id n : ℕ) → length (expired_from id n) ≡ n
unfolding expired_from
so_many id zero = refl
so_many id (suc n) = ap suc (so_many (id + 1) n)

too_many_rules : (add (expired_ports 1048576) (element (port 80) None) 0).0 ≡ IsRefused (RulesFull 0)
too_many_rules = simp (none_answers, so_many, expired_rules) refl

as_many_as_may_be : (add (expired_ports 1048575) (element (port 80) None) 0).0 ≡ New 1048575
as_many_as_may_be = simp (none_answers, so_many, expired_rules) refl

-- A disjoint set refuses every shared key, but not neighbours.
shared_key : (add (plus (of_ports true) (ports 10 20) None) (element (ports 5 30) None) 0).0 ≡ IsRefused (Overlap 0)
shared_key = refl

neighbours : (add (plus (of_ports true) (ports 10 20) None) (element (ports 5 9) None) 0).0 ≡ New 1
neighbours = refl

-- A disjoint set has 10-20, which expires at 30,000, and 5-30, which was added at that moment. From
-- then on they share no key. At an earlier moment both are live and share 15.
abbrev added_behind : State
added_behind = (add (plus (of_ports true) (ports 10 20) (Some 30000)) (element (ports 5 30) None) 30000).1

apart_from_then_on : map (is_apart added_behind) (30000 ∷ 30001 ∷ []) ≡ true ∷ true ∷ []
apart_from_then_on = refl

not_apart_before : is_apart added_behind 29999 ≡ false
not_apart_before = refl

-- If moments fall, a renewal at the earlier moment keeps both live at the later one, too.
renewed_before : is_apart (add added_behind (element (ports 10 20) (Some 50000)) 29999).1 30000 ≡ false
renewed_before = refl

-- An element with an expiry of 30,000 is live at 29,999 and expired at 30,000.
abbrev timed : State
timed = plus (of_ports false) (port 80) (Some 30000)

before_expiry : place timed (80 ∷ []) 29999 ≡ Some 0
before_expiry = refl

at_expiry : place timed (80 ∷ []) 30000 ≡ None
at_expiry = refl

-- A purge removes expired elements, a new element gets the next id, and ids go on after a flush.
purged_ids : ids (purged timed 29999) ≡ 0 ∷ []
purged_ids = refl

purged_and_added : ids (plus (purged timed 30000) (port 80) None) ≡ 1 ∷ []
purged_and_added = refl

cleared_and_added : ids (plus (cleared two_ranges) (port 82) None) ≡ 2 ∷ []
cleared_and_added = refl

-- A removal names exact intervals.
removed_id : removed two_ranges (ports 5 30) 0 ≡ Some (1, record two_ranges { elements = (plus (of_ports false) (ports 10 20) None).elements })
removed_id = refl

removed_missing : removed two_ranges (ports 5 31) 0 ≡ None
removed_missing = refl

-- The interval from 1 to 254 has fourteen blocks, and 1024 to 65535 has six. All eight bits are one
-- block, and so are all 128 bits.
fourteen : map (λ b. b.base) (blocks 1 254 8) ≡ 1 ∷ 2 ∷ 4 ∷ 8 ∷ 16 ∷ 32 ∷ 64 ∷ 128 ∷ 192 ∷ 224 ∷ 240 ∷ 248 ∷ 252 ∷ 254 ∷ []
fourteen = refl

fourteen_free : map (λ b. b.free_bits) (blocks 1 254 8) ≡ 0 ∷ 1 ∷ 2 ∷ 3 ∷ 4 ∷ 5 ∷ 6 ∷ 6 ∷ 5 ∷ 4 ∷ 3 ∷ 2 ∷ 1 ∷ 0 ∷ []
fourteen_free = refl

whole_byte : blocks 0 255 8 ≡ (record { base = 0; free_bits = 8 }) ∷ []
whole_byte = refl

high_ports : map (λ b. b.free_bits) (blocks 1024 65535 16) ≡ 10 ∷ 11 ∷ 12 ∷ 13 ∷ 14 ∷ 15 ∷ []
high_ports = refl

whole_ipv6 : blocks 0 (2 ^ 128 - 1) 128 ≡ (record { base = 0; free_bits = 128 }) ∷ []
whole_ipv6 = refl

inner_ipv6 : length (blocks 1 (2 ^ 128 - 2) 128) ≡ 254
inner_ipv6 = refl

-- the sets of ports `ip t p` and `ip t q` of scripts
abbrev declared_set : List ℕ → SetDecl
declared_set name = record { family = Ip; table = codes "t"; name = name; kinds = Service ∷ []; interval = true; timed = true; disjoint = false; timeout = None; size = None }

abbrev one_set : List SetDecl
one_set = declared_set (codes "p") ∷ []

abbrev added : ℕ → List Interval → Step
added line parts = Change line 0 Add (element parts None) 0

-- A refused change ends the transaction in strict mode. If the run keeps going, the change is
-- skipped.
abbrev overlapping : List Step
overlapping = added 2 (ports 5 30) ∷ added 3 (ports 10 20) ∷ added 4 (port 80) ∷ Commit 0 ∷ []

strict_events : (history Strict one_set (overlapping ∷ [])).events ≡ Refused 3 0 (Overlap 0) ∷ Dropped 0 ∷ []
strict_events = refl

strict_generations : length (history Strict one_set (overlapping ∷ [])).committed ≡ 1
strict_generations = refl

going_events : (history KeepGoing one_set (overlapping ∷ [])).events ≡ Refused 3 0 (Overlap 0) ∷ Committed 1 0 ∷ []
going_events = refl

going_ids : map ids (history KeepGoing one_set (overlapping ∷ [])).last.sets ≡ (0 ∷ 1 ∷ []) ∷ []
going_ids = refl

-- An abort takes the open changes back.
aborted : (history Strict one_set ((added 2 (port 80) ∷ Commit 0 ∷ added 4 (port 81) ∷ Abort ∷ Commit 0 ∷ []) ∷ [])).events
    ≡ Committed 1 0 ∷ Aborted 1 ∷ Committed 2 0 ∷ []
aborted = refl

aborted_ids : map ids (history Strict one_set ((added 2 (port 80) ∷ Commit 0 ∷ added 4 (port 81) ∷ Abort ∷ Commit 0 ∷ []) ∷ [])).last.sets ≡ (0 ∷ []) ∷ []
aborted_ids = refl

-- `create` refuses an element that exists, `delete` a missing one, and `destroy` neither.
created_twice : (history Strict one_set ((added 2 (port 80) ∷ Change 3 0 Create (element (port 80) None) 0 ∷ Commit 0 ∷ []) ∷ [])).events ≡ Refused 3 0 (Exists 0) ∷ Dropped 0 ∷ []
created_twice = refl

destroyed_and_deleted : (history Strict one_set ((Change 2 0 Destroy (element (port 80) None) 0 ∷ Change 3 0 Delete (element (port 80) None) 0 ∷ Commit 0 ∷ []) ∷ [])).events ≡ Refused 3 0 Missing ∷ Dropped 0 ∷ []
destroyed_and_deleted = refl

-- A commit purges, and its event has the number of purged elements.
purged_at_commit : (history Strict one_set ((Change 2 0 Add (element (port 80) (Some 30000)) 0 ∷ Commit 0 ∷ Change 4 0 Add (element (port 80) None) 30000 ∷ Commit 30000 ∷ []) ∷ [])).events
    ≡ Committed 1 0 ∷ Committed 2 1 ∷ []
purged_at_commit = refl

-- A change of one set leaves the other unchanged.
abbrev two_sets : List SetDecl
two_sets = declared_set (codes "p") ∷ declared_set (codes "q") ∷ []

other_untouched : map ids (history Strict two_sets ((added 3 (port 80) ∷ Change 4 1 Add (element (port 6) None) 0 ∷ Commit 0 ∷ Change 6 0 Delete (element (port 80) None) 0 ∷ Commit 0 ∷ []) ∷ [])).last.sets ≡ [] ∷ (0 ∷ []) ∷ []
other_untouched = refl

-- The text of a run that commits two elements. Of two packets one matches.
abbrev small_script : Script
small_script = record { schema = one_set; sections = (added 2 (port 80) ∷ added 3 (port 81) ∷ Commit 0 ∷ []) ∷ []; last = 0 }

abbrev small_keys : List (List Packet)
small_keys = ((record { set = 0; key = 81 ∷ []; now = 0 }) ∷ (record { set = 0; key = 82 ∷ []; now = 0 }) ∷ []) ∷ []

abbrev small_lines : List Line
small_lines = (record { packet = 0; thread = 0; generation = 1; verdict = verdicts.Element 1 }) ∷ (record { packet = 1; thread = 0; generation = 1; verdict = verdicts.None }) ∷ []

small_text : transcript_text Strict small_script small_keys small_lines
    ≡ codes "commit generation 1 purged 0\npacket 0 thread 0 generation 1 element 1\npacket 1 thread 0 generation 1 none\n"
unfolding digits
small_text = refl

-- A refused change names its line and set.
refused_text : transcript_text Strict (record { schema = one_set; sections = overlapping ∷ []; last = 0 }) [] [] ≡ codes "line 3 refused overlap ip t p element 0\nfail generation 0\n"
unfolding digits
refused_text = refl
