-- No value of a listing is a float.
use Rattle.std.proofs.Common.{◌≡◌, refl, ◌∙◌, ap, ℕ, List, [], ◌∷◌, ◌++◌, map, flat_map, filter, Bool, true, false, ◌||◌, if◌then◌else◌, nat_lt, Option, Some, None, codes, bytes_eq, decimal, Ordering, Less, Equal, Greater}
use Rattle.std.specs.Prelude.{option_map, ◌==◌, ◌&&◌}
use Rattle.std.specs.List.{zip}
use Rattle.std.specs.Ordering.{nat_cmp, match_ordering}
use Rattle.std.specs.Cmp.Lexicographic.{slice_cmp}
use Rattle.serde_json.specs.Data.{Data, Members, Items, object, array, member, no_members, put}
use Rattle.serde_json.specs.View.{items_of}
use Rattle.serde_json.specs.Written.{has_float, items_have_float, members_have_float}
use Rattle.set_model.specs.declared.element.Element.{Element}
use Rattle.set_model.specs.declared.kind.Kind.{Kind}
use Rattle.set_model.specs.declared.kind.Kind.TheVariants.{Ipv4, Ipv6, Ether, Proto, Service, Mark}
use Rattle.set_model.specs.declared.kind.Interval.{Interval}
use Rattle.set_model.specs.declared.script.SetDecl.{SetDecl}
use Rattle.set_model.specs.SetState.{State}
use Rattle.set_model.specs.Text.{family_text}
use Rattle.addr_text.specs.Written.{value_text, is_address, is_whole_block}
use Rattle.set_report.specs.ListText.{gives_life, flag_if, first_sets, sets_beside}
use Rattle.list_json.specs.JsonValues.{number_data, text_data, list_data, named, number_or_text, value_data, end_data, prefix_data, range_data, interval_data, concat_data, intervals_data}
use Rattle.list_json.specs.JsonSets.{seconds_left, timeout_seconds, given_seconds, lasts, with_left, with_life, with_comment, beside_intervals, with_intervals, element_data, kind_data, type_data, with_list, with_number, flags_data, table_place, with_type, with_options, declaration, elements_data, set_data, table_data, table_and_sets, metainfo, ruleset_data}

-- a value without floats, and members without floats
abbrev Plain : Data → Type 0
Plain d = has_float d ≡ false

abbrev AllPlain : Members → Type 0
AllPlain ms = members_have_float ms ≡ false

-- values without floats
abbrev Plains : List Data → Type 0
Plains ds = items_have_float (items_of ds) ≡ false

neither : (a b : Bool) → a ≡ false → b ≡ false → (a || b) ≡ false
neither a b h k = (λ j. h j || k j)

both-none : (a b : Bool) → (a || b) ≡ false → (a ≡ false) × (b ≡ false)
both-none true b h = absurd (cc h)
both-none false b h = (refl, h)

-- a member at its place
placed-plain : (o : Ordering) (k l : List ℕ) (d e : Data) (ms more : Members) → Plain d → Plain e → AllPlain ms → AllPlain more → AllPlain (match_ordering o (member k d (member l e ms)) (member l d ms) (member l e more))
placed-plain Less k l d e ms more h g none rest = neither (has_float d) (members_have_float (member l e ms)) h (neither (has_float e) (members_have_float ms) g none)
placed-plain Equal k l d e ms more h g none rest = neither (has_float d) (members_have_float ms) h none
placed-plain Greater k l d e ms more h g none rest = neither (has_float e) (members_have_float more) g rest

put-plain : (k : List ℕ) (d : Data) (ms : Members) → Plain d → AllPlain ms → AllPlain (put k d ms)
put-plain k d no_members h none = neither (has_float d) false h refl
put-plain k d (member l e ms) h none =
    let parts = both-none (has_float e) (members_have_float ms) none in
    placed-plain (slice_cmp nat_cmp k l) k l d e ms (put k d ms) h parts.0 parts.1 (put-plain k d ms h parts.1)

named-plain : (k : List ℕ) (d : Data) → Plain d → Plain (named k d)
named-plain k d h = neither (has_float d) false h refl

one-plain : (d : Data) (ds : List Data) → Plain d → Plains ds → Plains (d ∷ ds)
one-plain d ds h k = neither (has_float d) (items_have_float (items_of ds)) h k

map-plain : {X : Type 0} (f : X → Data) → ((x : X) → Plain (f x)) → (xs : List X) → Plains (map f xs)
map-plain f each [] = refl
map-plain f each (x ∷ xs) = one-plain (f x) (map f xs) (each x) (map-plain f each xs)

more-plain : (ds es : List Data) → Plains ds → Plains es → Plains (ds ++ es)
more-plain [] es h k = k
more-plain (d ∷ ds) es h k =
    let parts = both-none (has_float d) (items_have_float (items_of ds)) h in
    one-plain d (ds ++ es) parts.0 (more-plain ds es parts.1 k)

flat-plain : {X : Type 0} (f : X → List Data) → ((x : X) → Plains (f x)) → (xs : List X) → Plains (flat_map f xs)
flat-plain f each [] = refl
flat-plain f each (x ∷ xs) = more-plain (f x) (flat_map f xs) (each x) (flat-plain f each xs)

digits-plain : (n : ℕ) (text : List ℕ) → Plain (number_or_text n text)
digits-plain n text = go (bytes_eq text (decimal n)) where
  go : (b : Bool) → Plain (if b then number_data n else text_data text)
  go true = refl
  go false = refl

value-plain : (kind : Kind) (n : ℕ) → Plain (value_data kind n)
value-plain Ipv4 n = refl
value-plain Ipv6 n = refl
value-plain Ether n = refl
value-plain Proto n = digits-plain n (value_text Proto n)
value-plain Service n = refl
value-plain Mark n = refl

end-plain : (kind : Kind) (n : ℕ) → Plain (end_data kind n)
end-plain Ipv4 n = refl
end-plain Ipv6 n = refl
end-plain Ether n = refl
end-plain Proto n = refl
end-plain Service n = refl
end-plain Mark n = refl

prefix-plain : (kind : Kind) (part : Interval) → Plain (prefix_data kind part)
prefix-plain kind part = neither (has_float (value_data kind part.low) || false) false (neither (has_float (value_data kind part.low)) false (value-plain kind part.low) refl) refl

range-plain : (kind : Kind) (part : Interval) → Plain (range_data kind part)
range-plain kind part =
    named-plain (codes "range") (list_data (end_data kind part.low ∷ end_data kind part.high ∷ [])) (one-plain (end_data kind part.low) (end_data kind part.high ∷ []) (end-plain kind part.low) (one-plain (end_data kind part.high) [] (end-plain kind part.high) refl))

interval-plain : (kind : Kind) (part : Interval) → Plain (interval_data kind part)
interval-plain kind part = go (part.low == part.high) (is_address kind && is_whole_block kind part) where
  go : (a b : Bool) → Plain (if a then value_data kind part.low else (if b then prefix_data kind part else range_data kind part))
  go true b = value-plain kind part.low
  go false true = prefix-plain kind part
  go false false = range-plain kind part

concat-plain : (ds : List Data) → Plains ds → Plain (concat_data ds)
concat-plain [] h = refl
concat-plain (d ∷ []) h = (both-none (has_float d) false h).0
concat-plain (d ∷ e ∷ ds) h = named-plain (codes "concat") (list_data (d ∷ e ∷ ds)) h

intervals-plain : (kinds : List Kind) (parts : List Interval) → Plain (intervals_data kinds parts)
intervals-plain kinds parts = concat-plain (map (λ p. interval_data p.0 p.1) (zip kinds parts)) (map-plain (λ (p : Kind × Interval). interval_data p.0 p.1) (λ p. interval-plain p.0 p.1) (zip kinds parts))

left-plain : (d : SetDecl) (left : ℕ) (ms : Members) → AllPlain ms → AllPlain (with_left d left ms)
left-plain d left ms h = put-plain (codes "expires") (number_data left) (if nat_lt (given_seconds d) left then put (codes "timeout") (number_data left) ms else ms) refl (go (nat_lt (given_seconds d) left)) where
  go : (b : Bool) → AllPlain (if b then put (codes "timeout") (number_data left) ms else ms)
  go true = put-plain (codes "timeout") (number_data left) ms refl h
  go false = h

life-plain : (d : SetDecl) (now : ℕ) (expiry : Option ℕ) (ms : Members) → AllPlain ms → AllPlain (with_life d now expiry ms)
life-plain d now (Some expiry) ms h = left-plain d (seconds_left now expiry) ms h
life-plain d now None ms h = go (gives_life d) where
  go : (b : Bool) → AllPlain (if b then put (codes "timeout") (number_data 0) ms else ms)
  go true = put-plain (codes "timeout") (number_data 0) ms refl h
  go false = h

comment-plain : (comment : List ℕ) (ms : Members) → AllPlain ms → AllPlain (with_comment comment ms)
comment-plain [] ms h = h
comment-plain (byte ∷ bytes) ms h = put-plain (codes "comment") (text_data (byte ∷ bytes)) ms refl h

joined-plain : (d : Data) (ms : Members) → Plain d → AllPlain ms → Plain (with_intervals d ms)
joined-plain d no_members h k = h
joined-plain d (member l e ms) h k = named-plain (codes "elem") (object (put (codes "val") d (member l e ms))) (put-plain (codes "val") d (member l e ms) h k)

element-plain : (d : SetDecl) (now : ℕ) (e : Element) → Plain (element_data d now e)
element-plain d now e =
    joined-plain (intervals_data d.kinds e.parts) (beside_intervals d now e) (intervals-plain d.kinds e.parts) (comment-plain e.comment (with_life d now e.expiry no_members) (life-plain d now e.expiry no_members refl))

type-plain : (ds : List Data) → Plains ds → Plain (type_data ds)
type-plain [] h = refl
type-plain (d ∷ []) h = (both-none (has_float d) false h).0
type-plain (d ∷ e ∷ ds) h = h

list-plain : (key : List ℕ) (ds : List Data) (ms : Members) → Plains ds → AllPlain ms → AllPlain (with_list key ds ms)
list-plain key [] ms h k = k
list-plain key (d ∷ ds) ms h k = put-plain key (list_data (d ∷ ds)) ms h k

number-plain : (key : List ℕ) (n : Option ℕ) (ms : Members) → AllPlain ms → AllPlain (with_number key n ms)
number-plain key None ms h = h
number-plain key (Some n) ms h = put-plain key (number_data n) ms refl h

place-plain : (key : List ℕ) (d : SetDecl) → AllPlain (table_place key d)
place-plain key d =
    put-plain key (text_data d.table) (put (codes "family") (text_data (family_text d.family)) no_members) refl (put-plain (codes "family") (text_data (family_text d.family)) no_members refl refl)

type-put-plain : (d : SetDecl) (ms : Members) → AllPlain ms → AllPlain (with_type d ms)
type-put-plain d ms h =
    put-plain (codes "type") (type_data (map kind_data d.kinds)) (put (codes "name") (text_data d.name) ms) (type-plain (map kind_data d.kinds) (map-plain kind_data (λ kind. refl) d.kinds))
    (put-plain (codes "name") (text_data d.name) ms refl h)

options-plain : (d : SetDecl) (ms : Members) → AllPlain ms → AllPlain (with_options d ms)
options-plain d ms h =
    let flags = flag_if d.interval (codes "interval") ++ flag_if d.timed (codes "timeout") in
    let sized = with_number (codes "size") d.size ms in
    number-plain (codes "timeout") (option_map timeout_seconds d.timeout) (with_list (codes "flags") (flags_data d) sized)
    (list-plain (codes "flags") (flags_data d) sized (map-plain text_data (λ t. refl) flags) (number-plain (codes "size") d.size ms h))

declaration-plain : (d : SetDecl) → AllPlain (declaration d)
declaration-plain d = options-plain d (with_type d (table_place (codes "table") d)) (type-put-plain d (table_place (codes "table") d) (place-plain (codes "table") d))

set-plain : (now : ℕ) (p : SetDecl × State) → Plain (set_data now p)
set-plain now p =
    let shown = elements_data p.0 now p.1.elements in
    named-plain (codes "set") (object (with_list (codes "elem") shown (declaration p.0)))
    (list-plain (codes "elem") shown (declaration p.0) (map-plain (element_data p.0 now) (element-plain p.0 now) (filter (lasts now) p.1.elements)) (declaration-plain p.0))

table-plain : (sets : List (SetDecl × State)) (now : ℕ) (d : SetDecl) → Plains (table_and_sets sets now d)
table-plain sets now d =
    one-plain (table_data d) (map (set_data now) (sets_beside d sets)) (named-plain (codes "table") (object (table_place (codes "name") d)) (place-plain (codes "name") d)) (map-plain (set_data now) (set-plain now) (sets_beside d sets))

-- No value of a listing is a float.
pub ruleset_plain : (schema : List SetDecl) (sets : List State) (now : ℕ) → has_float (ruleset_data schema sets now) ≡ false
ruleset_plain schema sets now =
    let tables = flat_map (table_and_sets (zip schema sets) now) (first_sets schema) in
    named-plain (codes "nftables") (list_data (metainfo ∷ tables)) (one-plain metainfo tables refl (flat-plain (table_and_sets (zip schema sets) now) (table-plain (zip schema sets) now) (first_sets schema)))
