-- The end of an interval's first value, also if that is a protocol name with a `-`.
use Rattle.std.proofs.Common.{◌≡◌, ℕ, ◌+◌, ◌<◌, ◌≤◌, ◌⊎◌, Bool, true, not, nat_eq, nat_lt, ◌&&◌, List, [], ◌∷◌, ◌++◌, length, take, drop, bytes_eq, find, Option, Some, None, refl, sym, ap, ◌∙◌, subst, arith, inl, inr, true≢false, append-nil, append_assoc, take-append-drop, take_at, drop_at}
use Rattle.std.proofs.lemmas.Bool.{and_parts, eqb-true, ltb-true}
use Rattle.std.proofs.lemmas.Slice.Eq.{bytes_eq-Decides}
use Rattle.std.specs.List.{list_all, starts_with, AllByRecursion as ByRecursion}
use Rattle.std.specs.Net.Reader.{read_number}
use Rattle.set_model.specs.declared.kind.Kind.{Kind}
use Rattle.set_model.specs.declared.kind.Kind.TheVariants.{Ipv4, Ipv6, Ether, Proto, Service, Mark}
use Rattle.addr_text.specs.Protocols.{other_protocols}
use Rattle.addr_text.specs.Values.{IsValue}
use Rattle.addr_text.specs.ValuesRead.{value_of, number_of, whole_number}
use Rattle.addr_text.specs.IntervalsRead.{is_plain, plain_len, dashed_names, stands_first, dashed_end, first_end}
use Rattle.addr_text.proofs.Tables.{Passes, each-passes, found, among}
use Rattle.addr_text.proofs.ValueLaws.{value_of_complete}
use Rattle.addr_text.proofs.PlainLaws.{Plain, is_dashed, protocol_plain, ipv4_plain, ipv6_plain, ether_plain, service_plain, mark_plain, EndsValue, ends-nil, ends-slash, ends-dash, plain_len-append}

-- A plain front ends before the first `-` or `/`: the front and the text after it are determined.
front_unique : (xs ys rest more : List ℕ) → Plain xs → Plain ys → EndsValue rest → EndsValue more → xs ++ rest ≡ ys ++ more → (xs ≡ ys) × (rest ≡ more)
front_unique xs ys rest more h k stop end same =
    let lengths : length xs ≡ length ys = sym (plain_len-append xs rest h.all stop) ∙ ap plain_len same ∙ plain_len-append ys more k.all end in (
      sym (take_at xs rest (length xs) refl) ∙ ap (λ t. take (length xs) t) same ∙ take_at ys more (length xs) (sym lengths),
      sym (drop_at xs rest (length xs) refl) ∙ ap (λ t. drop (length xs) t) same ∙ drop_at ys more (length xs) (sym lengths),
    )

-- the text before and after the first `-` of a name
front : List ℕ → List ℕ
front name = take (plain_len name) name

behind : List ℕ → List ℕ
behind name = drop (plain_len name + 1) name

-- the front is no protocol, or the text after is a lower one or none
falls : Option ℕ → Option ℕ → Bool
falls None high = true
falls (Some low) None = true
falls (Some low) (Some high) = nat_lt high low

-- the front is no protocol, or the text after begins with a lower value or none
begins_no_range : List ℕ → Bool
begins_no_range name = elim (value_of Proto (front name)) [
  | None ↦ true
  | Some low ↦ list_all is_plain (behind name) && (list_all (λ other. not (bytes_eq (front other) (behind name))) dashed_names && falls (Some low) (value_of Proto (behind name)))
]

-- the name has a plain front and a `-`, and begins no range
is_cut : List ℕ → Bool
is_cut name = list_all is_plain (front name) && (bytes_eq (front name ++ 45 ∷ behind name) name && begins_no_range name)

record IsCut (name : List ℕ) : Type 0 where
  plain : Plain (front name)
  spelled : front name ++ 45 ∷ behind name ≡ name
  no_range : begins_no_range name ≡ true

cut : (name : List ℕ) → Passes is_cut name → IsCut name
unfolding Passes is_cut
cut name h =
    let (plain, more) = and_parts (list_all is_plain (front name)) _ h in
    let (spelled, no_range) = and_parts (bytes_eq (front name ++ 45 ∷ behind name) name) _ more in
    record { plain = record { all = plain }; spelled = (bytes_eq-Decides _ name).0 spelled; no_range = no_range }

each_cut : ByRecursion (Passes is_cut) dashed_names
unfolding is_cut begins_no_range front behind falls dashed_names value_of number_of whole_number read_number other_protocols
each_cut = each-passes is_cut dashed_names refl

-- a name with a `-` ends if nothing, a `-` or a `/` follows it
IsFirst : List ℕ → Type 0
IsFirst name = (rest : List ℕ) → EndsValue rest → dashed_end (name ++ rest) ≡ Some (length name)

each_first : ByRecursion IsFirst dashed_names
unfolding IsFirst dashed_end dashed_names EndsValue
each_first = (λ rest stop. rw stop refl, (λ rest stop. rw stop refl, (λ rest stop. rw stop refl, (λ rest stop. rw stop refl, (λ rest stop. rw stop refl, (λ rest stop. rw stop refl, (λ rest stop. rw stop refl, (λ rest stop. rw stop refl, (λ rest stop. rw stop refl, (λ rest stop. rw stop refl, tt))))))))))

dashed_first : (text rest : List ℕ) → is_dashed text ≡ true → EndsValue rest → dashed_end (text ++ rest) ≡ Some (length text)
unfolding IsFirst
dashed_first text rest is stop = among IsFirst dashed_names text each_first is rest stop

-- the first value is a plain front of a name with a `-` that begins the text
record IsWithin (text rest : List ℕ) : Type 0 where
  name : List ℕ
  tail : List ℕ
  cut : IsCut name
  short : text ≡ front name
  more : rest ≡ 45 ∷ (behind name ++ tail)
  stop : EndsValue tail

stands : (text name : List ℕ) → stands_first text name ≡ true → (text ≡ name ++ drop (length name) text) × EndsValue (drop (length name) text)
unfolding EndsValue
stands text name is =
    let (starts, ends) = and_parts (starts_with nat_eq text name) _ is in
    let same : name ≡ take (length name) text = (bytes_eq-Decides name (take (length name) text)).0 starts in
    (sym (take-append-drop (length name) text) ∙ ap (λ t. t ++ drop (length name) text) (sym same), eqb-true _ 0 ends)

within : (text rest name : List ℕ) → Plain text → EndsValue rest → Passes is_cut name × (stands_first (text ++ rest) name ≡ true) → IsWithin text rest
within text rest name plain stop h =
    let is = cut name h.0 in
    let (split, end) = stands (text ++ rest) name h.1 in
    let tail : List ℕ = drop (length name) (text ++ rest) in
    let joined : text ++ rest ≡ front name ++ (45 ∷ (behind name ++ tail)) =
    split ∙ ap (λ t. t ++ tail) (sym is.spelled) ∙ append_assoc (front name) (45 ∷ behind name) tail in
    let both = front_unique text (front name) rest (45 ∷ (behind name ++ tail)) plain is.plain stop (ends-dash (behind name ++ tail)) joined in
    record { name = name; tail = tail; cut = is; short = both.0; more = both.1; stop = end }

-- A protocol that begins the text, and that nothing, a `-` or a `/` follows, ends there or is a front of such a name.
protocol_end : (text rest : List ℕ) (n : ℕ) → IsValue Proto text n → EndsValue rest → (first_end Proto (text ++ rest) ≡ length text) ⊎ IsWithin text rest
unfolding first_end dashed_end
protocol_end text rest n value stop = elim (protocol_plain text n value) [
  | inl plain ↦ go plain (find (stands_first (text ++ rest)) dashed_names) refl
  | inr is ↦ inl (rw (dashed_first text rest is stop) refl)
] where
  go : Plain text → (o : Option (List ℕ)) → find (stands_first (text ++ rest)) dashed_names ≡ o → (first_end Proto (text ++ rest) ≡ length text) ⊎ IsWithin text rest
  go plain None none = inl (rw none (plain_len-append text rest plain.all stop))
  go plain (Some name) is = inr (within text rest name plain stop (found (Passes is_cut) (stands_first (text ++ rest)) dashed_names name each_cut is))

-- no plain text is a front with a `-` after it
unspelled : {P : Type 0} (text rest : List ℕ) → IsWithin text rest → ((tail : List ℕ) → rest ≡ 45 ∷ tail → ⊥) → P
unspelled text rest h no_dash = absurd (no_dash _ h.more)

-- the front of a name with a `-`, if it is a protocol, and the text after it
record HasFalls (name : List ℕ) (low : ℕ) : Type 0 where
  plain : Plain (behind name)
  apart : ByRecursion (Passes (λ other. not (bytes_eq (front other) (behind name)))) dashed_names
  falls : falls (Some low) (value_of Proto (behind name)) ≡ true

has_falls : (name : List ℕ) (low : ℕ) → value_of Proto (front name) ≡ Some low → begins_no_range name ≡ true → HasFalls name low
unfolding begins_no_range
has_falls name low is test =
    let (plain, more) = and_parts (list_all is_plain (behind name)) _ (rw (is, begins_no_range) at test) in
    let (apart, less) = and_parts (list_all (λ other. not (bytes_eq (front other) (behind name))) dashed_names) _ more in
    record { plain = record { all = plain }; apart = each-passes (λ other. not (bytes_eq (front other) (behind name))) dashed_names apart; falls = less }

-- a plain text has nothing after a front of it that a `-` or a `/` follows
nothing_behind : (text tail : List ℕ) → Plain text → EndsValue tail → Plain (text ++ tail) → tail ≡ []
nothing_behind text tail front stop all = (front_unique text (text ++ tail) tail [] front all stop ends-nil (sym (append-nil (text ++ tail)))).1

-- the text after the front of a name with a `-` is no value, or is lower than the front's
no_range_within : (text high_text : List ℕ) (low high : ℕ) → IsValue Proto text low → IsValue Proto high_text high → low ≤ high → IsWithin text (45 ∷ high_text) → ⊥
unfolding falls Passes
no_range_within text high_text low high low_is high_is rises h = elim (protocol_plain high_text high high_is) [ inl plain ↦ lone plain | inr dashed ↦ named dashed ] where
  name : List ℕ
  name = h.name

  spelled : high_text ≡ behind name ++ h.tail
  spelled = ap (λ t. drop 1 t) h.more

  front_is : value_of Proto (front name) ≡ Some low
  front_is = subst (λ (t : List ℕ). value_of Proto t ≡ Some low) h.short (value_of_complete Proto text low low_is)

  parts : HasFalls name low
  parts = has_falls name low front_is h.cut.no_range

  lone : Plain high_text → ⊥
  lone plain =
      let empty = nothing_behind (behind name) h.tail parts.plain h.stop (subst Plain spelled plain) in
      let whole : high_text ≡ behind name = spelled ∙ ap (λ t. behind name ++ t) empty ∙ append-nil (behind name) in
      let high_is : value_of Proto (behind name) ≡ Some high = subst (λ (t : List ℕ). value_of Proto t ≡ Some high) whole (value_of_complete Proto high_text high high_is) in
      let less : high < low = ltb-true high low (rw high_is at parts.falls) in
      omega (arith, less)

  named : is_dashed high_text ≡ true → ⊥
  named dashed =
      let other = cut high_text (among (Passes is_cut) dashed_names high_text each_cut dashed) in
      let same = (front_unique (front high_text) (behind name) (45 ∷ behind high_text) h.tail other.plain parts.plain (ends-dash (behind high_text)) h.stop (other.spelled ∙ spelled)).0 in
      let apart : not (bytes_eq (front high_text) (behind name)) ≡ true = among (Passes (λ other. not (bytes_eq (front other) (behind name)))) dashed_names high_text parts.apart dashed in
      true≢false (sym apart ∙ ap not ((bytes_eq-Decides (front high_text) (behind name)).1 same))

-- the end of a value that nothing follows
pub end-nil : (kind : Kind) (text : List ℕ) (n : ℕ) → IsValue kind text n → first_end kind (text ++ []) ≡ length text
unfolding first_end
end-nil Ipv4 text n h = plain_len-append text [] (ipv4_plain text n h).all ends-nil
end-nil Ipv6 text n h = plain_len-append text [] (ipv6_plain text n h).all ends-nil
end-nil Ether text n h = plain_len-append text [] (ether_plain text n h).all ends-nil
end-nil Proto text n h = elim (protocol_end text [] n h ends-nil) [ inl ends ↦ ends | inr within ↦ unspelled text [] within (λ tail e. cc e) ]
end-nil Service text n h = plain_len-append text [] (service_plain text n h).all ends-nil
end-nil Mark text n h = plain_len-append text [] (mark_plain text n h).all ends-nil

-- the end of a value that a `/` follows
pub end-slash : (kind : Kind) (text rest : List ℕ) (n : ℕ) → IsValue kind text n → first_end kind (text ++ 47 ∷ rest) ≡ length text
unfolding first_end
end-slash Ipv4 text rest n h = plain_len-append text (47 ∷ rest) (ipv4_plain text n h).all (ends-slash rest)
end-slash Ipv6 text rest n h = plain_len-append text (47 ∷ rest) (ipv6_plain text n h).all (ends-slash rest)
end-slash Ether text rest n h = plain_len-append text (47 ∷ rest) (ether_plain text n h).all (ends-slash rest)
end-slash Proto text rest n h = elim (protocol_end text (47 ∷ rest) n h (ends-slash rest)) [ inl ends ↦ ends | inr within ↦ unspelled text (47 ∷ rest) within (λ tail e. let bad : ◌≡◌ {A = ℕ} 47 45 = cc e in omega (arith, bad)) ]
end-slash Service text rest n h = plain_len-append text (47 ∷ rest) (service_plain text n h).all (ends-slash rest)
end-slash Mark text rest n h = plain_len-append text (47 ∷ rest) (mark_plain text n h).all (ends-slash rest)

-- the end of a value that a `-` and a value follow which isn't lower
pub end-dash : (kind : Kind) (text high_text : List ℕ) (low high : ℕ) → IsValue kind text low → IsValue kind high_text high → low ≤ high → first_end kind (text ++ 45 ∷ high_text) ≡ length text
unfolding first_end
end-dash Ipv4 text rest low high h k rises = plain_len-append text (45 ∷ rest) (ipv4_plain text low h).all (ends-dash rest)
end-dash Ipv6 text rest low high h k rises = plain_len-append text (45 ∷ rest) (ipv6_plain text low h).all (ends-dash rest)
end-dash Ether text rest low high h k rises = plain_len-append text (45 ∷ rest) (ether_plain text low h).all (ends-dash rest)
end-dash Proto text rest low high h k rises = elim (protocol_end text (45 ∷ rest) low h (ends-dash rest)) [ inl ends ↦ ends | inr within ↦ absurd (no_range_within text rest low high h k rises within) ]
end-dash Service text rest low high h k rises = plain_len-append text (45 ∷ rest) (service_plain text low h).all (ends-dash rest)
end-dash Mark text rest low high h k rises = plain_len-append text (45 ∷ rest) (mark_plain text low h).all (ends-dash rest)
