-- The lines of events before a listing are comments.
use Rattle.std.proofs.Common.{◌≡◌, refl, ap, ◌∙◌, ℕ, zero, suc, ◌+◌, ◌/◌, ◌%◌, ◌==◌, nat_lt, not, List, [], ◌∷◌, ◌++◌, Bool, true, false, Option, Some, None, codes, decimal, All, slice_get, arith, if◌then◌else◌}
use Rattle.std.specs.Fmt.{digits, digits_onto, digit_glyph}
use Rattle.std.specs.List.{list_all}
use Rattle.std.proofs.lemmas.Bool.{and_from, and_parts, ne_eqb}
use Rattle.std.proofs.lemmas.List.Folds.{list_all-append}
use Rattle.set_model.specs.declared.report.Event.{Event}
use Rattle.set_model.specs.declared.report.Event.TheVariants.{Refused, Committed, Aborted, Dropped}
use Rattle.set_model.specs.declared.report.Why.{Why}
use Rattle.set_model.specs.declared.report.Why.TheVariants.{Overlap, Exists, Full, RulesFull, Missing}
use Rattle.set_model.specs.declared.script.Family.{Family}
use Rattle.set_model.specs.declared.script.Family.TheVariants.{Ip, Ip6, Inet, Arp, Bridge, Netdev}
use Rattle.set_model.specs.declared.script.SetDecl.{SetDecl}
use Rattle.set_model.specs.Text.{numbered, family_text, set_text, why_text, event_text}
use Rattle.token_forms.specs.Bytes.{is_word_byte, is_line_feed}
use Rattle.listing_laws.specs.Listing.{IsNameWord}
use Rattle.listing_laws.proofs.GrowingLaws.{item_of}
use Rattle.listing_laws.proofs.Means.{other_class}

-- bytes that stay on one line
pub record Quiet (text : List ℕ) : Type 0 where
  pub all : list_all (λ b. not (is_line_feed b)) text ≡ true

quiet-append : (xs ys : List ℕ) → Quiet xs → Quiet ys → Quiet (xs ++ ys)
quiet-append xs ys h k = record { all = list_all-append (λ b. not (is_line_feed b)) xs ys ∙ and_from _ _ h.all k.all }

-- Numbers.
glyph_quiet : (d : ℕ) → not (is_line_feed (digit_glyph false d)) ≡ true
glyph_quiet d = go (nat_lt d 10) where
  go : (b : Bool) → not (is_line_feed (if b then 48 + d else 87 + d)) ≡ true
  go true = ap not (ne_eqb (48 + d) 10 (λ e. absurd (omega (arith, e))))
  go false = ap not (ne_eqb (87 + d) 10 (λ e. absurd (omega (arith, e))))

digits_quiet : (k n : ℕ) (behind : List ℕ) → Quiet behind → Quiet (digits_onto k 10 false n behind)
digits_quiet zero n behind h = h
digits_quiet (suc k) n behind h =
    let more : Quiet (digit_glyph false (n % 10) ∷ behind) = record { all = and_from _ _ (glyph_quiet (n % 10)) h.all } in
    go (n / 10 == 0) more (digits_quiet k (n / 10) (digit_glyph false (n % 10) ∷ behind) more)
  where
    go : (b : Bool) → Quiet (digit_glyph false (n % 10) ∷ behind) → Quiet (digits_onto k 10 false (n / 10) (digit_glyph false (n % 10) ∷ behind))
        → Quiet (if b then digit_glyph false (n % 10) ∷ behind else digits_onto k 10 false (n / 10) (digit_glyph false (n % 10) ∷ behind))
    go true last others = last
    go false last others = others

decimal_quiet : (n : ℕ) → Quiet (decimal n)
unfolding digits
decimal_quiet n = digits_quiet 64 n [] (record { all = refl })

number_quiet : (word : List ℕ) (n : ℕ) → Quiet word → Quiet (numbered word n)
number_quiet word n h = quiet-append (word ++ codes " ") (decimal n) (quiet-append word (codes " ") h (record { all = refl })) (decimal_quiet n)

-- Names.
word_quiet : (word : List ℕ) → list_all is_word_byte word ≡ true → Quiet word
word_quiet [] h = record { all = refl }
word_quiet (b ∷ word) h =
    let both = and_parts (is_word_byte b) (list_all is_word_byte word) h in
    record { all = and_from _ _ (ap not (other_class b both.0).3) (word_quiet word both.1).all }

family_quiet : (f : Family) → Quiet (family_text f)
family_quiet Ip = record { all = refl }
family_quiet Ip6 = record { all = refl }
family_quiet Inet = record { all = refl }
family_quiet Arp = record { all = refl }
family_quiet Bridge = record { all = refl }
family_quiet Netdev = record { all = refl }

-- a set's names are words
pub record HasNames (d : SetDecl) : Type 0 where
  pub table : IsNameWord d.table
  pub name : IsNameWord d.name

module _ (schema : List SetDecl) (named : All HasNames schema) where
  set_quiet : (set : ℕ) (o : Option SetDecl) → slice_get schema set ≡ o → Quiet (set_text o)
  set_quiet set None at = record { all = refl }
  set_quiet set (Some d) at =
      let names = item_of HasNames schema set d named at in
      let blank : Quiet (codes " ") = record { all = refl } in
      let family = quiet-append (family_text d.family) (codes " ") (family_quiet d.family) blank in
      let table = quiet-append (family_text d.family ++ codes " ") d.table family (word_quiet d.table names.table.bytes) in
      quiet-append (family_text d.family ++ codes " " ++ d.table ++ codes " ") d.name (quiet-append (family_text d.family ++ codes " " ++ d.table) (codes " ") table blank) (word_quiet d.name names.name.bytes)

  why_quiet : (set : List ℕ) (why : Why) → Quiet set → Quiet (why_text set why)
  why_quiet set (Overlap id) h = quiet-append (codes "overlap " ++ set) (numbered (codes " element") id) (quiet-append (codes "overlap ") set (record { all = refl }) h) (number_quiet (codes " element") id (record { all = refl }))
  why_quiet set (Exists id) h = quiet-append (codes "exists " ++ set) (numbered (codes " element") id) (quiet-append (codes "exists ") set (record { all = refl }) h) (number_quiet (codes " element") id (record { all = refl }))
  why_quiet set Full h = quiet-append (codes "full ") set (record { all = refl }) h
  why_quiet set (RulesFull field) h = quiet-append (codes "rules " ++ set) (numbered (codes " field") field) (quiet-append (codes "rules ") set (record { all = refl }) h) (number_quiet (codes " field") field (record { all = refl }))
  why_quiet set Missing h = quiet-append (codes "missing ") set (record { all = refl }) h

  -- an event's line without its end
  event_words : Event → List ℕ
  event_words (Refused line set why) = numbered (codes "line") line ++ codes " refused " ++ why_text (set_text (slice_get schema set)) why
  event_words (Committed generation purged) = numbered (codes "commit generation") generation ++ numbered (codes " purged") purged
  event_words (Aborted generation) = numbered (codes "abort generation") generation
  event_words (Dropped generation) = numbered (codes "fail generation") generation

  event_spelled : (event : Event) → event_words event ++ 10 ∷ [] ≡ event_text schema event
  unfolding event_words
  event_spelled (Refused line set why) = refl
  event_spelled (Committed generation purged) = refl
  event_spelled (Aborted generation) = refl
  event_spelled (Dropped generation) = refl

  event_quiet : (event : Event) → Quiet (event_words event)
  unfolding event_words
  event_quiet (Refused line set why) =
      let front = quiet-append (numbered (codes "line") line) (codes " refused ") (number_quiet (codes "line") line (record { all = refl })) (record { all = refl }) in
      quiet-append (numbered (codes "line") line ++ codes " refused ") (why_text (set_text (slice_get schema set)) why) front (why_quiet (set_text (slice_get schema set)) why (set_quiet set (slice_get schema set) refl))
  event_quiet (Committed generation purged) =
      quiet-append (numbered (codes "commit generation") generation) (numbered (codes " purged") purged) (number_quiet (codes "commit generation") generation (record { all = refl })) (number_quiet (codes " purged") purged (record { all = refl }))
  event_quiet (Aborted generation) = number_quiet (codes "abort generation") generation (record { all = refl })
  event_quiet (Dropped generation) = number_quiet (codes "fail generation") generation (record { all = refl })

  -- what a comment says of an event
  pub remark : Event → List ℕ
  remark event = 32 ∷ event_words event

  pub remark_quiet : (event : Event) → Quiet (remark event)
  unfolding remark
  remark_quiet event = record { all = (event_quiet event).all }

  pub remark_spelled : (event : Event) → 35 ∷ (remark event ++ 10 ∷ []) ≡ codes "# " ++ event_text schema event
  unfolding remark
  remark_spelled event = ap (λ (z : List ℕ). codes "# " ++ z) (event_spelled event)
