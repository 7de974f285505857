-- The text of a listed element means its addition.
use Rattle.std.proofs.Common.{inr, IfSome, if◌then◌else◌, zero-add, ◌≡◌, refl, sym, ◌∙◌, ap, subst, ℕ, ◌-◌, ◌<◌, ◌≤◌, ◌==◌, List, [], ◌∷◌, ◌++◌, length, map, flat_map, Bool, true, false, nat_lt, Option, Some, None, codes, All, append_assoc, append-nil, arith}
use Rattle.std.specs.List.{zip}
use Rattle.std.proofs.lemmas.Bool.{and_parts, eqb-true}
use Rattle.std.proofs.lemmas.List.{map-append}
use Rattle.std.proofs.lemmas.List.Elements.{All-head, All-tail}
use Rattle.set_model.specs.declared.kind.Kind.{Kind}
use Rattle.set_model.specs.declared.kind.Interval.{Interval}
use Rattle.set_model.specs.declared.element.Element.{Element}
use Rattle.set_model.specs.declared.script.SetDecl.{SetDecl}
use Rattle.set_model.specs.declared.script.Step.{Step}
use Rattle.set_model.specs.declared.script.Step.TheVariants.{Change}
use Rattle.set_model.specs.declared.script.Verb.TheVariants as verbs
use Rattle.set_model.specs.Key.{is_good, intervals_fit}
use Rattle.addr_text.specs.Times.{longest_time, IsTime}
use Rattle.addr_text.specs.Written.{interval_text, time_text}
use Rattle.addr_text.proofs.WrittenLaws.{IsInterval-interval_text, IsTime-time_text}
use Rattle.token_forms.specs.declared.token.TokenKind.TheVariants as kinds
use Rattle.token_forms.specs.declared.token.Reason.TheVariants as reasons
use Rattle.token_forms.specs.Form.{many, done, ◌>>=◌, ◌>>◌}
use Rattle.token_forms.specs.Words.{word_by, word_is, mark, text, breaks, breaks_off, passed}
use Rattle.set_script.specs.declared.draft.Target.{Target}
use Rattle.set_script.specs.declared.draft.Options.{Options}
use Rattle.set_script.specs.declared.words.OptionWord.TheVariants as options
use Rattle.set_script.specs.Values.{IsPart, IsLife}
use Rattle.set_script.specs.Names.{option_of}
use Rattle.set_script.specs.Changes.{no_options, change, expiry, life_expiry, comment_of}
use Rattle.set_script.specs.Script as form
use Rattle.element_text.specs.ElementText.{intervals_text, comment_text}
use Rattle.set_report.specs.ListText.{expiry_text, element_text, gives_life}
use Rattle.listing_laws.specs.Relisted.{left}
use Rattle.listing_laws.specs.Listing.{unlined, addition, IsComment, IsListable}
use Rattle.listing_laws.proofs.WordTexts.{interval_word, time_word}
use Rattle.listing_laws.proofs.Means.{Means, Is, Goes, means_done, means_bind, means_then, means_seq, means_weaken, means_last, means_next, means_then_next, means_right, means_space, means_closed, means_literal, means_word, means_word_is, means_word_by, means_text, means_as, means_tab, means_byte, means_mark}

-- No break is there.
no_breaks : Means false breaks [] (Is tt)
no_breaks = means_last (λ _. passed breaks_off) false tt (Is tt) refl

-- After a field's interval come a dot and the next.
part_means : (wide : Bool) (kind : Kind) (p : Interval) → is_good kind p ≡ true → (wide ≡ false → p.high ≡ p.low) → Means false (form.part wide kind) (interval_text kind p) (Is p)
part_means wide kind p good one =
    let is = IsInterval-interval_text kind p good in
    means_word_is (reasons.Value ∷ []) (IsPart wide kind) (interval_text kind p) p (interval_word kind (interval_text kind p) p is) (is, one)

first_means : (wide : Bool) (kind : Kind) (p : Interval) → is_good kind p ≡ true → (wide ≡ false → p.high ≡ p.low) → Means false (form.first_part wide kind) (interval_text kind p) (λ a. a.1 ≡ p)
first_means wide kind p good one =
    let is = IsInterval-interval_text kind p good in
    means_word (reasons.Value ∷ []) (λ t (a : ℕ × Interval). (t.kind ≡ kinds.Word) × (a.0 ≡ t.line) × IsPart wide kind t.bytes a.1) (λ a. a.1 ≡ p) (interval_text kind p)
    (interval_word kind (interval_text kind p) p is) (λ behind line place. ((line, p), refl, (refl, refl, (is, one))))

abbrev field_text : Kind × Interval → List ℕ
field_text y = interval_text y.0 y.1

abbrev next_field : Kind × Interval → List ℕ
next_field y = codes " . " ++ interval_text y.0 y.1

-- wide: an interval may have more than one value
Singles : Bool → List Interval → Type 0
Singles wide parts = wide ≡ false → All (λ (p : Interval). p.high ≡ p.low) parts

singles-head : (wide : Bool) (p : Interval) (parts : List Interval) → Singles wide (p ∷ parts) → wide ≡ false → p.high ≡ p.low
unfolding Singles
singles-head wide p parts h e = All-head (λ (q : Interval). q.high ≡ q.low) p parts (h e)

singles-tail : (wide : Bool) (p : Interval) (parts : List Interval) → Singles wide (p ∷ parts) → Singles wide parts
unfolding Singles
singles-tail wide p parts h e = All-tail (λ (q : Interval). q.high ≡ q.low) p parts (h e)

singles : (wide : Bool) (parts : List Interval) → (wide ≡ false → All (λ (p : Interval). p.high ≡ p.low) parts) → Singles wide parts
unfolding Singles
singles wide parts h = h

more_means : (wide : Bool) (ks : List Kind) (parts before : List Interval) → length ks ≡ length parts → intervals_fit ks parts ≡ true → Singles wide parts
    → Means false (form.more_parts wide ks before) (flat_map next_field (zip ks parts)) (Is (before ++ parts))
more_means wide [] [] before same fit one = means_done false before (Is (before ++ [])) (sym (append-nil before))
more_means wide [] (p ∷ parts) before same fit one = absurd (omega (arith, same))
more_means wide (kind ∷ ks) [] before same fit one = absurd (omega (arith, same))
more_means wide (kind ∷ ks) (p ∷ parts) before same fit one =
    let both = and_parts (is_good kind p) (intervals_fit ks parts) fit in
    let later = more_means wide ks parts (before ++ p ∷ []) (omega (arith, same)) both.1 (singles-tail wide p parts one) in
    let after = means_weaken _ _ _ (Is ((before ++ p ∷ []) ++ parts)) (Is (before ++ p ∷ parts)) (λ a e. e ∙ append_assoc before (p ∷ []) parts) later in
    let field = means_then (form.part wide kind) (λ (q : Interval). form.more_parts wide ks (before ++ q ∷ [])) false false (interval_text kind p) (flat_map next_field (zip ks parts)) p (Is (before ++ p ∷ parts))
    (part_means wide kind p both.0 (singles-head wide p parts one)) (parts_go ks parts) after in
    means_seq no_breaks (means_space (means_seq (means_literal 46 [] refl) (means_seq no_breaks (means_space field) (λ rest fit. refl)) (λ rest fit. refl))) (λ rest fit. refl)
  where
    parts_go : (ks : List Kind) (parts : List Interval) → Goes false false (flat_map next_field (zip ks parts))
    parts_go [] parts = λ rest fit. fit
    parts_go (k ∷ ks) [] = λ rest fit. fit
    parts_go (k ∷ ks) (q ∷ parts) = λ rest fit. refl

all_means : (wide : Bool) (ks : List Kind) (parts : List Interval) → 0 < length ks → length ks ≡ length parts → intervals_fit ks parts ≡ true → Singles wide parts
    → Means false (form.all_parts wide ks) (intervals_text ks parts) (λ a. a.1 ≡ parts)
all_means wide [] parts some same fit one = absurd (omega (arith, some))
all_means wide (kind ∷ ks) [] some same fit one = absurd (omega (arith, same))
all_means wide (kind ∷ ks) (p ∷ parts) some same fit one =
    let both = and_parts (is_good kind p) (intervals_fit ks parts) fit in
    means_bind (form.first_part wide kind) (λ (q : ℕ × Interval). form.more_parts wide ks (q.1 ∷ []) >>= λ rest. done (q.0, rest)) false false (interval_text kind p) (flat_map next_field (zip ks parts))
    (λ a. a.1 ≡ p) (λ a. a.1 ≡ p ∷ parts) (first_means wide kind p both.0 (singles-head wide p parts one)) (parts_go ks parts) after
  where
    parts_go : (ks : List Kind) (parts : List Interval) → Goes false false (flat_map next_field (zip ks parts))
    parts_go [] parts = λ rest fit. fit
    parts_go (k ∷ ks) [] = λ rest fit. fit
    parts_go (k ∷ ks) (q ∷ parts) = λ rest fit. refl

    after : (a : ℕ × Interval) → a.1 ≡ p → Means false (form.more_parts wide ks (a.1 ∷ []) >>= λ rest. done (a.0, rest)) (flat_map next_field (zip ks parts)) (λ (b : ℕ × List Interval). b.1 ≡ p ∷ parts)
    after a e =
        let fits = (and_parts (is_good kind p) (intervals_fit ks parts) fit).1 in
        let later = more_means wide ks parts (a.1 ∷ []) (omega (arith, same)) fits (singles-tail wide p parts one) in
        let same_first : a.1 ∷ parts ≡ p ∷ parts = ap (λ (q : Interval). q ∷ parts) e in
        means_as _ false (flat_map next_field (zip ks parts) ++ []) (flat_map next_field (zip ks parts)) _ (append-nil (flat_map next_field (zip ks parts)))
        (means_then (form.more_parts wide ks (a.1 ∷ [])) (λ (rest : List Interval). done (a.0, rest)) false false (flat_map next_field (zip ks parts)) [] (a.1 ∷ parts) (λ (b : ℕ × List Interval). b.1 ≡ p ∷ parts)
        later (λ rest fit. fit) (means_done false (a.0, a.1 ∷ parts) (λ (b : ℕ × List Interval). b.1 ≡ p ∷ parts) same_first))

-- what the text of an element says after its intervals
abbrev with_comment : Options → List ℕ → Options
with_comment o [] = o
with_comment o (b ∷ bytes) = record o { comment = Some (b ∷ bytes) }

abbrev timed_by : SetDecl → ℕ → Option ℕ → Options
timed_by d now (Some t) = record no_options { expires = Some (t - now) }
timed_by d now None = elim (gives_life d) as (λ _. Options) [ true ↦ record no_options { timeout = Some 0 } | false ↦ no_options ]

-- an option and those after it
option_next : (timed : Bool) (o o1 : Options) (t1 t2 : List ℕ) (Q : Options → Type 0) → Means false (form.option timed o) t1 (Is o1) → Goes false false t2
    → Means false (many (form.option_or_break timed) o1) t2 Q → Means false (many (form.option_or_break timed) o) (t1 ++ t2) Q
option_next timed o o1 t1 t2 Q h goes k =
    means_next (form.option_or_break timed) o false false t1 t2 (Is o1) Q (means_right (passed breaks_off >> done o) (form.option timed o) false t1 (Is o1) h) goes
    (λ s e. subst (λ (z : Options). Means false (many (form.option_or_break timed) z) t2 Q) (sym e) k)

no_more_options : (timed : Bool) (o : Options) → Means false (many (form.option_or_break timed) o) [] (Is o)
no_more_options timed o = means_last (form.option_or_break timed) false o (Is o) refl

comment_means : (timed : Bool) (o : Options) (bytes : List ℕ) → o.comment ≡ None → IsComment bytes → Means false (many (form.option_or_break timed) o) (comment_text bytes) (Is (with_comment o bytes))
comment_means timed o [] none is = no_more_options timed o
comment_means timed o (b ∷ bytes) none is =
    let string = (b ∷ bytes) ++ 34 ∷ [] in
    let reached = with_comment o (b ∷ bytes) in
    let behind_word = 32 ∷ 34 ∷ (string ++ []) in
    let value = means_closed (means_then text (λ (c : List ℕ). done (record o { comment = Some c })) true true (34 ∷ string) [] (b ∷ bytes) (Is reached) (means_text (b ∷ bytes) is.all is.short) (λ rest fit. refl) (means_done true reached (Is reached) refl)) in
    let behind = means_seq no_breaks (means_space value) (λ rest fit. refl) in
    let key = means_word_by [] (λ t. option_of timed o t.bytes) (codes "comment") options.Comment (record { some = omega arith; bytes = record { all = refl } }) (λ behind line place. rw none refl) in
    let whole = means_then (word_by [] (λ t. option_of timed o t.bytes)) (form.option_behind o) false false (codes "comment") behind_word options.Comment (Is reached) key (λ rest fit. refl) behind in
    let spelled : (codes " comment" ++ behind_word) ++ [] ≡ comment_text (b ∷ bytes) = append-nil (codes " comment" ++ behind_word) ∙ ap (λ (z : List ℕ). codes " comment \"" ++ z) (append-nil string) in
    means_as (many (form.option_or_break timed) o) false ((codes " comment" ++ behind_word) ++ []) (comment_text (b ∷ bytes)) (Is reached) spelled
    (option_next timed o reached (codes " comment" ++ behind_word) [] (Is reached) (means_space whole) (λ rest fit. fit) (no_more_options timed reached))

expires_means : (t : ℕ) (rest : List ℕ) (Q : Options → Type 0) → t ≤ longest_time → Goes false false rest
    → Means false (many (form.option_or_break true) (record no_options { expires = Some t })) rest Q
    → Means false (many (form.option_or_break true) no_options) ((codes " expires " ++ time_text t) ++ rest) Q
expires_means t rest Q short goes k =
    let is = IsTime-time_text t short in
    let reached : Options = record no_options { expires = Some t } in
    let time = means_word_is (reasons.Time ∷ []) IsTime (time_text t) t (time_word (time_text t) t is) is in
    let value = means_as (form.time >>= λ (u : ℕ). done (record no_options { expires = Some u })) false (time_text t ++ []) (time_text t) (Is reached) (append-nil (time_text t))
    (means_then form.time (λ (u : ℕ). done (record no_options { expires = Some u })) false false (time_text t) [] t (Is reached) time (λ rest fit. fit) (means_done false reached (Is reached) refl)) in
    let behind = means_seq no_breaks (means_space value) (λ rest fit. refl) in
    let key = means_word_by [] (λ t. option_of true no_options t.bytes) (codes "expires") options.Expires (record { some = omega arith; bytes = record { all = refl } }) (λ behind line place. refl) in
    let whole = means_then (word_by [] (λ t. option_of true no_options t.bytes)) (form.option_behind no_options) false false (codes "expires") (32 ∷ time_text t) options.Expires (Is reached) key (λ rest fit. refl) behind in
    option_next true no_options reached (codes " expires " ++ time_text t) rest Q (means_space whole) goes k

zero_time : IsLife (codes "0s") 0
unfolding time_text
zero_time = inr ((λ e. absurd (cc e)), IsTime-time_text 0 (omega arith))

never_means : (rest : List ℕ) (Q : Options → Type 0) → Goes false false rest
    → Means false (many (form.option_or_break true) (record no_options { timeout = Some 0 })) rest Q
    → Means false (many (form.option_or_break true) no_options) (codes " timeout 0s" ++ rest) Q
never_means rest Q goes k =
    let reached : Options = record no_options { timeout = Some 0 } in
    let life = means_word_is (reasons.Time ∷ []) IsLife (codes "0s") 0 (record { some = omega arith; bytes = record { all = refl } }) zero_time in
    let value = means_then (word_is (reasons.Time ∷ []) IsLife) (λ (u : ℕ). done (record no_options { timeout = Some u })) false false (codes "0s") [] 0 (Is reached) life (λ rest fit. fit) (means_done false reached (Is reached) refl) in
    let behind = means_seq no_breaks (means_space value) (λ rest fit. refl) in
    let key = means_word_by [] (λ t. option_of true no_options t.bytes) (codes "timeout") options.Timeout (record { some = omega arith; bytes = record { all = refl } }) (λ behind line place. refl) in
    let whole = means_then (word_by [] (λ t. option_of true no_options t.bytes)) (form.option_behind no_options) false false (codes "timeout") (32 ∷ codes "0s") options.Timeout (Is reached) key (λ rest fit. refl) behind in
    option_next true no_options reached (codes " timeout 0s") rest Q (means_space whole) goes k

comment_goes : (bytes : List ℕ) → Goes false false (comment_text bytes)
comment_goes [] = λ rest fit. fit
comment_goes (b ∷ bytes) = λ rest fit. refl

-- An element of a set that may be listed.
module _ (d : SetDecl) (now : ℕ) (lives : gives_life d ≡ true → d.timed ≡ true) where
  options_mean : (x : Option ℕ) (bytes : List ℕ) → IfSome x (λ t. (d.timed ≡ true) × (t - now ≤ longest_time)) → IsComment bytes
      → Means false (many (form.option_or_break d.timed) no_options) (expiry_text d now x ++ comment_text bytes) (Is (with_comment (timed_by d now x) bytes))
  options_mean (Some t) bytes h is =
      subst (λ (b : Bool). Means false (many (form.option_or_break b) no_options) (expiry_text d now (Some t) ++ comment_text bytes) (Is (with_comment (timed_by d now (Some t)) bytes))) (sym h.0)
      (expires_means (t - now) (comment_text bytes) _ h.1 (comment_goes bytes) (comment_means true (record no_options { expires = Some (t - now) }) bytes refl is))
  options_mean None bytes h is = go (gives_life d) refl where
    go : (b : Bool) → gives_life d ≡ b
        → Means false (many (form.option_or_break d.timed) no_options) ((if b then codes " timeout 0s" else []) ++ comment_text bytes) (Is (with_comment (elim b as (λ _. Options) [ true ↦ record no_options { timeout = Some 0 } | false ↦ no_options ]) bytes))
    go true e =
        subst (λ (b : Bool). Means false (many (form.option_or_break b) no_options) (codes " timeout 0s" ++ comment_text bytes) (Is (with_comment (record no_options { timeout = Some 0 }) bytes))) (sym (lives e))
        (never_means (comment_text bytes) _ (comment_goes bytes) (comment_means true (record no_options { timeout = Some 0 }) bytes refl is))
    go false e = comment_means d.timed no_options bytes refl is

  comment_same : (o : Options) (bytes : List ℕ) → o.comment ≡ None → comment_of (with_comment o bytes).comment ≡ bytes
  comment_same o [] none = ap comment_of none
  comment_same o (b ∷ bytes) none = refl

  no_comment : (x : Option ℕ) → (timed_by d now x).comment ≡ None
  no_comment (Some t) = refl
  no_comment None = go (gives_life d) where
    go : (b : Bool) → (elim b as (λ _. Options) [ true ↦ record no_options { timeout = Some 0 } | false ↦ no_options ]).comment ≡ None
    go true = refl
    go false = refl

  life_same : (x : Option ℕ) (o : Options) (bytes : List ℕ) → expiry 0 x (with_comment o bytes) ≡ expiry 0 x o
  life_same x o [] = refl
  life_same x o (b ∷ bytes) = refl

  no_life : (x : Option ℕ) → (elim x as (λ _. Bool) [ Some t ↦ nat_lt 0 t | None ↦ false ]) ≡ false → life_expiry 0 x ≡ None
  no_life None e = refl
  no_life (Some t) e = rw e refl

  expiry_same : (x : Option ℕ) → expiry 0 d.timeout (timed_by d now x) ≡ left now x
  expiry_same (Some t) = ap Some (zero-add (t - now))
  expiry_same None = go (gives_life d) refl where
    go : (b : Bool) → gives_life d ≡ b → expiry 0 d.timeout (elim b as (λ _. Options) [ true ↦ record no_options { timeout = Some 0 } | false ↦ no_options ]) ≡ None
    go true e = refl
    go false e = no_life d.timeout e

  -- the changes of a list, all at moment 0
  module _ (set : ℕ) (some : 0 < length d.kinds) where
    abbrev target : Target
    target = record { set = set; verb = verbs.Add; now = 0 }

    abbrev pub Adds : List Step → List Element → List Step → Type 0
    Adds before es steps = map unlined steps ≡ map unlined before ++ map (addition now set) es

    made : (before : List Step) (line : ℕ) (parts : List Interval) (e : Element) → parts ≡ e.parts
        → Adds before (e ∷ []) (before ++ change target d line parts (with_comment (timed_by d now e.expiry) e.comment) ∷ [])
    made before line parts e same =
        let o = with_comment (timed_by d now e.expiry) e.comment in
        let when : expiry 0 d.timeout o ≡ left now e.expiry = life_same d.timeout (timed_by d now e.expiry) e.comment ∙ expiry_same e.expiry in
        let what : comment_of o.comment ≡ e.comment = comment_same (timed_by d now e.expiry) e.comment (no_comment e.expiry) in
        map-append unlined before (change target d line parts o ∷ []) ∙ ap (λ z. map unlined before ++ z ∷ []) (λ i. Change 0 set verbs.Add (record { parts = same i; expiry = when i; comment = what i }) 0)

    element_means : (e : Element) (before : List Step) → IsListable d now e → Means false (form.element target d before) (element_text d now e) (Adds before (e ∷ []))
    element_means e before is =
        let both = and_parts (length d.kinds == length e.parts) (intervals_fit d.kinds e.parts) is.fits in
        let parts = all_means d.interval d.kinds e.parts some (eqb-true (length d.kinds) (length e.parts) both.0) both.1 (singles d.interval e.parts is.single) in
        let says = expiry_text d now e.expiry ++ comment_text e.comment in
        let o = with_comment (timed_by d now e.expiry) e.comment in
        means_as (form.element target d before) false (intervals_text d.kinds e.parts ++ says) (element_text d now e) (Adds before (e ∷ [])) (sym (append_assoc (intervals_text d.kinds e.parts) (expiry_text d now e.expiry) (comment_text e.comment)))
        (means_bind (form.all_parts d.interval d.kinds) (λ (p : ℕ × List Interval). many (form.option_or_break d.timed) no_options >>= λ (o : Options). done (before ++ change target d p.0 p.1 o ∷ [])) false false
        (intervals_text d.kinds e.parts) says (λ a. a.1 ≡ e.parts) (Adds before (e ∷ [])) parts (says_goes e.expiry e.comment)
        (λ a same.
        means_as _ false (says ++ []) says _ (append-nil says)
        (means_then (many (form.option_or_break d.timed) no_options) (λ (o : Options). done (before ++ change target d a.0 a.1 o ∷ [])) false false says [] o (Adds before (e ∷ []))
        (options_mean e.expiry e.comment is.timed is.comment) (λ rest fit. fit) (means_done false _ (Adds before (e ∷ [])) (made before a.0 a.1 e same)))))
      where
        says_goes : (x : Option ℕ) (bytes : List ℕ) → Goes false false (expiry_text d now x ++ comment_text bytes)
        says_goes (Some t) bytes = λ rest fit. refl
        says_goes None bytes = go (gives_life d) where
          go : (b : Bool) → Goes false false ((if b then codes " timeout 0s" else []) ++ comment_text bytes)
          go true = λ rest fit. refl
          go false = comment_goes bytes

    -- after an element a `,` and a break
    comma_means : (before : List Step) → Means true (form.list_item target d (before, false)) (codes ",\n\t\t\t     ") (Is (before, true))
    comma_means before =
        let end = means_tab (means_tab (means_tab (means_space (means_space (means_space (means_space (means_space (means_done true (before, true) (Is (before, true)) refl)))))))) in
        let break = means_next (λ _. passed breaks_off) tt true true (10 ∷ []) [] (Is tt) (Is tt) (means_byte [] _ kinds.Break 10 tt (λ bytes. refl) (λ behind line place. refl)) (λ rest fit. refl)
        (λ s e. means_last (λ _. passed breaks_off) true s (Is tt) e) in
        means_seq (means_mark 44 (λ bytes. refl)) (means_seq break end (λ rest fit. refl)) (λ rest fit. refl)

    abbrev next_element : Element → List ℕ
    next_element e = codes ",\n\t\t\t     " ++ element_text d now e

    first_item : (e : Element) (before : List Step) → IsListable d now e → Means false (form.list_item target d (before, true)) (element_text d now e) (λ r. Adds before (e ∷ []) r.0 × (r.1 ≡ false))
    first_item e before is =
        means_as (form.list_item target d (before, true)) false (element_text d now e ++ []) (element_text d now e) (λ r. Adds before (e ∷ []) r.0 × (r.1 ≡ false)) (append-nil (element_text d now e))
        (means_bind (form.element target d before) (λ (steps : List Step). done (steps, false)) false false (element_text d now e) [] (Adds before (e ∷ [])) (λ r. Adds before (e ∷ []) r.0 × (r.1 ≡ false))
        (element_means e before is) (λ rest fit. fit) (λ steps added. means_done false (steps, false) (λ r. Adds before (e ∷ []) r.0 × (r.1 ≡ false)) (added, refl)))

    abbrev Then : List Step × Bool → List ℕ → (List Step × Bool → Type 0) → Type 0
    Then r t Q = Means false (many (form.list_item target d) r) t Q

    -- the element after one, and those after it
    item_after : (before : List Step) (e e2 : Element) (es : List Element) (r : List Step × Bool) → Adds before (e ∷ []) r.0 × (r.1 ≡ false)
        → Then (r.0, true) (element_text d now e2 ++ flat_map next_element es) (λ q. Adds r.0 (e2 ∷ es) q.0) → Then r (flat_map next_element (e2 ∷ es)) (λ q. Adds before (e ∷ e2 ∷ es) q.0)
    item_after before e e2 es (steps, b) is k =
        let text = element_text d now e2 ++ flat_map next_element es in
        let others = map (addition now set) (e2 ∷ es) in
        let both = means_weaken (many (form.list_item target d) (steps, true)) false text (λ q. Adds steps (e2 ∷ es) q.0) (λ q. Adds before (e ∷ e2 ∷ es) q.0)
        (λ q added. added ∙ ap (λ (z : List Step). z ++ others) is.0 ∙ append_assoc (map unlined before) (addition now set e ∷ []) others) k in
        subst (λ (z : Bool). Then (steps, z) (flat_map next_element (e2 ∷ es)) (λ q. Adds before (e ∷ e2 ∷ es) q.0)) (sym is.1)
        (means_then_next (form.list_item target d) (steps, false) (steps, true) true false (codes ",\n\t\t\t     ") text (λ q. Adds before (e ∷ e2 ∷ es) q.0) (comma_means steps) (λ rest fit. refl) both)

    items_mean : (es : List Element) (e : Element) (before : List Step) → All (IsListable d now) (e ∷ es) → Then (before, true) (element_text d now e ++ flat_map next_element es) (λ q. Adds before (e ∷ es) q.0)
    items_mean [] e before all =
        means_next (form.list_item target d) (before, true) false false (element_text d now e) [] (λ r. Adds before (e ∷ []) r.0 × (r.1 ≡ false)) (λ q. Adds before (e ∷ []) q.0)
        (first_item e before (All-head (IsListable d now) e [] all)) (λ rest fit. fit) (λ r is. means_last (form.list_item target d) false r (λ q. Adds before (e ∷ []) q.0) is.0)
    items_mean (e2 ∷ es) e before all =
        means_next (form.list_item target d) (before, true) false false (element_text d now e) (flat_map next_element (e2 ∷ es)) (λ r. Adds before (e ∷ []) r.0 × (r.1 ≡ false)) (λ q. Adds before (e ∷ e2 ∷ es) q.0)
        (first_item e before (All-head (IsListable d now) e (e2 ∷ es) all)) (λ rest fit. refl) (λ r is. item_after before e e2 es r is (items_mean es e2 r.0 (All-tail (IsListable d now) e (e2 ∷ es) all)))

    -- the elements in braces
    pub list_means : (e : Element) (es : List Element) (before : List Step) → All (IsListable d now) (e ∷ es)
        → Means true (form.list target d before) (codes "{ " ++ ((element_text d now e ++ flat_map next_element es) ++ codes " }")) (Adds before (e ∷ es))
    list_means e es before all =
        let items = items_mean es e before all in
        let end : (r : List Step × Bool) → Adds before (e ∷ es) r.0 → Means true (mark 125 >> done r.0) (codes " }") (Adds before (e ∷ es)) = λ r is. means_space (means_seq (means_mark 125 (λ bytes. refl)) (means_done true r.0 (Adds before (e ∷ es)) is) (λ rest fit. refl)) in
        let body = means_bind (many (form.list_item target d) (before, true)) (λ (r : List Step × Bool). mark 125 >> done r.0) false true (element_text d now e ++ flat_map next_element es) (codes " }") (λ r. Adds before (e ∷ es) r.0) (Adds before (e ∷ es)) items (λ rest fit. refl) end in
        means_seq (means_mark 123 (λ bytes. refl)) (means_seq no_breaks (means_space body) (λ rest fit. refl)) (λ rest fit. refl)
