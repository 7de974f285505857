-- What a text says of the sets and the steps of its script, along the table of the forms.
use Rattle.std.proofs.Common.{◌≡◌, refl, sym, ◌∙◌, ap, subst, ℕ, zero, suc, ◌+◌, ◌≤◌, ◌&&◌, not, nat_lt, nat_le, List, [], ◌∷◌, ◌++◌, length, Bool, true, false, true≢false, cond, Option, Some, None, IfSome, All, inl, inr, slice_get, bytes_eq, codes, sum_by, arith}
use Rattle.std.specs.List.{AllPairs, list_all}
use Rattle.std.specs.Option.{is_some}
use Rattle.std.proofs.lemmas.Bool.{and_parts, leb-true}
use Rattle.std.proofs.lemmas.List.Elements.{All-nil, All-push}
use Rattle.std.proofs.lemmas.List.Sums.{sum_by-cons, sum_by-append}
use Rattle.std.proofs.lemmas.Option.{cond_some}
use Rattle.set_model.specs.declared.kind.Kind.{Kind}
use Rattle.set_model.specs.declared.kind.Interval.{Interval}
use Rattle.set_model.specs.declared.element.NewElement.{NewElement}
use Rattle.set_model.specs.declared.script.Family.{Family}
use Rattle.set_model.specs.declared.script.Family.TheVariants as families
use Rattle.set_model.specs.declared.script.SetDecl.{SetDecl}
use Rattle.set_model.specs.declared.script.Step.{Step}
use Rattle.set_model.specs.declared.script.Step.TheVariants.{Change, Flush, Commit, Abort}
use Rattle.set_model.specs.declared.script.Verb.{Verb}
use Rattle.set_model.specs.declared.script.Verb.TheVariants as verbs
use Rattle.set_model.specs.declared.script.Script.{Script}
use Rattle.set_model.specs.Runnable.{is_open}
use Rattle.addr_text.specs.Times.{IsTime, longest_time}
use Rattle.token_forms.specs.declared.token.Reason.TheVariants as reasons
use Rattle.token_forms.specs.Bytes.{is_word_byte}
use Rattle.token_forms.specs.Form.{many}
use Rattle.token_forms.specs.Words.{separates}
use Rattle.token_forms.specs.TextTokens.{text_tokens}
use Rattle.set_script.specs.declared.draft.Draft.{Draft}
use Rattle.set_script.specs.declared.draft.Declaration.{Declaration}
use Rattle.set_script.specs.declared.draft.Target.{Target}
use Rattle.set_script.specs.declared.draft.Options.{Options}
use Rattle.set_script.specs.declared.words.Flag.{Flag}
use Rattle.set_script.specs.declared.words.Flag.TheVariants as flags
use Rattle.set_script.specs.declared.words.FirstWord.{FirstWord}
use Rattle.set_script.specs.declared.words.FirstWord.TheVariants as firsts
use Rattle.set_script.specs.declared.words.AddWord.{AddWord}
use Rattle.set_script.specs.declared.words.AddWord.TheVariants as adds_words
use Rattle.set_script.specs.declared.words.FlushWord.{FlushWord}
use Rattle.set_script.specs.declared.words.FlushWord.TheVariants as flushes
use Rattle.set_script.specs.declared.words.ItemWord.{ItemWord}
use Rattle.set_script.specs.declared.words.ItemWord.TheVariants as items
use Rattle.set_script.specs.declared.words.OptionWord.{OptionWord}
use Rattle.set_script.specs.declared.words.OptionWord.TheVariants as options
use Rattle.set_script.specs.Limits.{most_elements}
use Rattle.set_script.specs.Values.{IsPart, IsLife, IsSize}
use Rattle.set_script.specs.declared.words.TypeWord.{TypeWord}
use Rattle.set_script.proofs.ExpressionLaws.{kind_by_has}
use Rattle.set_script.specs.Names.{family_of, key_bytes, has_room, is_set, set_place, may_declare, new_name, item_of, option_of}
use Rattle.set_script.specs.Changes.{empty, no_options, declaration, declared, with_flag, with_timeout, with_size, with_gc_interval, with_policy, with_comment, with_elements, life_expiry, life, expiry, comment_of, adds, change, with_steps, flush, at_moment, commit, abort, round, begun, with_commit, ended, finished_script}
use Rattle.set_script.specs.Script as form
use Rattle.set_script.specs.ScriptText.{IsScriptText}
use Rattle.listing_laws.specs.Listing.{IsComment, IsNameWord, AreApart}
use Rattle.listing_laws.proofs.GrowingLaws.{none_passes, pairs-push, item_of as item_at}
use Rattle.listing_laws.proofs.TokenBytes.{text_made}
use Rattle.listing_laws.proofs.FormValues.{Yields, yields_bind, yields_then, yields_done, yields_nowhere, yields_either, yields_many, yields_line, yields_lines, yields_word, yields_meaning, yields_lined, yields_name, yields_text}

-- A life that a text gives: it is in a set whose elements may expire, and no longer than the longest time.
abbrev IsLifeIn : Bool → Option ℕ → Type 0
IsLifeIn timed life = (t : ℕ) → life ≡ Some t → (timed ≡ true) × (t ≤ longest_time)

-- an interval of one value
abbrev IsOne : Interval → Type 0
IsOne p = p.high ≡ p.low

-- An element as a text says it at this moment, of a set with this declaration.
pub record IsSaid (d : SetDecl) (now : ℕ) (e : NewElement) : Type 0 where
  pub single : d.interval ≡ false → All (λ (p : Interval). p.high ≡ p.low) e.parts
  pub timed : IfSome e.expiry (λ t. (d.timed ≡ true) × (t ≤ now + longest_time))
  pub comment : IsComment e.comment

abbrev pub SaysStep : List SetDecl → Step → Type 0
SaysStep schema (Change line set verb e now) = (d : SetDecl) × (slice_get schema set ≡ Some d) × IsSaid d now e
SaysStep schema (Flush line set now) = Unit {0}
SaysStep schema (Commit now) = Unit {0}
SaysStep schema Abort = Unit {0}

abbrev Says : List SetDecl → List Step → Type 0
Says schema steps = All (SaysStep schema) steps

-- A set as a text declares it.
pub record IsDeclared (d : SetDecl) : Type 0 where
  pub table : IsNameWord d.table
  pub name : IsNameWord d.name
  pub narrow : sum_by key_bytes d.kinds ≤ 64
  pub size : IfSome d.size (λ n. (1 ≤ n) × (n ≤ most_elements))
  pub timeout : (t : ℕ) → d.timeout ≡ Some t → (d.timed ≡ true) × (t ≤ longest_time)

-- Elements: their intervals.
more_single : (wide : Bool) (ks : List Kind) (before : List Interval) → (wide ≡ false → All IsOne before) → Yields (form.more_parts wide ks before) (λ parts. wide ≡ false → All IsOne parts)
more_single wide [] before h = yields_done (λ (parts : List Interval). wide ≡ false → All IsOne parts) before h
more_single wide (kind ∷ ks) before h =
    yields_then (λ u1. yields_then (λ u2. yields_then (λ u3. yields_bind (yields_meaning (reasons.Value ∷ []) (IsPart wide kind) (λ (p : Interval). wide ≡ false → IsOne p) (λ t p is. is.1))
    (λ p one. more_single wide ks (before ++ p ∷ []) (λ narrow. All-push IsOne before p (h narrow) (one narrow))))))

all_single : (wide : Bool) (ks : List Kind) → Yields (form.all_parts wide ks) (λ p. wide ≡ false → All IsOne p.1)
all_single wide [] = yields_nowhere (λ (p : ℕ × List Interval). wide ≡ false → All IsOne p.1)
all_single wide (kind ∷ ks) =
    yields_bind (yields_lined (reasons.Value ∷ []) (IsPart wide kind) (λ (p : ℕ × Interval). wide ≡ false → IsOne p.1) (λ t p is. is.1))
    (λ p one. yields_bind (more_single wide ks (p.1 ∷ []) (λ narrow. All-push IsOne [] p.1 (All-nil IsOne) (one narrow)))
    (λ parts h. yields_done (λ (q : ℕ × List Interval). wide ≡ false → All IsOne q.1) (p.0, parts) h))

-- Options of an element.
record HasOptions (timed : Bool) (o : Options) : Type 0 where
  timeout : IsLifeIn timed o.timeout
  expires : IsLifeIn timed o.expires
  comment : IsComment (comment_of o.comment)

no_comment : IsComment []
no_comment = record { all = refl; short = omega arith }

no_life : (timed : Bool) → IsLifeIn timed None
no_life timed = λ t e. absurd (cc e)

one_life : (timed : Bool) (t : ℕ) → timed ≡ true → t ≤ longest_time → IsLifeIn timed (Some t)
one_life timed t on le = λ u e. let same : t ≡ u = cc e in (on, subst (λ (z : ℕ). z ≤ longest_time) same le)

time_short : (text : List ℕ) (t : ℕ) → IsTime text t → t ≤ longest_time
time_short text t is = is.within

life_short : (text : List ℕ) (t : ℕ) → IsLife text t → t ≤ longest_time
life_short text t (inl never) = subst (λ (z : ℕ). z ≤ longest_time) (sym never.1) (omega arith)
life_short text t (inr other) = other.1.within

-- what the choice of an option's word needs of the set
abbrev Needs : Bool → OptionWord → Type 0
Needs timed options.Timeout = timed ≡ true
Needs timed options.Expires = timed ≡ true
Needs timed options.Comment = Unit {0}

-- the word that the first of three tests chooses
chosen : (p q r : Bool) (w : OptionWord) → cond p (Some options.Timeout) (cond q (Some options.Expires) (cond r (Some options.Comment) None)) ≡ Some w
    → (timed : Bool) → (p ≡ true → timed ≡ true) → (q ≡ true → timed ≡ true) → Needs timed w
chosen true q r w h timed f g = let same : options.Timeout ≡ w = cc h in subst (Needs timed) same (f refl)
chosen false true r w h timed f g = let same : options.Expires ≡ w = cc h in subst (Needs timed) same (g refl)
chosen false false true w h timed f g = let same : options.Comment ≡ w = cc h in subst (Needs timed) same tt
chosen false false false w h timed f g = absurd (cc h)

between : (a b c : Bool) → (a && b && c) ≡ true → b ≡ true
between true true c h = refl
between true false c h = absurd (cc h)
between false b c h = absurd (cc h)

option_needs : (timed : Bool) (o : Options) (text : List ℕ) (w : OptionWord) → option_of timed o text ≡ Some w → Needs timed w
option_needs timed o text w h = chosen _ _ _ w h timed (between (bytes_eq text (codes "timeout")) timed _) (between (bytes_eq text (codes "expires")) timed _)

option_behind : (timed : Bool) (o : Options) → HasOptions timed o → (w : OptionWord) → Needs timed w → Yields (form.option_behind o w) (HasOptions timed)
option_behind timed o k options.Timeout on =
    yields_then (λ u. yields_bind (yields_meaning (reasons.Time ∷ []) IsLife (λ t. t ≤ longest_time) life_short)
    (λ t le. yields_done (HasOptions timed) (record o { timeout = Some t }) (record { timeout = one_life timed t on le; expires = k.expires; comment = k.comment })))
option_behind timed o k options.Expires on =
    yields_then (λ u. yields_bind (yields_meaning (reasons.Time ∷ []) IsTime (λ t. t ≤ longest_time) time_short)
    (λ t le. yields_done (HasOptions timed) (record o { expires = Some t }) (record { timeout = k.timeout; expires = one_life timed t on le; comment = k.comment })))
option_behind timed o k options.Comment on =
    yields_then (λ u. yields_bind yields_text (λ c is. yields_done (HasOptions timed) (record o { comment = Some c }) (record { timeout = k.timeout; expires = k.expires; comment = is })))

option_or_break : (timed : Bool) (o : Options) → HasOptions timed o → Yields (form.option_or_break timed o) (HasOptions timed)
option_or_break timed o k =
    yields_either (yields_then (λ u. yields_done (HasOptions timed) o k))
    (yields_bind (yields_word [] (λ t. option_of timed o t.bytes) (Needs timed) (λ t w bytes is. option_needs timed o t.bytes w is)) (λ w on. option_behind timed o k w on))

all_options : (timed : Bool) → Yields (many (form.option_or_break timed) no_options) (HasOptions timed)
all_options timed = yields_many (form.option_or_break timed) (HasOptions timed) (option_or_break timed) no_options (record { timeout = no_life timed; expires = no_life timed; comment = no_comment })

-- the expiry of an added element
life_expires : (now : ℕ) (timed : Bool) (l : Option ℕ) → IsLifeIn timed l → IfSome (life_expiry now l) (λ t. (timed ≡ true) × (t ≤ now + longest_time))
life_expires now timed None h = tt
life_expires now timed (Some t) h = go (nat_lt 0 t) where
  go : (b : Bool) → IfSome (cond b (Some (now + t)) None) (λ t. (timed ≡ true) × (t ≤ now + longest_time))
  go true = let k = h t refl in (k.0, omega (arith, k.1))
  go false = tt

life_in : (timed : Bool) (default l : Option ℕ) → IsLifeIn timed default → IsLifeIn timed l → IsLifeIn timed (life default l)
life_in timed default None h k = h
life_in timed default (Some t) h k = k

expires : (now : ℕ) (timed : Bool) (default : Option ℕ) (o : Options) → IsLifeIn timed default → HasOptions timed o → IfSome (expiry now default o) (λ t. (timed ≡ true) × (t ≤ now + longest_time))
expires now timed default o h k = go o.expires k.expires where
  go : (x : Option ℕ) → IsLifeIn timed x → IfSome (elim x as (λ _. Option ℕ) [ Some t ↦ Some (now + t) | None ↦ life_expiry now (life default o.timeout) ]) (λ t. (timed ≡ true) × (t ≤ now + longest_time))
  go (Some t) is = let m = is t refl in (m.0, omega (arith, m.1))
  go None is = life_expires now timed (life default o.timeout) (life_in timed default o.timeout h k.timeout)

-- Elements.
module _ (schema : List SetDecl) (target : Target) (s : SetDecl) (at : slice_get schema target.set ≡ Some s) (lives : IsLifeIn s.timed s.timeout) where
  change_says : (line : ℕ) (parts : List Interval) (o : Options) → (s.interval ≡ false → All IsOne parts) → HasOptions s.timed o → SaysStep schema (change target s line parts o)
  change_says line parts o single k = (s, at, record { single = single; timed = by-time (adds target.verb); comment = by-comment (adds target.verb) }) where
    by-time : (b : Bool) → IfSome (cond b (expiry target.now s.timeout o) None) (λ t. (s.timed ≡ true) × (t ≤ target.now + longest_time))
    by-time true = expires target.now s.timed s.timeout o lives k
    by-time false = tt

    by-comment : (b : Bool) → IsComment (cond b (comment_of o.comment) [])
    by-comment true = k.comment
    by-comment false = no_comment

  element_says : (before : List Step) → Says schema before → Yields (form.element target s before) (λ steps. Says schema steps)
  element_says before h =
      yields_bind (all_single s.interval s.kinds) (λ p single. yields_bind (all_options s.timed)
      (λ o k. yields_done (λ (steps : List Step). Says schema steps) (before ++ change target s p.0 p.1 o ∷ []) (All-push (SaysStep schema) before (change target s p.0 p.1 o) h (change_says p.0 p.1 o single k))))

  list_item_says : (before : List Step) (b : Bool) → Says schema before → Yields (form.list_item target s (before, b)) (λ r. Says schema r.0)
  list_item_says before true h = yields_bind (element_says before h) (λ steps k. yields_done (λ (r : List Step × Bool). Says schema r.0) (steps, false) k)
  list_item_says before false h = yields_then (λ u. yields_then (λ v. yields_done (λ (r : List Step × Bool). Says schema r.0) (before, true) h))

  list_says : (before : List Step) → Says schema before → Yields (form.list target s before) (λ steps. Says schema steps)
  list_says before h =
      yields_then (λ u. yields_then (λ v. yields_bind (yields_many (form.list_item target s) (λ (r : List Step × Bool). Says schema r.0) (λ r k. list_item_says r.0 r.1 k) (before, true) h)
      (λ r k. yields_then (λ w. yields_done (λ (steps : List Step). Says schema steps) r.0 k))))

-- The kinds of a set.
abbrev AreNarrow : List Kind → Type 0
AreNarrow ks = sum_by key_bytes ks ≤ 64

narrow_more : (ks : List Kind) (kind : Kind) → has_room ks kind ≡ true → AreNarrow (ks ++ kind ∷ [])
narrow_more ks kind h =
    let fits = leb-true (sum_by key_bytes ks + key_bytes kind) 64 (and_parts (nat_lt (length ks) 16) (nat_le (sum_by key_bytes ks + key_bytes kind) 64) h).1 in
    let all = sum_by-append key_bytes ks (kind ∷ []) in
    let one = sum_by-cons key_bytes kind [] in
    omega (arith, fits, all, one)

kind_fits : (w : TypeWord) (ks : List Kind) → Yields (form.kind_by w ks) (λ kind. AreNarrow (ks ++ kind ∷ []))
kind_fits w ks = record { each = λ ts kind made is. narrow_more ks kind (kind_by_has w ks ts kind is) }

type_narrow : Yields form.type_item AreNarrow
type_narrow =
    yields_then (λ w. yields_bind (kind_fits w []) (λ k h. yields_many (form.more_kinds w) AreNarrow (λ ks n. yields_then (λ v. yields_bind (kind_fits w ks) (λ kind m. yields_done AreNarrow (ks ++ kind ∷ []) m))) (k ∷ []) h))

-- A set that is being declared after these, with the steps up to it. Its elements come last, and the steps with them say
-- what its declaration lets them say.
record Declares (schema : List SetDecl) (s : Declaration × List Step) : Type 0 where
  place : s.0.target.set ≡ length schema
  is : IsDeclared s.0.decl
  apart : All (λ (a : SetDecl). AreApart a s.0.decl) schema
  steps : (d : SetDecl) → (s.0.elements ≡ true → d ≡ s.0.decl) → Says (schema ++ d ∷ []) s.1

still_there : {A : Type 0} (xs : List A) (y : A) (i : ℕ) (x : A) → slice_get xs i ≡ Some x → slice_get (xs ++ y ∷ []) i ≡ Some x
still_there [] y i x h = absurd (cc h)
still_there (a ∷ xs) y zero x h = h
still_there (a ∷ xs) y (suc i) x h = still_there xs y i x h

last_there : {A : Type 0} (xs : List A) (y : A) → slice_get (xs ++ y ∷ []) (length xs) ≡ Some y
last_there [] y = refl
last_there (a ∷ xs) y = last_there xs y

step_stays : (schema : List SetDecl) (d : SetDecl) (s : Step) → SaysStep schema s → SaysStep (schema ++ d ∷ []) s
step_stays schema d (Change line set verb e now) k = (k.0, still_there schema d set k.0 k.1, k.2)
step_stays schema d (Flush line set now) k = tt
step_stays schema d (Commit now) k = tt
step_stays schema d Abort k = tt

steps_stay : (schema : List SetDecl) (d : SetDecl) (steps : List Step) → Says schema steps → Says (schema ++ d ∷ []) steps
steps_stay schema d steps h = λ i x lt. step_stays schema d _ (h i x lt)

-- no item comes after the elements
item_open : (b : Declaration) (text : List ℕ) (w : ItemWord) → item_of b text ≡ Some w → b.elements ≡ false
item_open b text w h = go b.elements _ h where
  go : (e : Bool) (o : Option ItemWord) → cond e None o ≡ Some w → e ≡ false
  go true o k = absurd (cc k)
  go false o k = refl

-- a set and steps before its elements
record IsOpen (schema : List SetDecl) (b : Declaration) (steps : List Step) : Type 0 where
  declares : Declares schema (b, steps)
  none : b.elements ≡ false

module _ (schema : List SetDecl) (steps : List Step) where
  -- another declaration in its place
  redeclares : (b c : Declaration) → IsOpen schema b steps → c.target.set ≡ length schema → IsDeclared c.decl → All (λ (a : SetDecl). AreApart a c.decl) schema → Declares schema (c, steps)
  redeclares b c k place is apart = record { place = place; is = is; apart = apart; steps = λ d same. k.declares.steps d (λ e. absurd (true≢false (sym e ∙ k.none))) }

  with_one_flag : (b : Declaration) (f : Flag) → IsOpen schema b steps → IsOpen schema (with_flag b f) steps
  with_one_flag b flags.Interval k =
      let is : IsDeclared b.decl = k.declares.is in
      record { declares = redeclares b (with_flag b flags.Interval) k k.declares.place (record { table = is.table; name = is.name; narrow = is.narrow; size = is.size; timeout = is.timeout }) k.declares.apart; none = k.none }
  with_one_flag b flags.Timeout k =
      let is : IsDeclared b.decl = k.declares.is in
      record { declares = redeclares b (with_flag b flags.Timeout) k k.declares.place (record { table = is.table; name = is.name; narrow = is.narrow; size = is.size; timeout = λ t e. (refl, (is.timeout t e).1) }) k.declares.apart; none = k.none }
  with_one_flag b flags.Disjoint k =
      let is : IsDeclared b.decl = k.declares.is in
      record { declares = redeclares b (with_flag b flags.Disjoint) k k.declares.place (record { table = is.table; name = is.name; narrow = is.narrow; size = is.size; timeout = is.timeout }) k.declares.apart; none = k.none }

  one_flag : (b : Declaration) → IsOpen schema b steps → Yields (form.flag b) (λ c. IsOpen schema c steps)
  one_flag b k = yields_then (λ f. yields_done (λ (c : Declaration). IsOpen schema c steps) (with_flag b f) (with_one_flag b f k))

  by_item : (b : Declaration) (w : ItemWord) → IsOpen schema b steps → Yields (form.item_behind (b, steps) w) (Declares schema)
  by_item b items.Flags k =
      yields_bind (one_flag b k) (λ b1 k1. yields_bind (yields_many form.more_flags (λ (c : Declaration). IsOpen schema c steps) (λ c m. yields_then (λ u. one_flag c m)) b1 k1)
      (λ b2 k2. yields_done (Declares schema) (b2, steps) k2.declares))
  by_item b items.Timeout k =
      let is : IsDeclared b.decl = k.declares.is in
      yields_bind (yields_meaning (reasons.Time ∷ []) IsTime (λ t. t ≤ longest_time) time_short)
      (λ t le. yields_done (Declares schema) (with_timeout b t, steps)
      (redeclares b (with_timeout b t) k k.declares.place (record { table = is.table; name = is.name; narrow = is.narrow; size = is.size; timeout = one_life true t refl le }) k.declares.apart))
  by_item b items.Size k =
      let is : IsDeclared b.decl = k.declares.is in
      yields_bind (yields_meaning (reasons.Number ∷ []) IsSize (λ n. (1 ≤ n) × (n ≤ most_elements)) (λ t n h. (h.1, h.0.0)))
      (λ n fits. yields_done (Declares schema) (with_size b n, steps)
      (redeclares b (with_size b n) k k.declares.place (record { table = is.table; name = is.name; narrow = is.narrow; size = fits; timeout = is.timeout }) k.declares.apart))
  by_item b items.GcInterval k = yields_then (λ t. yields_done (Declares schema) (with_gc_interval b, steps) (redeclares b (with_gc_interval b) k k.declares.place k.declares.is k.declares.apart))
  by_item b items.Policy k = yields_then (λ u. yields_done (Declares schema) (with_policy b, steps) (redeclares b (with_policy b) k k.declares.place k.declares.is k.declares.apart))
  by_item b items.Comment k = yields_then (λ c. yields_done (Declares schema) (with_comment b, steps) (redeclares b (with_comment b) k k.declares.place k.declares.is k.declares.apart))
  by_item b items.Elements k =
      let at : slice_get (schema ++ b.decl ∷ []) b.target.set ≡ Some b.decl = ap (slice_get (schema ++ b.decl ∷ [])) k.declares.place ∙ last_there schema b.decl in
      let before : Says (schema ++ b.decl ∷ []) steps = k.declares.steps b.decl (λ e. refl) in
      yields_then (λ u. yields_bind (list_says (schema ++ b.decl ∷ []) b.target b.decl at k.declares.is.timeout steps before)
      (λ behind h. yields_done (Declares schema) (with_elements b, behind)
      (record { place = k.declares.place; is = k.declares.is; apart = k.declares.apart; steps = λ d same. subst (λ (z : SetDecl). Says (schema ++ z ∷ []) behind) (sym (same refl)) h })))

item_says : (schema : List SetDecl) (s : Declaration × List Step) → Declares schema s → Yields (form.item s) (Declares schema)
item_says schema (b, steps) k =
    yields_bind (yields_word [] (λ t. item_of b t.bytes) (λ w. b.elements ≡ false) (λ t w bytes is. item_open b t.bytes w is))
    (λ w none. by_item schema steps b w (record { declares = k; none = none }))

-- what every statement keeps
record IsSayable (d : Draft) : Type 0 where
  steps : Says d.schema d.steps
  sections : All (Says d.schema) d.sections
  sets : All IsDeclared d.schema
  apart : AllPairs AreApart d.schema

-- the name of a set that may be declared
record IsNewName (d : Draft) (p : Family × List ℕ) (n : List ℕ) : Type 0 where
  word : IsNameWord n
  apart : All (λ (a : SetDecl). is_set p.0 p.1 n a ≡ false) d.schema

none_there : {A : Type 0} (o : Option A) → not (is_some o) ≡ true → o ≡ None
none_there None h = refl
none_there (Some a) h = absurd (cc h)

is_new_name : (d : Draft) (p : Family × List ℕ) (text n : List ℕ) → list_all is_word_byte text ≡ true → new_name d p.0 p.1 text ≡ Some n → IsNewName d p n
is_new_name d p text n bytes h =
    let k = cond_some (may_declare d p.0 p.1 text) text n h in
    let most = and_parts _ _ k.0 in
    let free = none_passes (is_set p.0 p.1 text) d.schema (none_there (set_place d.schema p.0 p.1 text) most.1) in
    let named = (and_parts _ _ (and_parts _ _ most.0).0).0 in
    subst (IsNewName d p) k.1 (record { word = record { named = named; bytes = bytes }; apart = free })

new_set_says : (d : Draft) (p : Family × List ℕ) → Yields (form.new_set d p) (IsNewName d p)
new_set_says d p = yields_word (reasons.Set ∷ []) (λ t. new_name d p.0 p.1 t.bytes) (IsNewName d p) (λ t n bytes is. is_new_name d p t.bytes n bytes is)

table_says : Yields form.table_place (λ p. IsNameWord p.1)
table_says = yields_bind yields_name (λ w is. go w is (family_of w)) where
  go : (w : List ℕ) → IsNameWord w → (f : Option Family) → Yields (form.table_behind w f) (λ p. IsNameWord p.1)
  go w is None = yields_done (λ (p : Family × List ℕ). IsNameWord p.1) (families.Ip, w) is
  go w is (Some family) = yields_bind yields_name (λ t k. yields_done (λ (p : Family × List ℕ). IsNameWord p.1) (family, t) k)

with_set : (d : Draft) (s : Declaration × List Step) → IsSayable d → Declares d.schema s → IsSayable (declared s.0 s.1 d)
with_set d s k made = record {
  steps = made.steps s.0.decl (λ e. refl);
  sections = λ i x lt. steps_stay d.schema s.0.decl _ (k.sections i x lt);
  sets = All-push IsDeclared d.schema s.0.decl k.sets made.is;
  apart = pairs-push AreApart d.schema s.0.decl k.apart made.apart;
}

set_body_says : (d : Draft) (p : Family × List ℕ) (n : List ℕ) → IsSayable d → IsNameWord p.1 → IsNewName d p n → Yields (form.set_body d p n) IsSayable
set_body_says d p n k table new =
    yields_then (λ u. yields_then (λ v. yields_bind type_narrow (λ ks narrow.
    let begun : Declares d.schema (declaration d p.0 p.1 n ks, d.steps) = record {
      place = refl;
      is = record { table = table; name = new.word; narrow = narrow; size = tt; timeout = no_life false };
      apart = new.apart;
      steps = λ e same. steps_stay d.schema e d.steps k.steps;
    } in
    yields_bind (yields_lines separates form.item (Declares d.schema) (item_says d.schema) ((declaration d p.0 p.1 n ks, d.steps), false) begun)
    (λ s made. yields_then (λ w. yields_done IsSayable (declared s.0 s.1 d) (with_set d s k made))))))

set_block_says : (p : Family × List ℕ) → IsNameWord p.1 → (d : Draft) → IsSayable d → Yields (form.set_block p d) IsSayable
set_block_says p table d k = yields_then (λ u. yields_bind (new_set_says d p) (λ n new. set_body_says d p n k table new))

-- Statements.
list_of_says : (schema : List SetDecl) (target : Target) (s : Option SetDecl) → slice_get schema target.set ≡ s → ((decl : SetDecl) → slice_get schema target.set ≡ Some decl → IsLifeIn decl.timed decl.timeout)
    → (before : List Step) → Says schema before → Yields (form.list_of target s before) (λ steps. Says schema steps)
list_of_says schema target None at lives before h = yields_nowhere (λ (steps : List Step). Says schema steps)
list_of_says schema target (Some s) at lives before h = list_says schema target s at (lives s at) before h

with_others : (d : Draft) (steps : List Step) → IsSayable d → Says d.schema steps → IsSayable (with_steps d steps)
with_others d steps k h = record { steps = h; sections = k.sections; sets = k.sets; apart = k.apart }

changes_say : (d : Draft) (verb : Verb) → IsSayable d → Yields (form.changes d verb) IsSayable
changes_say d verb k =
    yields_then (λ p. yields_then (λ i. yields_bind
    (list_of_says d.schema (record { set = i; verb = verb; now = d.moment }) (slice_get d.schema i) refl (λ s at. (item_at IsDeclared d.schema i s k.sets at).timeout) d.steps k.steps)
    (λ behind h. yields_done IsSayable (with_steps d behind) (with_others d behind k h))))

element_changes_say : (d : Draft) (verb : Verb) → IsSayable d → Yields (form.element_changes d verb) IsSayable
element_changes_say d verb k = yields_then (λ u. changes_say d verb k)

table_block_says : (d : Draft) → IsSayable d → Yields (form.table_block d) IsSayable
table_block_says d k =
    yields_bind table_says (λ p table. yields_then (λ u. yields_bind (yields_lines separates (form.set_block p) IsSayable (set_block_says p table) (d, true) k)
    (λ d1 k1. yields_then (λ v. yields_done IsSayable d1 k1))))

add_says : (d : Draft) (w : AddWord) → IsSayable d → Yields (form.add_behind d w) IsSayable
add_says d adds_words.Table k = yields_then (λ p. yields_done IsSayable d k)
add_says d adds_words.Set k = yields_bind table_says (λ p table. yields_bind (new_set_says d p) (λ n new. set_body_says d p n k table new))
add_says d adds_words.Element k = changes_say d verbs.Add k

push_says : (d : Draft) (s : Step) → IsSayable d → SaysStep d.schema s → Says d.schema (d.steps ++ s ∷ [])
push_says d s k is = All-push (SaysStep d.schema) d.steps s k.steps is

flush_says : (line : ℕ) (d : Draft) (w : FlushWord) → IsSayable d → Yields (form.flush_behind line d w) IsSayable
flush_says line d flushes.Set k = yields_then (λ p. yields_then (λ i. yields_done IsSayable (flush d line i) (with_others d (d.steps ++ Flush line i d.moment ∷ []) k (push_says d (Flush line i d.moment) k tt))))
flush_says line d flushes.Ruleset k = yields_done IsSayable d k

-- the end of a section
ended_says : (d : Draft) → IsSayable d → All (Says d.schema) (ended d)
ended_says d k = All-push (Says d.schema) d.sections (with_commit d.moment d.steps) k.sections (go (is_open d.steps)) where
  go : (b : Bool) → Says d.schema (cond b (d.steps ++ Commit d.moment ∷ []) d.steps)
  go true = push_says d (Commit d.moment) k tt
  go false = k.steps

statement_behind : (line : ℕ) (d : Draft) (w : FirstWord) → IsSayable d → Yields (form.statement_behind line d w) IsSayable
statement_behind line d firsts.Add k = yields_then (λ w. add_says d w k)
statement_behind line d firsts.Table k = table_block_says d k
statement_behind line d firsts.Create k = element_changes_say d verbs.Create k
statement_behind line d firsts.Delete k = element_changes_say d verbs.Delete k
statement_behind line d firsts.Destroy k = element_changes_say d verbs.Destroy k
statement_behind line d firsts.Flush k = yields_then (λ w. flush_says line d w k)
statement_behind line d firsts.At k = yields_then (λ n. yields_done IsSayable (at_moment d n) (record { steps = k.steps; sections = k.sections; sets = k.sets; apart = k.apart }))
statement_behind line d firsts.Commit k = yields_done IsSayable (commit d) (record { steps = push_says d (Commit d.moment) k tt; sections = k.sections; sets = k.sets; apart = k.apart })
statement_behind line d firsts.Abort k = yields_done IsSayable (abort d) (record { steps = push_says d Abort k tt; sections = k.sections; sets = k.sets; apart = k.apart })
statement_behind line d firsts.Round k = yields_done IsSayable (round d) (record { steps = All-nil (SaysStep d.schema); sections = ended_says d k; sets = k.sets; apart = k.apart })

statement_says : (d : Draft) → IsSayable d → Yields (form.statement d) IsSayable
statement_says d k = yields_then (λ w. yields_bind (statement_behind w.0 d w.1 k) (λ d1 k1. yields_done IsSayable (begun d1) (record { steps = k1.steps; sections = k1.sections; sets = k1.sets; apart = k1.apart })))

empty_says : IsSayable empty
empty_says = record { steps = All-nil (SaysStep []); sections = All-nil (Says []); sets = All-nil IsDeclared; apart = λ i j d lt within. absurd (omega (arith, within)) }

-- a script that a text says
pub record IsSaidScript (s : Script) : Type 0 where
  pub steps : All (All (SaysStep s.schema)) s.sections
  pub sets : All IsDeclared s.schema
  pub apart : AllPairs AreApart s.schema

script_yields : Yields form.script IsSaidScript
script_yields =
    yields_bind (yields_bind (yields_line separates form.statement IsSayable statement_says (empty, true) empty_says)
    (λ d k. yields_done IsSaidScript (finished_script d.0) (record { steps = ended_says d.0 k; sets = k.sets; apart = k.apart })))
    (λ s k. yields_then (λ u. yields_done IsSaidScript s k))

pub script_says : (text : List ℕ) (s : Script) → IsScriptText text s → IsSaidScript s
unfolding IsScriptText
script_says text s means = script_yields.each (text_tokens text) s (text_made text) means
