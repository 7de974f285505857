-- No token that is taken out of a text holds a line feed.
use Rattle.std.proofs.Common.{◌≡◌, refl, sym, ◌∙◌, ap, subst, ℕ, zero, suc, ◌+◌, ◌-◌, ◌≤◌, ◌<◌, List, [], ◌∷◌, ◌++◌, length, take, drop, get_or, Bool, true, false, ◌&&◌, ◌||◌, not, Option, Some, None, cond, count_by, map, zero-add, arith}
use Rattle.std.specs.List.{cons_option, list_any, filter}
use Rattle.std.specs.Option.{option_map}
use Rattle.std.proofs.lemmas.Bool.Decides.{nat_tests}
use Rattle.std.proofs.lemmas.List.Sums.{sum_by-cons}
use Rattle.token_forms.specs.declared.token.TokenKind.{TokenKind}
use Rattle.token_forms.specs.declared.token.TokenKind.TheVariants as kinds
use Rattle.token_forms.specs.Bytes.{is_line_feed as feed}
use Rattle.token_forms.specs.Token.{Spelling, is_break}
use Rattle.token_forms.specs.Tokens.{tokens, tokens_from, piece, next_line}
use Rattle.token_forms.specs.TextTokens.{linked, is_change_word}
use Rattle.token_forms.proofs.FeedLaws.{no_feeds}
use Rattle.ruleset_sets.specs.declared.role.Role.{Role}
use Rattle.ruleset_sets.specs.declared.role.Role.TheVariants as roles
use Rattle.ruleset_sets.specs.declared.role_token.RoleToken.{RoleToken}
use Rattle.ruleset_sets.specs.declared.sieve.SkipReason.{SkipReason}
use Rattle.ruleset_sets.specs.declared.sieve.SkipReason.TheVariants as reasons
use Rattle.ruleset_sets.specs.declared.sieve.Spot.{Spot}
use Rattle.ruleset_sets.specs.declared.sieve.Spot.TheVariants as spots
use Rattle.ruleset_sets.specs.declared.item.Level.{Level}
use Rattle.ruleset_sets.specs.declared.item.Level.TheVariants as levels
use Rattle.ruleset_sets.specs.Roles.{role_of, is_line_feed, opens}
use Rattle.ruleset_sets.specs.RoleTokens.{role_token_of, role_tokens}
use Rattle.set_script.specs.declared.expression.Expression.{Expression}
use Rattle.set_script.specs.declared.expression.ExpressionWord.{ExpressionWord}
use Rattle.set_script.specs.Expressions.{grown_by}
use Rattle.ruleset_sets.specs.Sieve.{fate, expression_fate, is_dropped, spot_behind, dropped_among, body}
use Rattle.ruleset_sets.specs.Inner.{before_inner}
use Rattle.ruleset_sets.specs.Items.{cuts_from, first_item}
use Rattle.ruleset_sets.specs.Kept.{IsKept, HaveSameLines, may_go, goes_for, taken_behind, taken_from, taken_in, all_taken, is_within, blank_if, kept_byte}

abbrev Each : {X : Type 0} → (X → Type 0) → List X → Type 0
Each P [] = Unit {0}
Each P (x ∷ xs) = P x × Each P xs

each_take : {X : Type 0} (P : X → Type 0) (n : ℕ) (xs : List X) → Each P xs → Each P (take n xs)
each_take P zero [] h = tt
each_take P zero (x ∷ xs) h = tt
each_take P (suc n) [] h = tt
each_take P (suc n) (x ∷ xs) h = (h.0, each_take P n xs h.1)

each_drop : {X : Type 0} (P : X → Type 0) (n : ℕ) (xs : List X) → Each P xs → Each P (drop n xs)
each_drop P zero xs h = h
each_drop P (suc n) [] h = tt
each_drop P (suc n) (x ∷ xs) h = each_drop P n xs h.1

each_append : {X : Type 0} (P : X → Type 0) (xs ys : List X) → Each P xs → Each P ys → Each P (xs ++ ys)
each_append P [] ys h k = k
each_append P (x ∷ xs) ys h k = (h.0, each_append P xs ys h.1 k)

-- none of so many bytes of a text from a place on is a line feed
abbrev IsClear : List ℕ → ℕ → ℕ → Type 0
IsClear whole from size = (k : ℕ) → from ≤ k → k < from + size → feed (get_or whole k 0) ≡ false

abbrev ClearSpelling : List ℕ → Spelling → Type 0
ClearSpelling whole t = is_break t.kind ≡ false → IsClear whole t.from (length t.bytes)

abbrev ClearToken : List ℕ → RoleToken → Type 0
ClearToken whole p = is_line_feed p.role ≡ false → IsClear whole p.from p.size

take_short : (n : ℕ) (xs : List ℕ) → length (take n xs) ≤ n
take_short zero [] = omega arith
take_short zero (x ∷ xs) = omega arith
take_short (suc n) [] = omega arith
take_short (suc n) (x ∷ xs) = let rest = take_short n xs in omega arith

none_at : (bs : List ℕ) (n j : ℕ) → count_by feed (take n bs) ≡ 0 → j < n → feed (get_or bs j 0) ≡ false
none_at [] n j h l = refl
none_at (b ∷ bs) zero j h l = absurd (omega arith)
none_at (b ∷ bs) (suc n) j h l = go (λ i. none_at bs n i) (feed b) refl j l where
  split : cond (feed b) 1 0 + count_by feed (take n bs) ≡ 0
  split = sym (sum_by-cons (λ x. cond (feed x) 1 0) b (take n bs)) ∙ h

  go : ((i : ℕ) → count_by feed (take n bs) ≡ 0 → i < n → feed (get_or bs i 0) ≡ false) → (t : Bool) → feed b ≡ t → (i : ℕ) → i < suc n → feed (get_or (b ∷ bs) i 0) ≡ false
  go later true e i l = let one : 1 + count_by feed (take n bs) ≡ 0 = rw e at split in absurd (omega arith)
  go later false e zero l = e
  go later false e (suc i) l =
      let rest : 0 + count_by feed (take n bs) ≡ 0 = rw e at split in
      let none : count_by feed (take n bs) ≡ 0 = omega arith in
      let below : i < n = omega arith in
      later i none below

-- a list is the end of a text from a place on
abbrev IsRest : List ℕ → ℕ → List ℕ → Type 0
IsRest whole place bs = (j : ℕ) → get_or whole (place + j) 0 ≡ get_or bs j 0

next_rest : (whole : List ℕ) (place b : ℕ) (bs : List ℕ) → IsRest whole place (b ∷ bs) → IsRest whole (place + 1) bs
next_rest whole place b bs h j = let e : place + 1 + j ≡ place + suc j = omega arith in ap (λ k. get_or whole k 0) e ∙ h (suc j)

clear_first : (whole : List ℕ) (line place b : ℕ) (bs : List ℕ) (kind : TokenKind) → IsRest whole place (b ∷ bs) → (piece b bs).kind ≡ Some kind
    → ClearSpelling whole (record { kind = kind; line = line; from = place; bytes = take (piece b bs).size (b ∷ bs) })
clear_first whole line place b bs kind h e no_break k low high =
    let some : 0 < length (b ∷ bs) = omega arith in
    let none : 0 ≡ count_by feed (take (piece b bs).size (b ∷ bs)) = no_feeds (piece b bs) (b ∷ bs) refl some (rw e no_break) in
    let short : length (take (piece b bs).size (b ∷ bs)) ≤ (piece b bs).size = take_short (piece b bs).size (b ∷ bs) in
    let here : place + (k - place) ≡ k = omega arith in
    let inside : k - place < (piece b bs).size = omega arith in
    subst (λ m. feed (get_or whole m 0) ≡ false) here (ap feed (h (k - place)) ∙ none_at (b ∷ bs) (piece b bs).size (k - place) (sym none) inside)

with_piece : (whole : List ℕ) (line place b : ℕ) (bs : List ℕ) (rest : List Spelling) → IsRest whole place (b ∷ bs) → (kind : Option TokenKind) → (piece b bs).kind ≡ kind → Each (ClearSpelling whole) rest
    → Each (ClearSpelling whole) (cons_option (option_map (λ k. record { kind = k; line = line; from = place; bytes = take (piece b bs).size (b ∷ bs) }) kind) rest)
with_piece whole line place b bs rest h None e r = r
with_piece whole line place b bs rest h (Some kind) e r = (clear_first whole line place b bs kind h e, r)

each_clear : (whole : List ℕ) (inside line place : ℕ) (bs : List ℕ) → IsRest whole place bs → Each (ClearSpelling whole) (tokens_from inside line place bs)
each_clear whole zero line place [] h = (λ no_break k low high. absurd (omega arith), tt)
each_clear whole (suc inside) line place [] h = (λ no_break k low high. absurd (omega arith), tt)
each_clear whole (suc inside) line place (b ∷ bs) h = each_clear whole inside (next_line b line) (place + 1) bs (next_rest whole place b bs h)
each_clear whole zero line place (b ∷ bs) h =
    with_piece whole line place b bs _ h (piece b bs).kind refl (each_clear whole ((piece b bs).size - 1) (next_line b line) (place + 1) bs (next_rest whole place b bs h))

no_break : (kind : TokenKind) (line from : ℕ) (bytes : List ℕ) (behind plain : Bool)
    → is_line_feed (role_of (record { kind = kind; line = line; from = from; bytes = bytes; behind = behind; plain = plain })) ≡ false → is_break kind ≡ false
no_break kinds.Break line from bytes behind plain h = h
no_break kinds.Mark line from bytes behind plain h = refl
no_break kinds.Text line from bytes behind plain h = refl
no_break kinds.Word line from bytes behind plain h = refl
no_break kinds.Faulty line from bytes behind plain h = refl
no_break kinds.End line from bytes behind plain h = refl

linked_clear : (whole : List ℕ) (plain behind : Bool) (ts : List Spelling) → Each (ClearSpelling whole) ts → Each (ClearToken whole) (map role_token_of (linked plain behind ts))
linked_clear whole plain behind [] h = tt
linked_clear whole plain behind (t ∷ ts) h = (λ f. h.0 (no_break t.kind t.line t.from t.bytes behind plain f), linked_clear whole plain (is_change_word t.kind t.bytes) ts h.1)

tokens_clear : (whole : List ℕ) → Each (ClearToken whole) (role_tokens whole)
tokens_clear whole = linked_clear whole false false (tokens whole) (each_clear whole 0 1 0 whole (λ j. ap (λ k. get_or whole k 0) (zero-add j)))

-- What is taken out is no line feed.
gone : (r : Role) → may_go r ≡ true → is_line_feed r ≡ false
gone roles.LineFeed h = sym h
gone _ h = refl

gone_for : (why : SkipReason) (r : Role) → goes_for why r ≡ true → is_line_feed r ≡ false
gone_for reasons.Unclosed r h = gone r (first (may_go r) (not (opens r)) h) where
  first : (a b : Bool) → (a && b) ≡ true → a ≡ true
  first true b h = refl
  first false b h = h
gone_for _ r h = gone r h

abbrev placed : Role → Option ExpressionWord → ℕ → ℕ → ℕ → RoleToken
placed r w line from size = record { role = r; word = w; line = line; from = from; size = size }

among_expressions : (w : Option ExpressionWord) (line from size : ℕ) (grown : Option Expression) → is_dropped (expression_fate (placed roles.LineFeed w line from size) grown) ≡ true → is_line_feed roles.LineFeed ≡ false
among_expressions w line from size None h = sym h
among_expressions w line from size (Some part) h = sym h

dropped : (r : Role) (w : Option ExpressionWord) (line from size : ℕ) (spot : Spot) (ps : List RoleToken) → is_dropped (fate spot (placed r w line from size) ps) ≡ true → is_line_feed r ≡ false
dropped roles.LineFeed w line from size spots.Plain ps h = sym h
dropped roles.LineFeed w line from size spots.Types ps h = sym h
dropped roles.LineFeed w line from size (spots.Expressions part) ps h = among_expressions w line from size (grown_by part w) h
dropped roles.LineFeed w line from size spots.Flags ps h = sym h
dropped roles.LineFeed w line from size spots.FlagDropped ps h = sym h
dropped roles.LineFeed w line from size spots.FlagKept ps h = sym h
dropped roles.LineFeed w line from size spots.Tally ps h = sym h
dropped roles.LineFeed w line from size spots.TallyValue ps h = sym h
dropped _ w line from size spot ps h = refl

abbrev ClearAlways : List ℕ → RoleToken → Type 0
ClearAlways whole p = IsClear whole p.from p.size

filter_clear : (whole : List ℕ) (why : SkipReason) (item : List RoleToken) → Each (ClearToken whole) item → Each (ClearAlways whole) (filter (λ p. goes_for why p.role) item)
filter_clear whole why [] h = tt
filter_clear whole why (p ∷ ps) h = go (goes_for why p.role) refl (filter_clear whole why ps h.1) where
  go : (t : Bool) → goes_for why p.role ≡ t → Each (ClearAlways whole) (filter (λ p. goes_for why p.role) ps)
      → Each (ClearAlways whole) (cond t (p ∷ filter (λ p. goes_for why p.role) ps) (filter (λ p. goes_for why p.role) ps))
  go true e rest = (h.0 (gone_for why p.role e), rest)
  go false e rest = rest

dropped_clear : (whole : List ℕ) (spot : Spot) (ps : List RoleToken) → Each (ClearToken whole) ps → Each (ClearAlways whole) (dropped_among spot ps)
dropped_clear whole spot [] h = tt
dropped_clear whole spot (p ∷ ps) h = go (is_dropped (fate spot p ps)) refl (dropped_clear whole (spot_behind spot p) ps h.1) where
  go : (t : Bool) → is_dropped (fate spot p ps) ≡ t → Each (ClearAlways whole) (dropped_among (spot_behind spot p) ps)
      → Each (ClearAlways whole) (cond t (p ∷ dropped_among (spot_behind spot p) ps) (dropped_among (spot_behind spot p) ps))
  go true e rest = (h.0 (dropped p.role p.word p.line p.from p.size spot ps e), rest)
  go false e rest = rest

behind_clear : (whole : List ℕ) (ps : List RoleToken) → Each (ClearToken whole) ps → Each (ClearAlways whole) (taken_behind ps)
behind_clear whole [] h = tt
behind_clear whole (word ∷ ps) h = filter_clear whole reasons.Unclosed ps h.1

taken_clear : (whole : List ℕ) (why : Option SkipReason) (item : List RoleToken) → Each (ClearToken whole) item → Each (ClearAlways whole) (taken_from why item)
taken_clear whole None item h = dropped_clear whole spots.Plain (body item) (each_drop (ClearToken whole) _ item h)
taken_clear whole (Some reasons.HoldsItem) item h =
    each_append (ClearAlways whole) _ _
    (filter_clear whole reasons.NoSet (take (before_inner item) item) (each_take (ClearToken whole) (before_inner item) item h))
    (behind_clear whole (drop (before_inner item) item) (each_drop (ClearToken whole) (before_inner item) item h))
taken_clear whole (Some why) item h = filter_clear whole why item h

cuts_clear : (whole : List ℕ) (inside : ℕ) (level : Level) (ps : List RoleToken) → Each (ClearToken whole) ps → Each (ClearAlways whole) (taken_in (cuts_from inside level ps))
cuts_clear whole zero level [] h = tt
cuts_clear whole (suc inside) level [] h = tt
cuts_clear whole (suc inside) level (p ∷ ps) h = cuts_clear whole inside level ps h.1
cuts_clear whole zero level (p ∷ ps) h =
    each_append (ClearAlways whole) _ _
    (taken_clear whole (first_item level p ps).skipped (take (first_item level p ps).size (p ∷ ps)) (each_take (ClearToken whole) (first_item level p ps).size (p ∷ ps) h))
    (cuts_clear whole ((first_item level p ps).size - 1) (first_item level p ps).level ps h.1)

inside_clear : (whole : List ℕ) (p : RoleToken) (k : ℕ) → ClearAlways whole p → is_within k p ≡ true → feed (get_or whole k 0) ≡ false
inside_clear whole p k h e =
    let low : p.from ≤ k = grind (arith, nat_tests) in
    let high : k < p.from + p.size = grind (arith, nat_tests) in
    h k low high

any_clear : (whole : List ℕ) (taken : List RoleToken) (k : ℕ) → Each (ClearAlways whole) taken → list_any (is_within k) taken ≡ true → feed (get_or whole k 0) ≡ false
any_clear whole [] k h e = absurd (cc e)
any_clear whole (p ∷ ps) k h e = go (is_within k p) refl e (any_clear whole ps k h.1) where
  go : (t : Bool) → is_within k p ≡ t → (t || list_any (is_within k) ps) ≡ true → (list_any (is_within k) ps ≡ true → feed (get_or whole k 0) ≡ false) → feed (get_or whole k 0) ≡ false
  go true f g later = inside_clear whole p k h.0 f
  go false f g later = later g

same_feed : (whole : List ℕ) (taken : List RoleToken) (k : ℕ) → Each (ClearAlways whole) taken → feed (kept_byte taken k (get_or whole k 0)) ≡ feed (get_or whole k 0)
same_feed whole taken k h = go (list_any (is_within k) taken) refl where
  go : (t : Bool) → list_any (is_within k) taken ≡ t → feed (blank_if t (get_or whole k 0)) ≡ feed (get_or whole k 0)
  go true e = sym (any_clear whole taken k h e)
  go false e = refl

pub same_lines : (whole kept : List ℕ) → IsKept whole (all_taken whole) kept → HaveSameLines whole kept
same_lines whole kept h k within = ap feed (h.each k within) ∙ same_feed whole (all_taken whole) k (cuts_clear whole 0 levels.Outside (role_tokens whole) (tokens_clear whole))
