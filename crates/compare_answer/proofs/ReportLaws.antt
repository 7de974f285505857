-- The reports on sets, one after another.
use Rattle.std.proofs.Common.{◌≡◌, refl, sym, ◌∙◌, ap, subst, ℕ, zero, suc, ◌+◌, ◌<◌, Bool, true, false, ◌&&◌, ◌||◌, List, [], ◌∷◌, ◌++◌, length, take, filter, get_or, slice_get, Some, None, append-nil, append_assoc, arith}
use Rattle.std.specs.Prelude.{flat_map, ◌⊎◌}
use Rattle.std.proofs.Common.{inl, inr}
use Rattle.std.specs.List.{list_all, list_any}
use Rattle.std.proofs.lemmas.List.{take_more, length_push}
use Rattle.std.proofs.lemmas.List.Folds.{list_all-append}
use Rattle.std.proofs.lemmas.List.Elements.{filter-append}
use Rattle.std.proofs.lemmas.Grind.{flat_map-append}
use Rattle.set_model.specs.declared.script.SetDecl.{SetDecl}
use Rattle.script_laws.proofs.Lists.{append-either, list_any-append}
use Rattle.set_model.specs.SetState.{State}
use Rattle.compare_answer.specs.Ending.{Ending, LastSet, IsLastSet}
use Rattle.compare_answer.specs.Compared.{Report, IsReport, in_both, in_first, AreReports, only_line, place_in, is_alone, alone_text}
use Rattle.compare_answer.specs.Verdict.{IsVerdict, IsPairVerdict}
use Rattle.compare_answer.specs.Plain.{Adds}

-- The set at a place of a script's end.
pub last-set : (e : Ending) (place : ℕ) (declared : SetDecl) (state : State) (lines : List ℕ) → slice_get e.schema place ≡ Some declared → slice_get e.sets place ≡ Some state → lines ≡ e.lines place
    → IsLastSet e place (record { file = e.file; declared = declared; state = state; at = e.at; lines = lines })
last-set e place declared state lines is_declared is_state are = record { file_is = refl; declared_is = is_declared; state_is = is_state; at_is = refl; lines_are = are }

-- What is said of two such sets.
pub pair-said : (a b : Ending) (place other : ℕ) (s t : LastSet) (same : Bool) (old new : List ℕ) → IsLastSet a place s → IsLastSet b other t → Adds (IsVerdict s t same) old new → Adds (IsPairVerdict a place b other same) old new
pair-said a b place other s t same old new first second h = record { text = h.text; is_text = record { first = s; second = t; is_first = first; is_second = second; verdict = h.is_text }; added = h.added }

-- The report on a set that both scripts have, and on one that only the first has.
pub report-both : (a b : Ending) (place other : ℕ) (d : SetDecl) (same : Bool) (old new : List ℕ) → slice_get a.schema place ≡ Some d → place_in b.schema d ≡ Some other → Adds (IsPairVerdict a place b other same) old new
    → Adds (λ text. IsReport a b place (record { same = same; text = text })) old new
report-both a b place other d same old new declared at h = record { text = h.text; is_text = in_both d other declared at h.is_text; added = h.added }

pub report-alone : (a b : Ending) (place : ℕ) (d : SetDecl) (old new : List ℕ) → slice_get a.schema place ≡ Some d → place_in b.schema d ≡ None → new ≡ old ++ only_line a.file d
    → Adds (λ text. IsReport a b place (record { same = false; text = text })) old new
report-alone a b place d old new declared none wrote = record { text = only_line a.file d; is_text = in_first d declared none refl refl; added = wrote }

pub reports-none : (a b : Ending) (old : List ℕ) → Adds (AreReports a b 0 true) old old
reports-none a b old = record {
  text = [];
  is_text = record { reports = []; one_each = refl; each = λ place r e. absurd (cc e); same_is = refl; text_is = refl };
  added = sym (append-nil old);
}

-- One report more.
pub reports-more : (a b : Ending) (n : ℕ) (same one now : Bool) (old mid new : List ℕ) → Adds (AreReports a b n same) old mid → Adds (λ text. IsReport a b n (record { same = one; text = text })) mid new → now ≡ (same && one)
    → Adds (AreReports a b (n + 1) now) old new
reports-more a b n same one now old mid new h k both =
    let r : Report = record { same = one; text = k.text } in
    let rs = h.is_text.reports in record {
      text = h.text ++ k.text;
      is_text = record {
        reports = rs ++ r ∷ [];
        one_each = length_push rs r ∙ ap (λ m. m + 1) h.is_text.one_each;
        each = λ place x at. each place x (append-either rs (r ∷ []) place x at);
        same_is = both ∙ ap (λ t. t && one) h.is_text.same_is ∙ ap (λ t. list_all (λ (z : Report). z.same) rs && t) (sym (last one)) ∙ sym (list_all-append (λ (z : Report). z.same) rs (r ∷ []));
        text_is = ap (λ t. t ++ k.text) h.is_text.text_is ∙ ap (λ t. flat_map (λ (z : Report). z.text) rs ++ t) (sym (append-nil k.text)) ∙ sym (flat_map-append (λ (z : Report). z.text) rs (r ∷ []));
      };
      added = k.added ∙ ap (λ m. m ++ k.text) h.added ∙ append_assoc old h.text k.text;
    } where
      last : (t : Bool) → (t && true) ≡ t
      last true = refl
      last false = refl

      each : (place : ℕ) (x : Report) → (slice_get h.is_text.reports place ≡ Some x) ⊎ ((q : ℕ) × (slice_get (record { same = one; text = k.text } ∷ []) q ≡ Some x) × (place ≡ length h.is_text.reports + q)) → IsReport a b place x
      each place x (inl at) = h.is_text.each place x at
      each place x (inr (zero, at, is)) =
          let here : n ≡ place = (let long = h.is_text.one_each in omega (arith, long, is)) in
          let this : record { same = one; text = k.text } ≡ x = cc at in
          subst (λ (z : Report). IsReport a b place z) this (subst (λ (m : ℕ). IsReport a b m (record { same = one; text = k.text })) here k.is_text)
      each place x (inr (suc q, at, is)) = absurd (cc at)

-- One set more of those that may be alone.
module _ (file : List ℕ) (others xs : List SetDecl) (i : ℕ) (x : SetDecl) (within : i < length xs) (at : x ≡ get_or xs i x) where
  further : take (i + 1) xs ≡ take i xs ++ x ∷ []
  further = take_more xs i x within ∙ ap (λ y. take i xs ++ y ∷ []) (sym at)

  text-further : alone_text file others (take (i + 1) xs) ≡ alone_text file others (take i xs) ++ alone_text file others (x ∷ [])
  text-further = ap (alone_text file others) further ∙ ap (flat_map (only_line file)) (filter-append (is_alone others) (take i xs) (x ∷ [])) ∙ flat_map-append (only_line file) (filter (is_alone others) (take i xs)) (filter (is_alone others) (x ∷ []))

  any-further : list_any (is_alone others) (take (i + 1) xs) ≡ (list_any (is_alone others) (take i xs) || (is_alone others x || false))
  any-further = ap (list_any (is_alone others)) further ∙ list_any-append (is_alone others) (take i xs) (x ∷ [])

  pub alone-in : (old mid new : List ℕ) → is_alone others x ≡ true → mid ≡ old ++ alone_text file others (take i xs) → new ≡ mid ++ only_line file x → new ≡ old ++ alone_text file others (take (i + 1) xs)
  alone-in old mid new is so_far wrote =
      let one : alone_text file others (x ∷ []) ≡ only_line file x ++ [] = rw is refl in
      wrote ∙ ap (λ m. m ++ only_line file x) so_far ∙ append_assoc old (alone_text file others (take i xs)) (only_line file x) ∙ ap (λ t. old ++ (alone_text file others (take i xs) ++ t)) (sym (append-nil (only_line file x)) ∙ sym one) ∙ ap (λ t. old ++ t) (sym text-further)

  pub alone-out : (old mid : List ℕ) → is_alone others x ≡ false → mid ≡ old ++ alone_text file others (take i xs) → mid ≡ old ++ alone_text file others (take (i + 1) xs)
  alone-out old mid is so_far =
      let none : alone_text file others (x ∷ []) ≡ [] = rw is refl in
      so_far ∙ ap (λ t. old ++ t) (sym (append-nil (alone_text file others (take i xs))) ∙ ap (λ t. alone_text file others (take i xs) ++ t) (sym none) ∙ sym text-further)

  pub any-in : is_alone others x ≡ true → true ≡ list_any (is_alone others) (take (i + 1) xs)
  any-in is = sym (any-further ∙ ap (λ t. list_any (is_alone others) (take i xs) || (t || false)) is ∙ or-true (list_any (is_alone others) (take i xs))) where
    or-true : (t : Bool) → (t || true) ≡ true
    or-true true = refl
    or-true false = refl

  pub any-out : (any : Bool) → is_alone others x ≡ false → any ≡ list_any (is_alone others) (take i xs) → any ≡ list_any (is_alone others) (take (i + 1) xs)
  any-out any is so_far = so_far ∙ sym (any-further ∙ ap (λ t. list_any (is_alone others) (take i xs) || (t || false)) is ∙ or-false (list_any (is_alone others) (take i xs))) where
    or-false : (t : Bool) → (t || false) ≡ t
    or-false true = refl
    or-false false = refl
