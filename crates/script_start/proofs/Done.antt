-- A control that stands at the definition's control did its sections.
use Rattle.std.proofs.Common.{◌≡◌, ap, sym, ◌∙◌, subst, ℕ, ◌+◌, false, List, [], ◌∷◌, length, map, All, Some, None}
use Rattle.std.proofs.lemmas.List.{length-map}
use Rattle.std.proofs.lemmas.List.Elements.{All-nil, All-cons}
use Rattle.atomic_table.specs.Seated.{TableId}
use Rattle.set_model.specs.declared.report.Event.{Event}
use Rattle.set_model.specs.declared.report.Event.TheVariants as events
use Rattle.set_model.specs.declared.script.SetDecl.{SetDecl}
use Rattle.set_model.specs.declared.script.Step.{Step}
use Rattle.set_model.specs.SetState.{State}
use Rattle.set_model.specs.Control.{Generation, Strict, history}
use Rattle.set_model.specs.Runnable.{EndsClosed}
use Rattle.set_space.specs.Open.{Open, opened}
use Rattle.gen_publish.specs.Publish.{Steering, ReaderView, AllFresh}
use Rattle.packet_pool.specs.Running.{run, StandsAt, IsSameStart}
use Rattle.token_forms.specs.declared.bad_token.BadToken.{BadToken}
use Rattle.script_start.specs.Refusals.{refusal_in}
use Rattle.script_start.specs.Meeting.{IsReaderOf, up_to_date}
use Rattle.script_start.specs.Scripted.{HasDone, HasReaders, RefusesSections, done}
use Rattle.script_start.specs.declared.error.StartError.{StartError}
use Rattle.script_start.specs.declared.error.StartError.TheVariants.{Bad, Refused, Memory}
use Rattle.script_start.proofs.Resting.{history_rests}

is_opened : (w : Open) (g : Generation) → w.base ≡ g → w.sets ≡ g.sets → w ≡ opened g
is_opened w g base sets = ap (λ (x : Generation). record w { base = x }) base ∙ ap (λ (x : List State). record w { base = g; sets = x }) sets

pub has_done : (schema : List SetDecl) (sections : List (List Step)) (c : Steering) (events : List Event) → c.schema ≡ schema → All EndsClosed sections → StandsAt [] (history Strict schema sections) (run c false events)
    → refusal_in events ≡ None → HasDone schema sections c
has_done schema sections c events same closed st none = record {
  sets = same;
  accepted = subst (λ (es : List Event). refusal_in es ≡ None) (sym st.told) none;
  committed = sym st.committed;
  no_change = is_opened c.work (done schema sections).last (sym st.last) (sym st.sets ∙ history_rests Strict schema sections closed);
}

-- new readers are of their control
pub of_control : (c : Steering) (z : TableId) (schema : List SetDecl) (seen : List Generation) (k : ℕ) (ps : List ReaderView) → c.of ≡ z → AllFresh z schema seen k ps → All (IsReaderOf c) ps
of_control c z schema seen k [] e h = All-nil (IsReaderOf c)
of_control c z schema seen k (p ∷ ps) e h = All-cons (IsReaderOf c) p ps (ap (λ (r : ReaderView). r.of) h.0 ∙ sym e) (of_control c z schema seen (k + 1) ps e h.1)

-- new readers that saw what was committed since
pub fresh_again : (c : Steering) (z : TableId) (schema : List SetDecl) (seen : List Generation) (k : ℕ) (ps : List ReaderView) → c.of ≡ z → c.schema ≡ schema → AllFresh z schema seen k ps
    → AllFresh c.of c.schema c.committed k (map (up_to_date c) ps)
fresh_again c z schema seen k [] ez es h = tt
fresh_again c z schema seen k (p ∷ ps) ez es h = (first, fresh_again c z schema seen (k + 1) ps ez es h.1) where
  first : up_to_date c p ≡ record { of = c.of; schema = c.schema; seen = c.committed; reader = k; moves = 0 }
  first =
      ap (up_to_date c) h.0
      ∙ (ap (λ (x : TableId). record { of = x; schema = schema; seen = c.committed; reader = k; moves = 0 }) (sym ez)
      ∙ ap (λ (x : List SetDecl). record { of = c.of; schema = x; seen = c.committed; reader = k; moves = 0 }) (sym es))

-- the readers of a control that did its sections
pub has_readers : (n : ℕ) (k c : Steering) (schema : List SetDecl) (seen : List Generation) (ps : List ReaderView) → k.readers ≡ n → length ps ≡ n → k.schema ≡ schema → AllFresh k.of schema seen 0 ps → IsSameStart k c
    → HasReaders n c (map (up_to_date c) ps)
has_readers n k c schema seen ps count long same fresh start = record {
  count_is = start.2 ∙ count;
  these = length-map ps (up_to_date c) ∙ long;
  fresh = fresh_again c k.of schema seen 0 ps start.0 (start.1 ∙ same) fresh;
}

-- no event is a bad token
no_token : (es : List Event) (token : BadToken) → Some (Bad token) ≡ refusal_in es → ⊥
no_token [] token e = cc
no_token (events.Refused line set why ∷ es) token e = cc
no_token (events.Committed generation purged ∷ es) token e = no_token es token e
no_token (events.Aborted generation ∷ es) token e = no_token es token e
no_token (events.Dropped generation ∷ es) token e = no_token es token e

pub refuses : (schema : List SetDecl) (sections : List (List Step)) (error : StartError) (es : List Event) → Some error ≡ refusal_in es → (done schema sections).events ≡ es → RefusesSections schema sections error
refuses schema sections (Bad token) es e same = no_token es token e
refuses schema sections (Refused line set why) es e same = ap refusal_in same ∙ sym e
refuses schema sections Memory es e same = tt
