-- A run at its end is the script's end by the definition.
use Rattle.std.proofs.Common.{◌≡◌, refl, sym, ◌∙◌, ap, subst, ℕ, ◌<◌, Bool, false, ◌||◌, not, List, [], ◌++◌, length, filter, slice_get}
use Rattle.std.specs.List.{list_any}
use Rattle.std.proofs.lemmas.Option.{slice_get_within}
use Rattle.set_model.specs.declared.report.Event.{Event}
use Rattle.set_model.specs.declared.script.Script.{Script}
use Rattle.set_model.specs.declared.script.SetDecl.{SetDecl}
use Rattle.set_model.specs.SetState.{State}
use Rattle.set_model.specs.Control.{Mode, Generation, history, is_refusal, has_refusal}
use Rattle.set_report.specs.Remarks.{told_text}
use Rattle.std.specs.Prelude.{codes}
use Rattle.gen_publish.specs.Publish.{Steering}
use Rattle.packet_pool.specs.Running.{run, StandsAt}
use Rattle.key_answer.specs.Origin.{lines_of, traced}
use Rattle.compare_answer.specs.declared.side.Finished.{Finished}
use Rattle.compare_answer.specs.Told.{run_refusals, TellsEnds}
use Rattle.compare_answer.specs.Ending.{Ending, ending_of, LastSet, IsLastSet}
use Rattle.compare_answer.specs.Verdict.{IsPairVerdict}
use Rattle.compare_answer.specs.Compared.{Report, IsReport, in_both, in_first, AreReports, place_in, only_line, refusals_text, is_alone, alone_text, GivesComparison}
use Rattle.compare_answer.specs.Plain.{plain_ending}

-- Two ends are one: the lines of declared sets are the same.
record AreOneEnd (e f : Ending) : Type 0 where
  file_is : e.file ≡ f.file
  schema_is : e.schema ≡ f.schema
  sets_are : e.sets ≡ f.sets
  at_is : e.at ≡ f.at
  lines_are : (set : ℕ) → set < length f.schema → e.lines set ≡ f.lines set

module _ (e f : Ending) (one : AreOneEnd e f) where
  set-as : (place : ℕ) (s : LastSet) → IsLastSet e place s → IsLastSet f place s
  set-as place s h =
      let declared : slice_get f.schema place ≡ _ = ap (λ (z : List SetDecl). slice_get z place) (sym one.schema_is) ∙ h.declared_is in record {
        file_is = h.file_is ∙ one.file_is;
        declared_is = declared;
        state_is = ap (λ (z : List State). slice_get z place) (sym one.sets_are) ∙ h.state_is;
        at_is = h.at_is ∙ one.at_is;
        lines_are = h.lines_are ∙ one.lines_are place (slice_get_within f.schema place s.declared declared);
      }

module _ (a a' b b' : Ending) (first : AreOneEnd a a') (second : AreOneEnd b b') where
  pair-as : (place other : ℕ) (same : Bool) (text : List ℕ) → IsPairVerdict a place b other same text → IsPairVerdict a' place b' other same text
  pair-as place other same text h = record { first = h.first; second = h.second; is_first = set-as a a' first place h.first h.is_first; is_second = set-as b b' second other h.second h.is_second; verdict = h.verdict }

  report-as : (place : ℕ) (r : Report) → IsReport a b place r → IsReport a' b' place r
  report-as place r (in_both d other declared at verdict) =
      in_both d other (ap (λ (z : List SetDecl). slice_get z place) (sym first.schema_is) ∙ declared) (ap (λ (z : List SetDecl). place_in z d) (sym second.schema_is) ∙ at) (pair-as place other r.same r.text verdict)
  report-as place r (in_first d declared none same text) =
      in_first d (ap (λ (z : List SetDecl). slice_get z place) (sym first.schema_is) ∙ declared) (ap (λ (z : List SetDecl). place_in z d) (sym second.schema_is) ∙ none) same (text ∙ ap (λ (n : List ℕ). only_line n d) first.file_is)

  reports-as : (count : ℕ) (same : Bool) (text : List ℕ) → AreReports a b count same text → AreReports a' b' count same text
  reports-as count same text h = record { reports = h.reports; one_each = h.one_each; each = λ place r at. report-as place r (h.each place r at); same_is = h.same_is; text_is = h.text_is }

-- A script that was run, and what its run says of it.
pub record HasRun (mode : Mode) (s : Script) (control : Steering) (events : List Event) (lines : ℕ → List ℕ) : Type 0 where
  pub ends : StandsAt [] (history mode s.schema s.sections) (run control false events)
  pub lines_are : (set : ℕ) → set < length s.schema → lines set ≡ (traced mode set s.schema s.sections).lines
  pub schema_is : control.schema ≡ s.schema

one-end : (mode : Mode) (file : List ℕ) (s : Script) (control : Steering) (events : List Event) (lines : ℕ → List ℕ) (at : ℕ) (h : HasRun mode s control events lines) → at ≡ s.last
    → AreOneEnd (record { file = file; schema = control.schema; sets = control.work.base.sets; at = at; lines = lines }) (ending_of mode file s)
one-end mode file s control events lines at h at_is = record { file_is = refl; schema_is = h.schema_is; sets_are = ap (λ (g : Generation). g.sets) (sym h.ends.last); at_is = at_is; lines_are = h.lines_are }

module _ (mode : Mode) (file : List ℕ) (s : Script) (control : Steering) (events : List Event) (lines : ℕ → List ℕ) (h : HasRun mode s control events lines) where
  refusals-are : told_text (codes "# " ++ (file ++ codes " ")) control.schema (filter is_refusal events) ≡ refusals_text mode file s
  refusals-are = ap (λ (z : List SetDecl). told_text (codes "# " ++ (file ++ codes " ")) z (filter is_refusal events)) h.schema_is ∙ ap (λ (z : List Event). told_text (codes "# " ++ (file ++ codes " ")) s.schema (filter is_refusal z)) (sym h.ends.told)

  has-refusals : list_any is_refusal events ≡ has_refusal mode s
  has-refusals = ap (list_any is_refusal) (sym h.ends.told)

-- What was written of the runs is the comparison of the scripts.
pub gives : (mode : Mode) (a b : Finished) (s t : Script) (differs : Bool) (text : List ℕ) → HasRun mode s a.trace.control a.trace.events (lines_of a.trace.lines) → HasRun mode t b.trace.control b.trace.events (lines_of b.trace.lines) → a.at ≡ s.last → b.at ≡ t.last
    → TellsEnds a b differs text → GivesComparison mode a.file.now s b.file.now t differs text
gives mode a b s t differs text hs ht at_a at_b told =
    let file = a.file.now in
    let other = b.file.now in
    let k = a.trace.control in
    let j = b.trace.control in
    let first = one-end mode file s k a.trace.events (lines_of a.trace.lines) a.at hs at_a in
    let second = one-end mode other t j b.trace.events (lines_of b.trace.lines) b.at ht at_b in record {
      same = told.same;
      reported = told.reported;
      reports =
          subst (λ (n : ℕ). AreReports (ending_of mode file s) (ending_of mode other t) n told.same told.reported) (ap (λ (z : List SetDecl). length z) hs.schema_is)
          (reports-as (plain_ending a) (ending_of mode file s) (plain_ending b) (ending_of mode other t) first second (length k.schema) told.same told.reported told.reports);
      text_is =
          told.text_is
          ∙ ap (λ (z : List ℕ). z ++ run_refusals b ++ told.reported ++ alone_text other k.schema j.schema) (refusals-are mode file s k a.trace.events (lines_of a.trace.lines) hs)
          ∙ ap (λ (z : List ℕ). refusals_text mode file s ++ z ++ told.reported ++ alone_text other k.schema j.schema) (refusals-are mode other t j b.trace.events (lines_of b.trace.lines) ht)
          ∙ ap (λ (z : List SetDecl). refusals_text mode file s ++ refusals_text mode other t ++ told.reported ++ alone_text other z j.schema) hs.schema_is
          ∙ ap (λ (z : List SetDecl). refusals_text mode file s ++ refusals_text mode other t ++ told.reported ++ alone_text other s.schema z) ht.schema_is;
      differs_is =
          told.differs_is
          ∙ ap (λ z. ((z || list_any is_refusal b.trace.events) || not told.same) || list_any (is_alone k.schema) j.schema) (has-refusals mode file s k a.trace.events (lines_of a.trace.lines) hs)
          ∙ ap (λ z. ((has_refusal mode s || z) || not told.same) || list_any (is_alone k.schema) j.schema) (has-refusals mode other t j b.trace.events (lines_of b.trace.lines) ht)
          ∙ ap (λ (z : List SetDecl). ((has_refusal mode s || has_refusal mode t) || not told.same) || list_any (is_alone z) j.schema) hs.schema_is
          ∙ ap (λ (z : List SetDecl). ((has_refusal mode s || has_refusal mode t) || not told.same) || list_any (is_alone s.schema) z) ht.schema_is;
    }

-- The same, with the names of the files as they were given.
pub gives-named : (mode : Mode) (file other : List ℕ) (a b : Finished) (s t : Script) (differs : Bool) (text : List ℕ) → a.file.now ≡ file → b.file.now ≡ other → HasRun mode s a.trace.control a.trace.events (lines_of a.trace.lines) → HasRun mode t b.trace.control b.trace.events (lines_of b.trace.lines)
    → a.at ≡ s.last → b.at ≡ t.last → TellsEnds a b differs text → GivesComparison mode file s other t differs text
gives-named mode file other a b s t differs text first second hs ht at_a at_b told =
    subst (λ (n : List ℕ). GivesComparison mode n s other t differs text) first (subst (λ (n : List ℕ). GivesComparison mode a.file.now s n t differs text) second (gives mode a b s t differs text hs ht at_a at_b told))

-- The parts of the text, one after another.
pub four-parts : (m0 m1 m2 m3 text a b c d : List ℕ) → m0 ≡ [] → m1 ≡ m0 ++ a → m2 ≡ m1 ++ b → m3 ≡ m2 ++ c → text ≡ m3 ++ d → text ≡ a ++ b ++ c ++ d
four-parts m0 m1 m2 m3 text a b c d none h1 h2 h3 h4 =
    h4 ∙ ap (λ z. z ++ d) (h3 ∙ ap (λ z. z ++ c) (h2 ∙ ap (λ z. z ++ b) (h1 ∙ ap (λ z. z ++ a) none)))
