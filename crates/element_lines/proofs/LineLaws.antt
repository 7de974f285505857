-- The lines of packets by the additions that were noted are those of the script's additions.
use Rattle.std.proofs.Common.{◌≡◌, refl, sym, ◌∙◌, ap, subst, ℕ, ◌<◌, List, ◌++◌, length, flat_map, codes, All, Option, Some, None, slice_get, option_map}
use Rattle.std.proofs.lemmas.Option.{slice_get-map, slice_get_within}
use Rattle.set_model.specs.declared.packet.Packet.{Packet}
use Rattle.set_model.specs.declared.packet.Verdict.{Verdict}
use Rattle.set_model.specs.declared.packet.Verdict.TheVariants as verdicts
use Rattle.set_model.specs.declared.report.Line.{Line}
use Rattle.set_model.specs.declared.script.Script.{Script}
use Rattle.set_model.specs.declared.script.SetDecl.{SetDecl}
use Rattle.set_model.specs.declared.script.Step.{Step}
use Rattle.set_model.specs.Control.{Mode}
use Rattle.set_model.specs.Runnable.{IsFitting}
use Rattle.set_model.specs.Text.{verdict_text, line_feed}
use Rattle.text_pieces.specs.Pieces.{packet_front}
use Rattle.script_laws.proofs.Lists.{of-item}
use Rattle.element_lines.specs.Additions.{Additions, AreAdditionsOf, addition_of, all_of, noted_addition, places_of, sets_of, step_at}
use Rattle.element_lines.specs.ElementLines.{addition_text, element_line, element_lines, found_text, made_text, noted_lines}
use Rattle.element_lines.proofs.StepLaws.{all-of}

-- The set of a packet is declared.
set-declared : (schema : List SetDecl) (keys : List (List Packet)) (n set : ℕ) → All (All (IsFitting schema)) keys → slice_get (sets_of keys) n ≡ Some set → set < length schema
set-declared schema keys n set fit at = go (slice_get (all_of keys) n) refl (sym (slice_get-map (λ (p : Packet). p.set) (all_of keys) n) ∙ at) where
  go : (o : Option Packet) → slice_get (all_of keys) n ≡ o → option_map (λ (p : Packet). p.set) o ≡ Some set → set < length schema
  go None is e = absurd (cc e)
  go (Some p) is e =
      let same : p.set ≡ set = cc e in
      let fits = of-item (IsFitting schema) (all_of keys) n p (all-of (IsFitting schema) keys fit) is in
      subst (λ s. s < length schema) same (slice_get_within schema p.set fits.set fits.declared)

module _ (mode : Mode) (script : Script) (keys : List (List Packet)) (a : Additions) (h : AreAdditionsOf mode script keys a) (fit : All (All (IsFitting script.schema)) keys) where
  made-same : (set id : ℕ) → set < length script.schema → noted_addition a set id ≡ addition_of mode script set id
  made-same set id within =
      ap (λ (z : List ℕ). step_at a.steps (slice_get z id)) (h.places_are set within)
      ∙ ap (λ (z : List Step). step_at z (slice_get (places_of mode script.schema (all_of script.sections) set) id)) h.steps_are

  text-same : (packet id : ℕ) (o : Option ℕ) → slice_get (sets_of keys) packet ≡ o → made_text a.schema (noted_addition a) a.sets id o ≡ made_text script.schema (addition_of mode script) (sets_of keys) id o
  text-same packet id None at = refl
  text-same packet id (Some set) at =
      ap (λ (z : List SetDecl). addition_text z (noted_addition a set id)) h.schema_is
      ∙ ap (addition_text script.schema) (made-same set id (set-declared script.schema keys packet set fit at))

  found-same : (packet : ℕ) (v : Verdict) → found_text a.schema (noted_addition a) a.sets packet v ≡ found_text script.schema (addition_of mode script) (sets_of keys) packet v
  found-same packet verdicts.None = refl
  found-same packet (verdicts.Element id) =
      ap (λ (z : List ℕ). made_text a.schema (noted_addition a) a.sets id (slice_get z packet)) h.sets_are
      ∙ text-same packet id (slice_get (sets_of keys) packet) refl

  line-same : (l : Line) → element_line a.schema (noted_addition a) a.sets l ≡ element_line script.schema (addition_of mode script) (sets_of keys) l
  line-same l = ap (λ t. packet_front l ++ codes " " ++ verdict_text l.verdict ++ t ++ line_feed) (found-same l.packet l.verdict)

  -- The same of all lines, as a text of lines.
  pub noted-same : noted_lines a ≡ element_lines mode script keys
  noted-same = λ i lines. flat_map (λ l. line-same l i) lines
