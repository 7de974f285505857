-- The tokens before any place of a front of a key file are a front, form by form.
use Rattle.std.specs.Prelude.{ℕ, List, [], ◌∷◌, Option, Some, None, slice_get}
use Rattle.set_model.specs.declared.kind.Kind.{Kind}
use Rattle.set_model.specs.declared.script.Family.{Family}
use Rattle.set_model.specs.declared.script.Family.TheVariants as families
use Rattle.set_model.specs.declared.script.SetDecl.{SetDecl}
use Rattle.token_forms.specs.declared.token.Reason.TheVariants as reasons
use Rattle.token_forms.specs.Words.{breaks_off}
use Rattle.token_forms.proofs.FrontLaws.{Closed, one_closed, done_closed, nowhere_closed, either_closed, bind_closed, many_closed, line_closed}
use Rattle.key_file.specs.declared.draft.KeyDraft.{KeyDraft}
use Rattle.key_file.specs.declared.draft.KeyWord.{KeyWord}
use Rattle.key_file.specs.declared.draft.KeyWord.TheVariants as keys
use Rattle.key_file.specs.declared.draft.AtWord.{AtWord}
use Rattle.key_file.specs.declared.draft.AtWord.TheVariants as ats
use Rattle.key_file.specs.Keys as form

more_values_closed : (kinds : List Kind) (key : List ℕ) → Closed (form.more_values kinds key)
more_values_closed [] key = done_closed _
more_values_closed (kind ∷ kinds) key = bind_closed (one_closed []) (λ _. bind_closed (one_closed (reasons.Value ∷ [])) (λ v. more_values_closed kinds _))

all_values_closed : (kinds : List Kind) → Closed (form.all_values kinds)
all_values_closed [] = nowhere_closed
all_values_closed (kind ∷ kinds) = bind_closed (one_closed (reasons.Value ∷ [])) (λ v. more_values_closed kinds _)

packet_of_closed : (d : KeyDraft) (i : ℕ) (s : Option SetDecl) → Closed (form.packet_of d i s)
packet_of_closed d i None = nowhere_closed
packet_of_closed d i (Some s) = bind_closed (all_values_closed s.kinds) (λ _. done_closed _)

module _ (schema : List SetDecl) where
  packet_closed : (d : KeyDraft) (p : Family × List ℕ) → Closed (form.packet schema d p)
  packet_closed d p = bind_closed (one_closed (reasons.Set ∷ [])) (λ i. packet_of_closed d i (slice_get schema i))

  at_behind_closed : (d : KeyDraft) (a : AtWord) → Closed (form.at_behind schema d a)
  at_behind_closed d (ats.Moment n) = done_closed _
  at_behind_closed d (ats.Set i) = packet_of_closed d i (slice_get schema i)

  line_behind_closed : (d : KeyDraft) (w : List ℕ) (k : KeyWord) → Closed (form.line_behind schema d w k)
  line_behind_closed d w (keys.Family family) = bind_closed (one_closed []) (λ table. packet_closed d (family, table))
  line_behind_closed d w keys.At = bind_closed (one_closed (reasons.Moment ∷ reasons.Set ∷ [])) (λ a. at_behind_closed d a)
  line_behind_closed d w keys.Round = either_closed (packet_closed d (families.Ip, w)) (done_closed _)
  line_behind_closed d w keys.Table = packet_closed d (families.Ip, w)

  key_line_closed : (d : KeyDraft) → Closed (form.key_line schema d)
  key_line_closed d = bind_closed (one_closed []) (λ w. line_behind_closed d w _)

  pub key_file_closed : Closed (form.key_file schema)
  key_file_closed =
      bind_closed (bind_closed (many_closed (λ r. line_closed breaks_off key_line_closed r.0 r.1) _) (λ _. done_closed _)) (λ _. bind_closed (one_closed []) (λ _. done_closed _))
