-- The pages of help say the bounds of the reader of the words.
use Rattle.std.proofs.Common.{◌≡◌, refl, sym, subst, true, false, ℕ, suc, List, [], ◌∷◌, length, take}
use Rattle.std.specs.Prelude.{bytes_eq}
use Rattle.std.specs.Fmt.{digits}
use Rattle.command_words.specs.declared.shape.Verb.TheVariants as verbs
use Rattle.command_words.specs.declared.page.Page.{Page}
use Rattle.command_words.specs.declared.page.Page.TheVariants as pages
use Rattle.command_words.specs.WordForms.{page_text}
use Rattle.command_words.specs.Pages.{SaysBounds, threads_bounds, elements_bounds, seed_bounds, moment_bound}

-- the first place of these bytes in a text, or its end if it doesn't have them
place : List ℕ → List ℕ → ℕ
place part [] = 0
place part (b ∷ text) = elim (bytes_eq (take (length part) (b ∷ text)) part) as (λ _. ℕ) [ true ↦ 0 | false ↦ suc (place part text) ]

says : (p : Page) → SaysBounds p (page_text p)
unfolding digits place
says pages.Program = record { at = place threads_bounds (page_text pages.Program); here = refl }
says (pages.Command verbs.Run) = record { at = place threads_bounds (page_text (pages.Command verbs.Run)); here = refl }
says (pages.Command verbs.Judge) = record { at = place threads_bounds (page_text (pages.Command verbs.Judge)); here = refl }
says (pages.Command verbs.Capture) = record { at = place threads_bounds (page_text (pages.Command verbs.Capture)); here = refl }
says (pages.Command verbs.Drill) = (
  record { at = place threads_bounds (page_text (pages.Command verbs.Drill)); here = refl },
  record { at = place elements_bounds (page_text (pages.Command verbs.Drill)); here = refl },
  record { at = place seed_bounds (page_text (pages.Command verbs.Drill)); here = refl },
)
says (pages.Command verbs.Get) = record { at = place moment_bound (page_text (pages.Command verbs.Get)); here = refl }
says (pages.Command verbs.List) = tt
says (pages.Command verbs.Dump) = tt
says (pages.Command verbs.Stat) = tt
says (pages.Command verbs.Desk) = tt
says (pages.Command verbs.Compare) = tt
says (pages.Command verbs.Explain) = tt
says (pages.Command verbs.Sets) = tt
says pages.Version = tt

pub page_bounds : (p : Page) (text : List ℕ) → text ≡ page_text p → SaysBounds p text
page_bounds p text is = subst (SaysBounds p) (sym is) (says p)
