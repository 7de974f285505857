-- The lines of a dump, part by part.
use Rattle.std.proofs.Common.{◌≡◌, refl, sym, ◌∙◌, ap, ℕ, Bool, true, false, cond, List, [], ◌∷◌, ◌++◌, codes, decimal, flat_map, append_assoc, append-nil, Some}
use Rattle.std.specs.List.{enumerate_from}
use Rattle.set_model.specs.declared.script.SetDecl.{SetDecl}
use Rattle.set_model.specs.SetState.{State}
use Rattle.set_model.specs.Text.{line_feed, set_text}
use Rattle.set_report.specs.DumpText.{BucketRun, bitmap_text, is_any_set, run_line, runs_text, field_text, set_tables_text}

in_order : (a b c d e f g h i : List ℕ) → a ++ b ++ c ++ d ++ e ++ f ++ g ++ h ++ i ≡ (a ++ (b ++ (c ++ (d ++ (e ++ (f ++ g)))))) ++ (h ++ i)
in_order a b c d e f g h i = simp append_assoc refl

-- the text before a run's bitmap
abbrev pub run_head : ℕ → ℕ → ℕ → List ℕ
run_head g from to = codes "row " ++ (decimal g ++ (codes " " ++ (decimal from ++ (codes "-" ++ (decimal to ++ codes " ")))))

pub run-parts : (g from to : ℕ) (bits : List Bool) → run_line g (record { from = from; to = to; bitmap = bits }) ≡ run_head g from to ++ (bitmap_text bits ++ line_feed)
run-parts g from to bits = in_order (codes "row ") (decimal g) (codes " ") (decimal from) (codes "-") (decimal to) (codes " ") (bitmap_text bits) line_feed

-- a run whose bitmap isn't all zeros has its line
pub set-line : (g : ℕ) (run : BucketRun) → is_any_set run.bitmap ≡ true → runs_text g (run ∷ []) ≡ run_line g run
set-line g run e = ap (λ t. flat_map (run_line g) (cond t (run ∷ []) [])) e ∙ append-nil (run_line g run)

pub no-line : (g : ℕ) (run : BucketRun) → is_any_set run.bitmap ≡ false → runs_text g (run ∷ []) ≡ []
no-line g run e = ap (λ t. flat_map (run_line g) (cond t (run ∷ []) [])) e

-- a set's first line, and then its fields
pub set-parts : (d : SetDecl) (s : State) → (codes "set " ++ (set_text (Some d) ++ line_feed)) ++ flat_map (field_text s.kinds s.elements) (enumerate_from 0 s.kinds) ≡ set_tables_text d s
set-parts d s = ap (λ t. t ++ flat_map (field_text s.kinds s.elements) (enumerate_from 0 s.kinds)) (sym (append_assoc (codes "set ") (set_text (Some d)) line_feed))
