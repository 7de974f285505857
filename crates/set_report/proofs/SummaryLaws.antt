-- The summary of a run, piece by piece.
use Rattle.std.proofs.Common.{◌≡◌, refl, sym, ◌∙◌, ap, List, ℕ, ◌+◌, ◌++◌, cond, length, map, take, codes, decimal, count_by, append_assoc, slice_get, Some}
use Rattle.std.specs.List.{sum_by}
use Rattle.std.proofs.lemmas.List.{length-map}
use Rattle.std.proofs.lemmas.List.Folds.{fold-map}
use Rattle.std.proofs.lemmas.List.Sums.{sum_by_more}
use Rattle.std.proofs.lemmas.Option.{get_or_from_slice_get, slice_get_within}
use Rattle.set_model.specs.declared.report.Line.{Line}
use Rattle.set_model.specs.declared.packet.Verdict.{Verdict}
use Rattle.set_model.specs.declared.report.Event.{Event}
use Rattle.set_model.specs.SetState.{State}
use Rattle.set_model.specs.Control.{Generation, is_refusal}
use Rattle.set_model.specs.Text.{numbered, line_feed}
use Rattle.set_report.specs.SummaryText.{element_count, is_match, id_given, summary_text}

-- one more set's elements
pub counted-more : (sets : List State) (i count n : ℕ) (s : State) → slice_get sets i ≡ Some s → count ≡ element_count (take i sets) → n ≡ length s.elements → count + n ≡ element_count (take (i + 1) sets)
counted-more sets i count n s at so_far here =
    let within = slice_get_within sets i s at in
    ap (λ k. k + n) so_far ∙ ap (λ k. element_count (take i sets) + k) (here ∙ ap (λ t. length t.elements) (sym (get_or_from_slice_get sets i s s at)))
    ∙ sym (sum_by_more (λ t. length t.elements) sets i s within)

sum_by-map : {X Y : Type 0} (f : X → Y) (g : Y → ℕ) (xs : List X) → sum_by g (map f xs) ≡ sum_by (λ x. g (f x)) xs
sum_by-map f g xs = fold-map (λ a y. a + g y) f 0 xs

-- the line with these numbers
abbrev pub line_of : ℕ → ℕ → ℕ → ℕ → ℕ → ℕ → List ℕ
line_of elements refused generation packets matched sum =
    numbered (codes "drill elements") elements ++ numbered (codes " refused") refused ++ numbered (codes " generation") generation
    ++ numbered (codes " packets") packets ++ numbered (codes " matched") matched ++ numbered (codes " sum") sum ++ line_feed

in_order : (a b c d e f g : List ℕ) → a ++ b ++ c ++ d ++ e ++ f ++ g ≡ a ++ (b ++ (c ++ (d ++ (e ++ (f ++ g)))))
in_order a b c d e f g = simp append_assoc refl

-- the verdicts of lines
abbrev pub answers_of : List Line → List Verdict
answers_of lines = map (λ l. l.verdict) lines

pub summary_line : (events : List Event) (lines : List Line) (generation : Generation) (e r g p m s : ℕ)
    → e ≡ element_count generation.sets → r ≡ count_by is_refusal events → g ≡ generation.number → p ≡ length lines → m ≡ count_by (λ l. is_match l.verdict) lines → s ≡ sum_by (λ l. id_given l.verdict) lines
    → summary_text events lines generation
    ≡ codes "drill elements " ++ (decimal e ++ (codes " refused " ++ (decimal r ++ (codes " generation " ++ (decimal g ++ (codes " packets " ++ (decimal p ++ (codes " matched " ++ (decimal m ++ (codes " sum " ++ (decimal s ++ line_feed)))))))))))
summary_line events lines generation e r g p m s he hr hg hp hm hs =
    let packets : length (answers_of lines) ≡ p = length-map lines (λ l. l.verdict) ∙ sym hp in
    let matched : count_by is_match (answers_of lines) ≡ m = sum_by-map (λ l. l.verdict) (λ v. cond (is_match v) 1 0) lines ∙ sym hm in
    let sum : sum_by id_given (answers_of lines) ≡ s = sum_by-map (λ l. l.verdict) id_given lines ∙ sym hs in
    (λ i. line_of (sym he i) (sym hr i) (sym hg i) (packets i) (matched i) (sum i))
    ∙ in_order (numbered (codes "drill elements") e) (numbered (codes " refused") r) (numbered (codes " generation") g) (numbered (codes " packets") p) (numbered (codes " matched") m) (numbered (codes " sum") s) line_feed
