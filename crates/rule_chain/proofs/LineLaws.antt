-- The line of a judged packet, piece by piece, and the rules through the file.
use Rattle.std.proofs.Common.{◌≡◌, refl, sym, ◌∙◌, ap, ℕ, zero, suc, ◌-◌, ◌<◌, ◌≤◌, List, [], ◌∷◌, ◌++◌, length, slice_get, codes, decimal, append_assoc, arith}
use Rattle.set_model.specs.declared.report.Line.{Line}
use Rattle.set_model.specs.declared.packet.Verdict.TheVariants as verdicts
use Rattle.set_model.specs.Text.{numbered, line_feed}
use Rattle.text_pieces.specs.Pieces.{packet_front}
use Rattle.rule_chain.specs.Chains.{Rules}
use Rattle.rule_chain.specs.JudgedText.{judgement_text, judged_line, accept_text, is_accepting, chain_rules}

in_order : (a b c d e f : List ℕ) → a ++ b ++ c ++ d ++ e ++ f ≡ (a ++ (b ++ c)) ++ (d ++ (e ++ f))
in_order a b c d e f = simp append_assoc refl

-- the line with this text of what becomes of the packet
abbrev line_with : Line → List ℕ → List ℕ
line_with l judgement = numbered (codes "packet") l.packet ++ numbered (codes " thread") l.thread ++ numbered (codes " generation") l.generation ++ codes " " ++ judgement ++ line_feed

line_is : (rules : Rules) (l : Line) (judgement : List ℕ) → judgement_text rules l.verdict ≡ judgement → judged_line rules l ≡ packet_front l ++ (codes " " ++ (judgement ++ line_feed))
line_is rules l judgement is =
    ap (line_with l) is
    ∙ in_order (numbered (codes "packet") l.packet) (numbered (codes " thread") l.thread) (numbered (codes " generation") l.generation) (codes " ") judgement line_feed

pub policy_line : (rules : Rules) (l : Line) (word : List ℕ) → l.verdict ≡ verdicts.None → word ≡ accept_text rules.accept
    → judged_line rules l ≡ packet_front l ++ (codes " policy " ++ (word ++ line_feed))
policy_line rules l word is does = line_is rules l (codes "policy " ++ word) (ap (judgement_text rules) is ∙ ap (λ w. codes "policy " ++ w) (sym does))

behind_number : (digits word : List ℕ) → codes "rule " ++ digits ++ codes " " ++ word ++ line_feed ≡ codes "rule " ++ (digits ++ (codes " " ++ (word ++ line_feed)))
behind_number digits word = simp append_assoc refl

pub rule_line : (rules : Rules) (l : Line) (n : ℕ) (word : List ℕ) → l.verdict ≡ verdicts.Element n → word ≡ accept_text (is_accepting (slice_get (chain_rules rules.chains) n))
    → judged_line rules l ≡ packet_front l ++ (codes " rule " ++ (decimal n ++ (codes " " ++ (word ++ line_feed))))
rule_line rules l n word is does =
    line_is rules l (codes "rule " ++ decimal n ++ codes " " ++ word) (ap (judgement_text rules) is ∙ ap (λ w. numbered (codes "rule") n ++ codes " " ++ w) (sym does))
    ∙ ap (λ t. packet_front l ++ (codes " " ++ t)) (behind_number (decimal n) word)

-- an item of two lists
pub at_front : {X : Type 0} (xs ys : List X) (i : ℕ) → i < length xs → slice_get (xs ++ ys) i ≡ slice_get xs i
at_front [] ys i h = absurd (omega (arith, h))
at_front (x ∷ xs) ys zero h = refl
at_front (x ∷ xs) ys (suc i) h = at_front xs ys i (omega (arith, h))

pub at_behind : {X : Type 0} (xs ys : List X) (i : ℕ) → length xs ≤ i → slice_get (xs ++ ys) i ≡ slice_get ys (i - length xs)
at_behind [] ys i h = ap (slice_get ys) (omega arith)
at_behind (x ∷ xs) ys zero h = absurd (omega (arith, h))
at_behind (x ∷ xs) ys (suc i) h = at_behind xs ys i (omega (arith, h)) ∙ ap (slice_get ys) (omega arith)
