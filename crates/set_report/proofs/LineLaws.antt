-- The line of a packet, piece by piece.
use Rattle.std.proofs.Common.{◌≡◌, refl, ◌∙◌, ap, List, ℕ, ◌++◌, codes, append_assoc}
use Rattle.set_model.specs.declared.report.Line.{Line}
use Rattle.set_model.specs.Text.{numbered, line_feed, verdict_text, packet_text}
use Rattle.text_pieces.specs.Pieces.{packet_front}

in_order : (a b c d e f : List ℕ) → a ++ b ++ c ++ d ++ e ++ f ≡ (a ++ (b ++ c)) ++ (d ++ (e ++ f))
in_order a b c d e f = simp append_assoc refl

-- the line with this text of the verdict
abbrev line_with : Line → List ℕ → List ℕ
line_with l verdict = numbered (codes "packet") l.packet ++ numbered (codes " thread") l.thread ++ numbered (codes " generation") l.generation ++ codes " " ++ verdict ++ line_feed

pub packet_line : (l : Line) (verdict : List ℕ) → verdict_text l.verdict ≡ verdict → packet_text l ≡ packet_front l ++ (codes " " ++ (verdict ++ line_feed))
packet_line l verdict is =
    ap (line_with l) is
    ∙ in_order (numbered (codes "packet") l.packet) (numbered (codes " thread") l.thread) (numbered (codes " generation") l.generation) (codes " ") verdict line_feed
