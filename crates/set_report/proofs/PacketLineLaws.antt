-- The bytes of a packet's line determine its four parts: each number ends before a byte that is no digit.
use Rattle.std.proofs.Common.{◌≡◌, refl, sym, ◌∙◌, ap, ℕ, zero, suc, ◌<◌, ◌^◌, List, [], ◌∷◌, ◌++◌, arith, append_assoc}
use Rattle.std.specs.Prelude.{codes, decimal}
use Rattle.std.proofs.lemmas.Fmt.{decimal_by_steps, decimal_injective}
use Rattle.set_model.specs.declared.packet.Verdict.{Verdict}
use Rattle.set_model.specs.declared.packet.Verdict.TheVariants as verdicts
use Rattle.set_model.specs.declared.report.Line.{Line}
use Rattle.set_model.specs.Text.{numbered, packet_text, verdict_text, line_feed}
use Rattle.set_report.specs.PacketLine.{HasMachineNumbers}

-- no byte is this one
abbrev Lacks : ℕ → List ℕ → Type 0
Lacks c [] = Unit {0}
Lacks c (b ∷ bytes) = (b ≡ c → ⊥) × Lacks c bytes

lacks_behind : (c : ℕ) (bytes : List ℕ) (b : ℕ) → Lacks c bytes → (b ≡ c → ⊥) → Lacks c (bytes ++ b ∷ [])
lacks_behind c [] b k h = (h, tt)
lacks_behind c (a ∷ bytes) b k h = (k.0, lacks_behind c bytes b k.1 h)

-- a number's digits are no byte below `0`
digits_lack : (c n : ℕ) → c < 48 → n < 2 ^ 64 → Lacks c (decimal n)
digits_lack c n low small = decimal_by_steps (λ _ bytes. Lacks c bytes) (λ n h. (λ e. absurd (omega arith), tt)) (λ n bytes h k. lacks_behind c bytes _ k (λ e. absurd (omega arith))) n small

-- the text before the first such byte is determined, and so is the text after it
cut_at : (c : ℕ) (x y r s : List ℕ) → Lacks c x → Lacks c y → x ++ c ∷ r ≡ y ++ c ∷ s → (x ≡ y) × (r ≡ s)
cut_at c [] [] r s k l e = (refl, cc e)
cut_at c [] (b ∷ y) r s k l e = absurd (l.0 (cc e))
cut_at c (a ∷ x) [] r s k l e = absurd (k.0 (cc e))
cut_at c (a ∷ x) (b ∷ y) r s k l e =
    let same : a ≡ b = cc e in
    let rest = cut_at c x y r s k.1 l.1 (cc e) in
    (let h : x ≡ y = rest.0 in cc (same, h), rest.1)

-- a number, and the text after the byte that ends it
number_and_rest : (c m n : ℕ) (r s : List ℕ) → c < 48 → m < 2 ^ 64 → n < 2 ^ 64 → decimal m ++ c ∷ r ≡ decimal n ++ c ∷ s → (m ≡ n) × (r ≡ s)
number_and_rest c m n r s low small few e =
    let k = cut_at c (decimal m) (decimal n) r s (digits_lack c m low small) (digits_lack c n low few) e in
    (decimal_injective m n small few k.0, k.1)

-- the bytes after so many
abbrev past : ℕ → List ℕ → List ℕ
past zero bytes = bytes
past (suc n) [] = []
past (suc n) (b ∷ bytes) = past n bytes

abbrev IsShort : Verdict → Type 0
IsShort v = (n : ℕ) → v ≡ verdicts.Element n → n < 2 ^ 64

one_verdict : (v w : Verdict) → IsShort v → IsShort w → verdict_text v ++ line_feed ≡ verdict_text w ++ line_feed → v ≡ w
one_verdict verdicts.None verdicts.None small few e = refl
one_verdict verdicts.None (verdicts.Element n) small few e = absurd (cc e)
one_verdict (verdicts.Element m) verdicts.None small few e = absurd (cc e)
one_verdict (verdicts.Element m) (verdicts.Element n) small few e = ap verdicts.Element ((number_and_rest 10 m n [] [] (omega arith) (small m refl) (few n refl) (ap (past 8) e)).0)

same_line : (p q t u g h : ℕ) (v w : Verdict) → p ≡ q → t ≡ u → g ≡ h → v ≡ w
    → ◌≡◌ {A = Line} (record { packet = p; thread = t; generation = g; verdict = v }) (record { packet = q; thread = u; generation = h; verdict = w })
same_line p q t u g h v w a b c d = cc

-- the text after each word of a line
abbrev verdict_part : Line → List ℕ
verdict_part l = verdict_text l.verdict ++ line_feed

abbrev generation_part : Line → List ℕ
generation_part l = decimal l.generation ++ 32 ∷ verdict_part l

abbrev thread_part : Line → List ℕ
thread_part l = decimal l.thread ++ 32 ∷ (codes "generation " ++ generation_part l)

abbrev packet_part : Line → List ℕ
packet_part l = decimal l.packet ++ 32 ∷ (codes "thread " ++ thread_part l)

regroup : (a b c d e f : List ℕ) → a ++ b ++ c ++ d ++ e ++ f ≡ a ++ (b ++ (c ++ (d ++ (e ++ f))))
regroup a b c d e f = simp append_assoc

parts : (l : Line) → past 7 (packet_text l) ≡ packet_part l
parts l = ap (past 7) (regroup (numbered (codes "packet") l.packet) (numbered (codes " thread") l.thread) (numbered (codes " generation") l.generation) (codes " ") (verdict_text l.verdict) line_feed)

pub one_line : (l m : Line) → HasMachineNumbers l → HasMachineNumbers m → packet_text l ≡ packet_text m → l ≡ m
one_line l m k j e =
    let low : 32 < 48 = omega arith in
    let at_packet : packet_part l ≡ packet_part m = sym (parts l) ∙ ap (past 7) e ∙ parts m in
    let packet = number_and_rest 32 l.packet m.packet (codes "thread " ++ thread_part l) (codes "thread " ++ thread_part m) low k.packet j.packet at_packet in
    let at_thread : thread_part l ≡ thread_part m = ap (past 7) packet.1 in
    let thread = number_and_rest 32 l.thread m.thread (codes "generation " ++ generation_part l) (codes "generation " ++ generation_part m) low k.thread j.thread at_thread in
    let at_generation : generation_part l ≡ generation_part m = ap (past 11) thread.1 in
    let generation = number_and_rest 32 l.generation m.generation (verdict_part l) (verdict_part m) low k.generation j.generation at_generation in
    same_line l.packet m.packet l.thread m.thread l.generation m.generation l.verdict m.verdict packet.0 thread.0 generation.0 (one_verdict l.verdict m.verdict k.id j.id generation.1)
