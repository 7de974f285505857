-- Records one after the other: what the frames so far are.
use Rattle.std.proofs.Common.{◌≡◌, refl, sym, ◌∙◌, ap, subst, ℕ, zero, suc, ◌+◌, ◌<◌, ◌≤◌, ◌%◌, ◌^◌, true, false, nat_lt, List, [], ◌∷◌, ◌++◌, length, drop, Some, Result, Ok, Err, append_assoc, append-nil, arith}
use Rattle.pcap_keys.specs.declared.facts.Frame.{Frame}
use Rattle.pcap_keys.specs.declared.format.Format.{Format}
use Rattle.frame_facts.specs.declared.link.Link.{Link}
use Rattle.pcap_keys.specs.declared.error.CaptureError.{CaptureError}
use Rattle.pcap_keys.specs.declared.error.CaptureReason.TheVariants as reasons
use Rattle.pcap_keys.specs.Savefile.{number, kept, is_whole, is_version}
use Rattle.frame_facts.specs.Links.{link_of}
use Rattle.pcap_keys.specs.Captured.{fault, frame_of, start_of, behind, records, all_records, of_format, IsUnlessMemory}
use Rattle.std.proofs.lemmas.Bool.{lt-ltb, le-ltb}

-- these are the frames of the records before a place, and the others follow from there on
pub record Left (format : Format) (link : Link) (start : ℕ) (text : List ℕ) (frames : List Frame) (place : ℕ) : Type 0 where
  pub turns : ℕ
  pub enough : length text ≤ place + turns
  pub rest : records format link start text (length text) 24 ≡ behind frames (records format link start text turns place)

behind_none : (r : Result (List Frame) CaptureError) → r ≡ behind [] r
behind_none (Ok frames) = refl
behind_none (Err e) = refl

behind_more : (frames : List Frame) (f : Frame) (r : Result (List Frame) CaptureError) → behind frames (behind (f ∷ []) r) ≡ behind (frames ++ f ∷ []) r
behind_more frames f (Ok others) = ap (λ (z : List Frame). let k : Result (List Frame) CaptureError = Ok z in k) (sym (append_assoc frames (f ∷ []) others))
behind_more frames f (Err e) = refl

module _ (format : Format) (link : Link) (start : ℕ) (text : List ℕ) where
  pub left_start : Left format link start text [] 24
  left_start = record { turns = length text; enough = omega arith; rest = behind_none _ }

  at_end : (turns place : ℕ) → nat_lt place (length text) ≡ false → records format link start text turns place ≡ Ok []
  at_end zero place e = refl
  at_end (suc turns) place e = rw e refl

  pub left_end : (frames : List Frame) (place : ℕ) → Left format link start text frames place → length text ≤ place → Ok frames ≡ records format link start text (length text) 24
  left_end frames place l h =
      let done = at_end l.turns place (le-ltb place (length text) h) in
      let same : behind frames (records format link start text l.turns place) ≡ behind frames (Ok []) = ap (behind frames) done in
      sym (l.rest ∙ same ∙ ap (λ (z : List Frame). let k : Result (List Frame) CaptureError = Ok z in k) (append-nil frames))

  at_cut : (turns place : ℕ) → place < length text → length text ≤ place + turns → is_whole format (drop place text) ≡ false → records format link start text turns place ≡ fault place reasons.Cut
  at_cut zero place b k w = absurd (omega arith)
  at_cut (suc turns) place b k w = rw (lt-ltb place (length text) b) (rw w refl)

  pub left_cut : (frames : List Frame) (place : ℕ) → Left format link start text frames place → place < length text → is_whole format (drop place text) ≡ false → fault place reasons.Cut ≡ records format link start text (length text) 24
  left_cut frames place l b w = sym (l.rest ∙ ap (behind frames) (at_cut l.turns place b l.enough w))

  left_on : (frames : List Frame) (place turns : ℕ) → place < length text → length text ≤ place + turns → is_whole format (drop place text) ≡ true
      → records format link start text (length text) 24 ≡ behind frames (records format link start text turns place)
      → Left format link start text (frames ++ frame_of format link start (drop place text) ∷ []) (place + (16 + kept format (drop place text)))
  left_on frames place zero b k w e = absurd (omega arith)
  left_on frames place (suc turns) b k w e =
      let next = place + (16 + kept format (drop place text)) in
      let step : records format link start text (suc turns) place ≡ behind (frame_of format link start (drop place text) ∷ []) (records format link start text turns next) = rw (lt-ltb place (length text) b) (rw w refl) in
      record { turns = turns; enough = omega arith; rest = e ∙ ap (behind frames) step ∙ behind_more frames _ _ }

  pub left_next : (frames : List Frame) (place : ℕ) → Left format link start text frames place → place < length text → is_whole format (drop place text) ≡ true
      → Left format link start text (frames ++ frame_of format link start (drop place text) ∷ []) (place + (16 + kept format (drop place text)))
  left_next frames place l b w = left_on frames place l.turns b l.enough w l.rest

-- the same by what the code has computed
module _ (format : Format) (link : Link) (start : ℕ) (text : List ℕ) (first : start ≡ start_of format text) where
  from_start : records format link start text (length text) 24 ≡ all_records format text link
  from_start = ap (λ (s : ℕ). records format link s text (length text) 24) first

  pub all_read : (frames : List Frame) (place : ℕ) → Left format link start text frames place → length text ≤ place → Ok frames ≡ all_records format text link
  all_read frames place l h = left_end format link start text frames place l h ∙ from_start

  pub cut_here : (frames : List Frame) (place : ℕ) → Left format link start text frames place → place < length text → is_whole format (drop place text) ≡ false → fault place reasons.Cut ≡ all_records format text link
  cut_here frames place l b w = left_cut format link start text frames place l b w ∙ from_start

pub one_read : (format : Format) (link : Link) (start : ℕ) (text : List ℕ) (frames more : List Frame) (f : Frame) (place size : ℕ) → Left format link start text frames place → place < length text → is_whole format (drop place text) ≡ true
    → f ≡ frame_of format link start (drop place text) → more ≡ frames ++ f ∷ [] → size ≡ kept format (drop place text) → Left format link start text more (place + (16 + size))
one_read format link start text frames more f place size l b w ef em es =
    let P : List Frame → ℕ → Type 0 = λ fs n. Left format link start text fs (place + (16 + n)) in
    let grown : more ≡ frames ++ frame_of format link start (drop place text) ∷ [] = em ∙ ap (λ (z : Frame). frames ++ z ∷ []) ef in
    subst (λ (z : List Frame). P z size) (sym grown) (subst (λ (n : ℕ). P (frames ++ frame_of format link start (drop place text) ∷ []) n) (sym es) (left_next format link start text frames place l b w))

pub link_read : (format : Format) (link : Link) (text : List ℕ) (n : ℕ) (r : Result (List Frame) CaptureError) → 24 ≤ length text → is_version format text ≡ true → n ≡ number format.order 4 (drop 20 text) → link_of (n % 2 ^ 16) ≡ Some link
    → IsUnlessMemory r (all_records format text link) → IsUnlessMemory r (of_format text (Some format))
link_read format link text n r h v en el m =
    let e : link_of (number format.order 4 (drop 20 text) % 2 ^ 16) ≡ Some link = subst (λ (z : ℕ). link_of (z % 2 ^ 16) ≡ Some link) en el in
    rw (le-ltb (length text) 24 h) (rw v (rw e m))
