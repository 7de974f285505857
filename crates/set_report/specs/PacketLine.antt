-- A packet's line determines its four parts.
use Rattle.std.specs.Prelude.{◌≡◌, ◌<◌, ◌^◌, ℕ}
use Rattle.set_model.specs.declared.packet.Verdict.TheVariants as verdicts
use Rattle.set_model.specs.declared.report.Line.{Line}
use Rattle.set_model.specs.Text.{packet_text}

-- Its numbers have at most 64 bits, as those of every run have.
pub record HasMachineNumbers (l : Line) : Type 0 where
  pub packet : l.packet < 2 ^ 64
  pub thread : l.thread < 2 ^ 64
  pub generation : l.generation < 2 ^ 64
  pub id : (n : ℕ) → l.verdict ≡ verdicts.Element n → n < 2 ^ 64

-- If two packets' lines have the same bytes, they have the same packet, thread, generation and verdict.
abbrev pub TellsParts : Type 0
TellsParts = (line other : Line) → HasMachineNumbers line → HasMachineNumbers other → packet_text line ≡ packet_text other → line ≡ other
