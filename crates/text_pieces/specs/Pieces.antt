-- The text of the pieces of a line.
use Rattle.std.specs.Prelude.{ℕ, List, Some, ◌++◌, codes, decimal}
use Rattle.set_model.specs.declared.report.Line.{Line}
use Rattle.set_model.specs.Text.{numbered, set_text}
use Rattle.addr_text.specs.Written.{time_text}
use Rattle.text_pieces.specs.declared.piece.Piece.{Piece}
use Rattle.text_pieces.specs.declared.piece.Piece.TheVariants.{Word, Number, Sum, Time, Set, Packet}

-- the thread and the generation of a packet's line
abbrev pub thread_front : Line → List ℕ
thread_front l = numbered (codes " thread") l.thread ++ numbered (codes " generation") l.generation

-- the front of a packet's line, before its verdict
abbrev pub packet_front : Line → List ℕ
packet_front l = numbered (codes "packet") l.packet ++ thread_front l

abbrev pub piece_text : Piece → List ℕ
piece_text (Word bytes) = bytes.now
piece_text (Number n) = decimal n
piece_text (Sum n) = decimal n
piece_text (Time ms) = time_text ms
piece_text (Set set) = set_text (Some set.now)
piece_text (Packet line) = packet_front line.now
