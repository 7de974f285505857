use Rattle.std.proofs.Common.{◌≡◌, ◌++◌, take, flat_map}
use Rattle.text_pieces.specs.Pieces.{piece_text}
use Rattle.text_pieces.proofs.piece.append_pieces.Given as goal

-- the pieces so far are appended
abbrev pub invariant-loop-piece : goal.invariant-loop-piece
invariant-loop-piece l = l.out.items ≡ l.initial.out.items ++ flat_map piece_text (take l.piece-index l.pieces)
