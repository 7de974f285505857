use Rattle.std.proofs.Common.{sym, arith, ◌<◌, length}
use Rattle.token_forms.proofs.TokenLaws.{left-first}
use Rattle.token_forms.proofs.lexer.Lexer.next_token.Goals as goal

pub returns-in-Some-clause-some : goal.returns-in-Some-clause-some
returns-in-Some-clause-some c =
    let some : 0 < length c.pieces.self-inside.rest.now = omega arith in
    let e = left-first c.pieces.self-inside.ended c.pieces.self-inside.line c.pieces.self-inside.place c.pieces.self-inside.rest.now _ _ c.piece_at-piece.result _ _ _
    c.pieces.invariant.same c.pieces.invariant.going c.piece_at-piece.ensures.piece some c.piece_at-piece.ensures.within.0 c.piece_at-piece.ensures.within.1
    c.split_at.ensures.front c.split_at.ensures.back c.line_feeds.ensures.count c.in-Some.is in e

pub pieces-preserved : goal.pieces-preserved
pieces-preserved c =
    let some : 0 < length c.pieces.self-inside.rest.now = omega arith in
    record {
      same = let e = left-first c.pieces.self-inside.ended c.pieces.self-inside.line c.pieces.self-inside.place c.pieces.self-inside.rest.now _ _ c.piece_at-piece.result _ _ _
          c.pieces.invariant.same c.pieces.invariant.going c.piece_at-piece.ensures.piece some c.piece_at-piece.ensures.within.0 c.piece_at-piece.ensures.within.1
          c.split_at.ensures.front c.split_at.ensures.back c.line_feeds.ensures.count c.in_default.is in sym e;
      going = c.pieces.invariant.going;
      room = omega arith;
      space = omega arith;
    }
