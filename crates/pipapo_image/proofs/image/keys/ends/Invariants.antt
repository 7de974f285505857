use Rattle.std.proofs.Common.{◌≡◌, map, take, length}
use Rattle.pipapo_image.proofs.image.keys.ends.Given as goal

abbrev pub invariant-fields : goal.invariant-fields
invariant-fields l = record {
  long : length l.highs ≡ 16;
  ends : take l.f l.highs ≡ map (λ part. part.high) (take l.f l.parts);
}
