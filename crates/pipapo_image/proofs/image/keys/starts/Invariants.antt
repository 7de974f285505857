use Rattle.std.proofs.Common.{◌≡◌, map, take, length}
use Rattle.pipapo_image.proofs.image.keys.starts.Given as goal

abbrev pub invariant-fields : goal.invariant-fields
invariant-fields l = record {
  long : length l.lows ≡ 16;
  starts : take l.f l.lows ≡ map (λ part. part.low) (take l.f l.parts);
}
