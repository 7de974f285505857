-- Texts as they are shown, one after another.
use Rattle.std.proofs.Common.{◌≡◌, ℕ, List, ◌++◌}
use Rattle.std.proofs.lemmas.Grind.{flat_map-append}
use Rattle.token_notes.specs.Shown.{shown, shown_byte}

pub shown_both : (xs ys : List ℕ) → shown (xs ++ ys) ≡ shown xs ++ shown ys
shown_both xs ys = flat_map-append shown_byte xs ys
