use Rattle.std.proofs.Common.{◌≡◌, ◌≤◌, take}
use Rattle.std.specs.Str.Parse.{AllDigits, digits_value}
use Rattle.addr_text.proofs.number.leading_number.Given as goal

abbrev pub invariant-loop-byte : goal.invariant-loop-byte
invariant-loop-byte l =
    (l.len ≡ l.byte-index) × AllDigits l.radix (take l.len l.text) × (l.value ≡ digits_value l.radix (take l.len l.text)) × (l.value ≤ l.most)
