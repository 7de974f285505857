use Rattle.std.proofs.Common.{◌≡◌, ◌*◌, ◌<◌, ℕ, length, Some, slice_get}
use Rattle.set_model.specs.declared.element.Element.{Element}
use Rattle.bit_rows.specs.Words.{bit_in}
use Rattle.expiry_scan.specs.Expired.{is_expired}
use Rattle.expiry_scan.proofs.timed.TimedElements.expired_marks.Given as goal

-- the marks of the pages before this one
abbrev pub invariant-pages : goal.invariant-pages
invariant-pages l = record {
  long : length l.words.items ≡ 8 * l.page;
  marks : (k : ℕ) (e : Element) → k < 512 * l.page → slice_get l.self k ≡ Some e → bit_in l.words.items k ≡ is_expired l.now e;
}
