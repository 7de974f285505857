-- What the class of a byte says of it.
use Rattle.std.proofs.Common.{◌≡◌, ℕ, ◌==◌, Bool, true, false, cond, refl}
use Rattle.token_forms.specs.Bytes.{byte_class, is_blank, is_mark_byte, is_word_byte}

letter : (word blank mark : Bool) → (cond word 119 (cond blank 98 (cond mark 109 46)) == 119) ≡ word
letter true blank mark = refl
letter false true mark = refl
letter false false true = refl
letter false false false = refl

pub word_class : (b : ℕ) → (byte_class b == 119) ≡ is_word_byte b
word_class b = letter (is_word_byte b) (is_blank b) (is_mark_byte b)
