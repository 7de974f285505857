use Rattle.std.proofs.Common.{◌≡◌, ℕ, ◌<◌, map, get_or, refl, ap, ◌∙◌, arith}
use Rattle.std.proofs.lemmas.List.FromFn.{get_or-map-range_with_len}
use Rattle.std.specs.List.{range_with_len}
use Rattle.token_forms.specs.Bytes.{byte_class}
use Rattle.token_forms.specs.declared.piece.TheConstants.{CLASSES}
use Rattle.token_forms.proofs.piece.class_of.Goals as goal

-- the table has the class of each byte
table_is : CLASSES ≡ map byte_class (range_with_len 0 256)
table_is = refl

read : (b : ℕ) → b < 256 → get_or CLASSES b 0 ≡ byte_class b
read b h = ap (λ t. get_or t b 0) table_is ∙ get_or-map-range_with_len byte_class 0 256 b b 0 h (omega arith)

pub returns : goal.returns
returns c = read c.args.b (omega arith)
