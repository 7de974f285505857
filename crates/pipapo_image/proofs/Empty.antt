-- Tables without rules.
use Rattle.std.proofs.Common.{◌≡◌, refl, sym, subst, ℕ, List, [], get_or, arith}
use Rattle.set_model.specs.declared.kind.Kind.{Kind}
use Rattle.set_model.specs.declared.kind.Kind.TheVariants.{Ipv4, Ipv6, Ether, Proto, Service, Mark}
use Rattle.set_model.specs.Kind.{bits_of}
use Rattle.field_groups.specs.Groups.{IsWidth}
use Rattle.lookup_table.specs.declared.table.FieldTable.{FieldTable}
use Rattle.lookup_table.specs.Width.{width_of}
use Rattle.mapping_table.specs.Spared.{Spared}
use Rattle.set_tables.specs.declared.Span.{Span}
use Rattle.pipapo_image.specs.Index.Standing.{IsTableOf}

pub width-empty : (kind : Kind) → width_of (bits_of kind) 0 ≡ 8
width-empty Ipv4 = refl
width-empty Ipv6 = refl
width-empty Ether = refl
width-empty Proto = refl
width-empty Service = refl
width-empty Mark = refl

kind-width : (kind : Kind) → IsWidth 8 (bits_of kind)
kind-width Ipv4 = record { fours = refl; four = omega arith; eight = omega arith; bytes = refl; some = omega arith; most = omega arith }
kind-width Ipv6 = record { fours = refl; four = omega arith; eight = omega arith; bytes = refl; some = omega arith; most = omega arith }
kind-width Ether = record { fours = refl; four = omega arith; eight = omega arith; bytes = refl; some = omega arith; most = omega arith }
kind-width Proto = record { fours = refl; four = omega arith; eight = omega arith; bytes = refl; some = omega arith; most = omega arith }
kind-width Service = record { fours = refl; four = omega arith; eight = omega arith; bytes = refl; some = omega arith; most = omega arith }
kind-width Mark = record { fours = refl; four = omega arith; eight = omega arith; bytes = refl; some = omega arith; most = omega arith }

pub width-eight : (kind : Kind) (bits : ℕ) → bits ≡ bits_of kind → IsWidth 8 bits
width-eight kind bits e = subst (λ z. IsWidth 8 z) (sym e) (kind-width kind)

-- the table of a field without rules
abbrev pub IsEmptyTable : List Kind → ℕ → FieldTable → Type 0
IsEmptyTable kinds f t = (k : Kind) → IsTableOf (get_or kinds f k) [] t

-- a mapping without rules
abbrev pub IsEmptyMap : ℕ → Spared Span → Type 0
IsEmptyMap f m = m.items ≡ []
