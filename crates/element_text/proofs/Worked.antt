-- Worked examples.
use Rattle.std.specs.Prelude.{◌≡◌, refl, codes, [], ◌∷◌, Some, None}
use Rattle.std.specs.Fmt.{digits}
use Rattle.addr_text.specs.Written.{value_text, interval_text}
use Rattle.set_model.specs.declared.kind.Kind.TheVariants.{Ipv4, Service}
use Rattle.element_text.specs.ElementText.{key_text, intervals_text, comment_text, line_text}

-- the key of an address and a port
a_key : key_text (Ipv4 ∷ Service ∷ []) (3221226061 ∷ 443 ∷ []) ≡ codes "192.0.2.77 . 443"
unfolding digits value_text
a_key = refl

-- an element of a prefix and a range of ports
an_element : intervals_text (Ipv4 ∷ Service ∷ []) (record { low = 3221225984; high = 3221226239 } ∷ record { low = 80; high = 443 } ∷ []) ≡ codes "192.0.2.0/24 . 80-443"
unfolding digits value_text interval_text lib.Count.count_leading_zeros
an_element = refl

-- a comment, and none
a_comment : comment_text (codes "web") ≡ codes " comment \"web\""
a_comment = refl

no_comment : comment_text [] ≡ []
no_comment = refl

-- a line, and none
a_line : line_text (Some 6) ≡ codes " (line 6)"
unfolding digits
a_line = refl

no_line : line_text None ≡ []
no_line = refl
