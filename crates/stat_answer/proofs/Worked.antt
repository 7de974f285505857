-- Worked examples of the figures. They compute, so the proof check refuses a wrong number.
use Rattle.std.specs.Prelude.{◌≡◌, refl, ℕ, List, [], ◌∷◌, Some, None, Option, codes, false, true}
use Rattle.std.specs.Fmt.{digits}
use Rattle.addr_text.specs.Written.{time_text}
use Rattle.set_model.specs.declared.element.Element.{Element}
use Rattle.set_model.specs.declared.kind.Kind.TheVariants.{Ipv4, Service}
use Rattle.set_model.specs.declared.script.SetDecl.{SetDecl}
use Rattle.set_model.specs.declared.script.Family.TheVariants.{Ip}
use Rattle.set_model.specs.SetState.{State}
use Rattle.stat_answer.specs.Figures.{bucket_bytes, figures_of}
use Rattle.stat_answer.specs.StatText.{sets_stat}

abbrev declared_set : SetDecl
declared_set = record { family = Ip; table = codes "filter"; name = codes "s"; kinds = Ipv4 ∷ Service ∷ []; interval = true; timed = true; disjoint = false; timeout = None; size = None }

abbrev element : ℕ → ℕ → ℕ → ℕ → Option ℕ → Element
element id low high port expiry = record { id = id; parts = (record { low = low; high = high }) ∷ (record { low = port; high = port }) ∷ []; expiry = expiry; comment = [] }

-- 10.0.0.5 . 1024, and 192.168.1.0-192.168.2.1 . 2048 until 300000 ms
abbrev two_elements : State
two_elements = record {
  kinds = Ipv4 ∷ Service ∷ [];
  size = None;
  disjoint = false;
  elements = element 0 167772165 167772165 1024 None ∷ element 1 3232235776 3232236033 2048 (Some 300000) ∷ [];
  next = 2;
}

-- at the start, when the second expires in five minutes, and after five minutes
expires : sets_stat 0 (declared_set ∷ []) (two_elements ∷ []) ≡ codes "set ip filter s elements 2 expired 0 expiring 1 next 5m\nfield 0 width 8 rules 3 bytes 8192\nfield 1 width 8 rules 2 bytes 4096\ntotal bytes 12288\n"
unfolding digits time_text
expires = refl

has_expired : sets_stat 300000 (declared_set ∷ []) (two_elements ∷ []) ≡ codes "set ip filter s elements 2 expired 1 expiring 0 next none\nfield 0 width 8 rules 3 bytes 8192\nfield 1 width 8 rules 2 bytes 4096\ntotal bytes 12288\n"
unfolding digits time_text
has_expired = refl

-- 16,384 rules of an address take 2 MiB in groups of eight bits. One more, and the groups have four bits.
widest : figures_of 32 16384 ≡ record { width = 8; rules = 16384; bytes = 2097152 }
widest = refl

narrowest : figures_of 32 16385 ≡ record { width = 4; rules = 16385; bytes = 263168 }
narrowest = refl
