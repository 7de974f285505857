-- Worked examples of a dump. They compute: a wrong text here is refused.
use Rattle.std.specs.Prelude.{◌≡◌, refl, [], ◌∷◌, None, codes, false, true}
use Rattle.std.specs.Fmt.{digits}
use Rattle.field_groups.specs.Groups.{agrees}
use Rattle.set_model.specs.declared.kind.Kind.TheVariants.{Ipv4, Service}
use Rattle.set_model.specs.declared.script.SetDecl.{SetDecl}
use Rattle.set_model.specs.declared.script.Family.TheVariants.{Ip}
use Rattle.set_model.specs.SetState.{State, empty_set}
use Rattle.set_report.specs.DumpText.{dump_text, groups_text, bitmap_text}

-- nine rules, of which the first, the second and the ninth
nine : bitmap_text (true ∷ true ∷ false ∷ false ∷ false ∷ false ∷ false ∷ false ∷ true ∷ []) ≡ codes "0301"
nine = refl

abbrev declared_set : SetDecl
declared_set = record { family = Ip; table = codes "filter"; name = codes "s"; kinds = Ipv4 ∷ Service ∷ []; interval = true; timed = false; disjoint = false; timeout = None; size = None }

-- 10.0.0.5 . 1024 and 192.168.1.0-192.168.2.1 . 2048
abbrev two_elements : State
two_elements = record {
  kinds = Ipv4 ∷ Service ∷ [];
  size = None;
  disjoint = false;
  elements =
      (record { id = 0; parts = (record { low = 167772165; high = 167772165 }) ∷ (record { low = 1024; high = 1024 }) ∷ []; expiry = None; comment = [] })
      ∷ (record { id = 1; parts = (record { low = 3232235776; high = 3232236033 }) ∷ (record { low = 2048; high = 2048 }) ∷ []; expiry = None; comment = [] })
      ∷ [];
  next = 2;
}

two_elements_text : dump_text (declared_set ∷ []) (two_elements ∷ []) ≡ codes "set ip filter s\nfield 0 ipv4_addr width 8 rules 3\nrow 0 10-10 01\nrow 0 192-192 06\nrow 1 0-0 01\nrow 1 168-168 06\nrow 2 0-0 01\nrow 2 1-1 02\nrow 2 2-2 04\nrow 3 0-1 06\nrow 3 2-4 02\nrow 3 5-5 03\nrow 3 6-255 02\nmap 0 1\nmap 1 1\nmap 1 1\nfield 1 inet_service width 8 rules 2\nrow 0 4-4 01\nrow 0 8-8 02\nrow 1 0-0 03\nend 0\nend 1\n"
unfolding dump_text digits agrees
two_elements_text = refl

-- Without elements each field has its first line alone.
no_elements_text : dump_text (declared_set ∷ []) (empty_set (Ipv4 ∷ Service ∷ []) None false ∷ []) ≡ codes "set ip filter s\nfield 0 ipv4_addr width 8 rules 0\nfield 1 inet_service width 8 rules 0\n"
unfolding dump_text digits agrees
no_elements_text = refl

-- Groups of four bits: the protocols 5, and 4 to 7.
narrow_groups : groups_text 4 8 ((record { base = 5; free_bits = 0 }) ∷ (record { base = 4; free_bits = 2 }) ∷ []) ≡ codes "row 0 0-0 03\nrow 1 4-4 02\nrow 1 5-5 03\nrow 1 6-7 02\n"
unfolding digits agrees
narrow_groups = refl
