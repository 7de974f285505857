-- What is asked of a script before it is done once more.
use Rattle.std.specs.Prelude.{Bool, ◌&&◌, nat_le, length}
use Rattle.set_model.specs.declared.script.SetDecl.{SetDecl}

-- a set has 1 to 16 fields
abbrev pub has_few_fields : SetDecl → Bool
has_few_fields d = nat_le 1 (length d.kinds) && nat_le (length d.kinds) 16
