-- Words of key files that have a meaning at their place.
use Rattle.std.specs.Prelude.{ℕ, List, Option, Some, None, option_map, codes, bytes_eq, if◌then◌else◌}
use Rattle.set_model.specs.declared.script.Family.{Family}
use Rattle.set_model.specs.declared.script.Family.TheVariants as families
use Rattle.set_model.specs.declared.script.SetDecl.{SetDecl}
use Rattle.set_script.specs.Names.{family_of, set_place}
use Rattle.set_script.specs.Values.{moment_of}
use Rattle.key_file.specs.declared.draft.KeyWord.{KeyWord}
use Rattle.key_file.specs.declared.draft.KeyWord.TheVariants as keys
use Rattle.key_file.specs.declared.draft.AtWord.{AtWord}
use Rattle.key_file.specs.declared.draft.AtWord.TheVariants as ats

abbrev pub word_or_family : Option Family → List ℕ → KeyWord
word_or_family (Some family) t = keys.Family family
word_or_family None t = if bytes_eq t (codes "at") then keys.At else if bytes_eq t (codes "round") then keys.Round else keys.Table

-- The meaning of a line's first word. A word that names a family is the family. `at` and `round` may
-- also be tables.
abbrev pub key_word_of : List ℕ → KeyWord
key_word_of t = word_or_family (family_of t) t

abbrev pub moment_or : Option ℕ → Option ℕ → Option AtWord
moment_or (Some n) set = Some (ats.Moment n)
moment_or None set = option_map (λ i. ats.Set i) set

-- After `at`: a moment, which may be before the moment so far, or a set of the table `at`.
abbrev pub at_of : List SetDecl → List ℕ → Option AtWord
at_of schema t = moment_or (moment_of 0 t) (set_place schema families.Ip (codes "at") t)
