use Rattle.std.proofs.Common.{take, codes, filter, not}
use Rattle.key_match.specs.Holders.{fields, holds_field}
use Rattle.key_match.specs.Matched.{field_text}
use Rattle.element_text.proofs.JoinLaws.{Joins}
use Rattle.key_match.proofs.words.write_unmatched.Given as goal

-- the unmatched values so far are appended
abbrev pub invariant-fields : goal.invariant-fields
invariant-fields l = Joins (field_text l.kinds) (codes " and ") (filter (λ f. not (holds_field l.element f)) (take l.field (fields l.key))) l.initial.out.items l.out.items l.separator
