-- The tables of a list of elements: the rules of each field, a span for each rule of all fields but
-- the last, and an end for each rule of the last. The kernel's theory of operation of the pile of
-- packet policies says: "insertion ... ranges are expanded to composing netmasks ... mapping".
use Rattle.std.specs.Prelude.{ℕ, suc, ◌+◌, ◌-◌, List, [], ◌∷◌, ◌++◌, map, length, replicate}
use Rattle.std.specs.List.{range_with_len}
use Rattle.set_model.specs.declared.kind.Kind.{Kind}
use Rattle.set_model.specs.declared.element.Element.{Element}
use Rattle.set_model.specs.declared.block.Block.{Block}
use Rattle.set_model.specs.SetState.{field_blocks, field_rules}
use Rattle.set_tables.specs.declared.Span.{Span}
use Rattle.set_tables.specs.declared.End.{End}

-- the blocks of an element's interval in field f
abbrev pub split : List Kind → ℕ → Element → List Block
split kinds f e = field_blocks kinds f e.parts

-- One span for each rule of a field: the next field's rules of the same element. `here` are an
-- element's blocks in the field, and `next` its blocks in the next field. The next field has `from`
-- rules before them.
abbrev pub spans : (Element → List Block) → (Element → List Block) → ℕ → List Element → List Span
spans here next from [] = []
spans here next from (e ∷ es) =
    replicate (length (here e)) (record { first = from; count = length (next e) }) ++ spans here next (from + length (next e)) es

-- One end for each rule of the last field: the place of its element, and its expiry. The first of
-- these elements is at `place`.
abbrev pub ends : (Element → List Block) → ℕ → List Element → List End
ends here place [] = []
ends here place (e ∷ es) = replicate (length (here e)) (record { place = place; expiry = e.expiry }) ++ ends here (place + 1) es

pub record Tables : Type 0 where
  pub rules : List (List Block)
  pub maps : List (List Span)
  pub ends : List End

-- the spans of field f
abbrev pub field_spans : List Kind → ℕ → List Element → List Span
field_spans kinds f es = spans (split kinds f) (split kinds (suc f)) 0 es

-- the ends of the last field
abbrev pub last_ends : List Kind → List Element → List End
last_ends kinds es = ends (split kinds (length kinds - 1)) 0 es

abbrev pub tables : List Kind → List Element → Tables
tables kinds es = record {
  rules = map (λ f. field_rules kinds f es) (range_with_len 0 (length kinds));
  maps = map (λ f. field_spans kinds f es) (range_with_len 0 (length kinds - 1));
  ends = last_ends kinds es;
}
