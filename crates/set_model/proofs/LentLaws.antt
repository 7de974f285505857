-- A list whose items were borrowed has the items that the borrow left.
use Rattle.std.proofs.Common.{◌≡◌, ◌∙◌, ap, List, ◌++◌, length, take, arith}
use Rattle.std.proofs.lemmas.List.{append-nil, drop_all, take_all}
use Rattle.set_model.specs.Lent.{written_over}

-- If as many items are overwritten as the list has, the new items are the whole list.
pub written_whole : {X : Type 0} (xs ws : List X) → length ws ≡ length xs → written_over xs ws ≡ ws
written_whole xs ws same =
    ap (λ rest. take (length xs) (ws ++ rest)) (drop_all (length ws) xs (omega (arith, same)))
    ∙ ap (take (length xs)) (append-nil ws) ∙ take_all (length xs) ws (omega (arith, same))
