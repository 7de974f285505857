use Rattle.std.proofs.Common.{◌≡◌, ap, rules, map, ◌+◌, ◌<◌, ◌++◌, ◌∷◌, [], length, position, nat_eq, Some, arith, length-append}
use Rattle.std.specs.Cmp.Lexicographic.{pointwise}
use Rattle.std.specs.String.{string_bytes}
use Rattle.pip_base.specs.declared.mem_shelf.OpenFile.{OpenFile}
use Rattle.pip_base.specs.MemShelf.{stored, rest_of_open}
use Rattle.pip_base.proofs.Shelves.{slice_get-before, pick-left}
use Rattle.pip_base.proofs.mem_shelf.MemShelfShelf.pick.Goals as goal

pub returns-clause-ok : goal.returns-clause-ok
returns-clause-ok c =
    let one : OpenFile = record { place = c.in-Some.place; from = 0 } in
    let opened : c.push-2.new.self.items ≡ c.self.inside.opened.items ++ one ∷ [] = search rules in
    let number : c.len-number.result ≡ length c.self.inside.opened.items = search rules in
    let at_place : Some c.in-Some.place ≡ position (λ file. pointwise nat_eq (string_bytes file.name) c.args.name.now) c.self.inside.files.items = search rules in
    let longer : length (c.self.inside.opened.items ++ one ∷ []) ≡ length c.self.inside.opened.items + 1 = length-append c.self.inside.opened.items (one ∷ []) in
    rw (← c.self.view_is, opened) (
      record { fresh = λ h. absurd (omega (arith, h, number)); picked = omega (arith, number, longer) },
      pick-left c.self.inside.files.items c.self.inside.opened.items c.args.name.now c.in-Some.place c.len-number.result at_place number,
    )

pub returns-clause-kept : goal.returns-clause-kept
returns-clause-kept c m before =
    let one : OpenFile = record { place = c.in-Some.place; from = 0 } in
    let opened : c.push-2.new.self.items ≡ c.self.inside.opened.items ++ one ∷ [] = search rules in
    let within : m < length c.self.inside.opened.items = rw (← c.self.view_is) at before in
    let longer : length (c.self.inside.opened.items ++ one ∷ []) ≡ length c.self.inside.opened.items + 1 = length-append c.self.inside.opened.items (one ∷ []) in
    rw (← c.self.view_is, opened) (omega (arith, within, longer), ap (rest_of_open (map stored c.self.inside.files.items)) (slice_get-before c.self.inside.opened.items (one ∷ []) m within))
