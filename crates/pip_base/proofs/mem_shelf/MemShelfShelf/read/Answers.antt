use Rattle.std.proofs.Common.{◌≡◌, sym, ◌∙◌, ap, map, ◌<◌, length, drop, slice_get, Some, arith}
use Rattle.std.proofs.lemmas.Option.{slice_get-get_or}
use Rattle.pip_base.specs.MemShelf.{stored, rest_of_open, bytes_from}
use Rattle.pip_base.proofs.Shelves.{slice_get-set_other, read-consumes, read-ends, front-copied}
use Rattle.pip_base.proofs.mem_shelf.MemShelfShelf.read.Goals as goal

pub returns-clause-others : goal.returns-clause-others
returns-clause-others c m other = rw (← c.self.view_is) (ap (rest_of_open (map stored c.self.inside.files.items)) (slice_get-set_other c.self.inside.opened.items c.args.file m _ other))

pub returns-clause-bytes : goal.returns-clause-bytes
returns-clause-bytes c =
    let picked : c.args.file < length c.self.inside.opened.items = rw (← c.self.view_is) at c.requires.picked in
    let at_file : slice_get c.self.inside.opened.items c.args.file ≡ Some c.index-open.result.now =
    slice_get-get_or c.self.inside.opened.items c.args.file c.index-open.result.now picked ∙ ap Some (sym c.index-open.ensures) in
    let rest_is : c.rest_of-rest.result.now ≡ bytes_from (slice_get (map stored c.self.inside.files.items) c.index-open.result.now.place) c.index-open.result.now.from =
    rw c.as_slice.ensures.value at c.rest_of-rest.ensures.rest in
    let copied = front-copied c.min-count.result c.rest_of-rest.result.now c.copy_from_slice.new.self (drop c.min-count.result c.args.into.now) (omega (arith, c.min-count.ensures)) c.copy_from_slice.ensures.after in
    rw (← c.self.view_is) (
      read-consumes (map stored c.self.inside.files.items) c.self.inside.opened.items c.args.file c.min-count.result c.index-open.result.now _ c.rest_of-rest.result.now at_file rest_is (omega arith) (omega arith) _ copied,
      λ none some. read-ends (map stored c.self.inside.files.items) c.self.inside.opened.items c.args.file c.min-count.result c.index-open.result.now _ c.rest_of-rest.result.now at_file rest_is (omega arith) (omega arith)
          c.args.into.now c.min-count.ensures none c.requires.room,
    )
