use Rattle.std.proofs.Common.{◌∙◌}
use Rattle.addr_text.proofs.InlineLaws.{displayed}
use Rattle.addr_text.proofs.append.append_display.Goals as goal

pub returns-in-Ok-clause-ok : goal.returns-in-Ok-clause-ok
returns-in-Ok-clause-ok g c =
    displayed 48 c.new-text.result c.write.new.self (g.D.Display.output c.args.value) c.args.out.now.items c.append.new.out.items c.as_bytes.result.now c.append.result c.in-Ok.ensures.writes c.new-text.ensures.intact c.new-text.ensures.text (c.as_bytes.ensures.value ∙ c.as_str.ensures.value) c.append.ensures.ok
