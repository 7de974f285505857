-- What the code's words of `get` are in the definition.
use Rattle.std.specs.Prelude.{map}
use Rattle.std.specs.String.{string_bytes}
use Rattle.command_words.specs.declared.asked.Asked.{Asked as Code}
use Rattle.command_words.specs.GetWords.{Asked}

abbrev pub plain_asked : Code → Asked
plain_asked a = record { script = a.script.now; key = map string_bytes a.key.now; moment = a.moment; keep_going = a.keep_going }
