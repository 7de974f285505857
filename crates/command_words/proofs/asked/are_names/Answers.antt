use Rattle.std.proofs.Common.{◌∙◌, sym}
use Rattle.std.specs.String.{string_bytes}
use Rattle.std.proofs.lemmas.List.Folds.{list_all-map}
use Rattle.command_words.specs.GetWords.{is_file_name}
use Rattle.command_words.proofs.asked.are_names.Goals as goal

pub returns : goal.returns
returns c = c.is_each_name.ensures ∙ sym (list_all-map is_file_name string_bytes c.args.words.now)
