use Rattle.std.proofs.Common.{◌≡◌, sym, ◌∙◌, map, true, true≢false}
use Rattle.std.specs.String.{string_bytes}
use Rattle.clap.specs.Matches.{found_of, one_text}
use Rattle.std.specs.Prelude.{codes}
use Rattle.clap.specs.declared.error.kind.ErrorKind.TheVariants.{OutOfMemory}
use Rattle.command_words.proofs.WordValues.{flag-is, plain-arguments}
use Rattle.command_words.proofs.words.arguments_of.Goals as goal

pub returns-in-Ok : goal.returns-in-Ok
returns-in-Ok c word names threads goes said plain =
    let v = c.in-Ok.ensures.found word names threads goes said plain in record {
      first = c.get_str.ensures ∙ v.first;
      second = c.get_str-in-Ok.ensures ∙ v.second;
      third = c.get_str-in-Ok-2.ensures ∙ v.third;
      fourth = c.get_str-in-Ok-3.ensures ∙ v.fourth;
      threads_are = c.get_str-in-Ok-4.ensures ∙ v.threads_are;
      mark = flag-is c.get_flag.result goes (one_text (found_of c.in-Ok.values) (codes "keep-going")) c.get_flag.ensures.value c.get_flag.ensures.other v.mark;
    }

pub unreachable-requires : goal.unreachable-requires
unreachable-requires c =
    let arguments = plain-arguments (map string_bytes c.args.words.now) c.requires.0 c.requires.1 c.requires.2 in
    let kind_is : c.kind.result ≡ OutOfMemory = c.kind.ensures ∙ c.in-Err.ensures.memory arguments.word arguments.names arguments.threads arguments.keep_going arguments.said arguments.plain in
    let same : c.eq.result ≡ true = rw kind_is at c.eq.ensures in
    true≢false (sym same ∙ c.if-eq.false)
