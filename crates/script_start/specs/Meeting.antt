-- Readers that know what a control committed.
use Rattle.std.specs.Prelude.{◌≡◌}
use Rattle.gen_publish.specs.Publish.{Steering, ReaderView}

-- A reader is of a control's start.
abbrev pub IsReaderOf : Steering → ReaderView → Type 0
IsReaderOf c reader = reader.of ≡ c.of

-- the reader after it saw all that the control committed
abbrev pub up_to_date : Steering → ReaderView → ReaderView
up_to_date c reader = record reader { seen = c.committed }
