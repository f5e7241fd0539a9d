-- The program's values in the terms of the definitions.
use Rattle.frame.specs.Frame as definitions
use Rattle.frame.specs.Frame.{Telegram, ack, short, long, Parsed, complete, incomplete, invalid, checksum, stop, header, bad_length, start}
use Rattle.frame.specs.declared.Frame.{Frame}
use Rattle.frame.specs.declared.Frame.TheVariants.{Ack, Short, Long}
use Rattle.frame.specs.declared.Why.{Why}
use Rattle.frame.specs.declared.Why.TheVariants.{Checksum, Stop, Header, Length, Start}
use Rattle.frame.specs.declared.ParseOutcome.{ParseOutcome}
use Rattle.frame.specs.declared.ParseOutcome.TheVariants.{Complete, Incomplete, Invalid}

abbrev pub telegram_of : Frame → Telegram
telegram_of Ack = ack
telegram_of (Short c a) = short c a
telegram_of (Long c a ci d) = long c a ci d.now

abbrev pub why_of : Why → definitions.Why
why_of Checksum = checksum
why_of Stop = stop
why_of Header = header
why_of Length = bad_length
why_of Start = start

abbrev pub parsed_of : ParseOutcome → Parsed
parsed_of (Complete frame used) = complete (telegram_of frame) used
parsed_of (Incomplete n) = incomplete n
parsed_of (Invalid why) = invalid (why_of why)
