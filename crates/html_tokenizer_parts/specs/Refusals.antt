-- What a call of a tokenizer is refused by.
use Rattle.std.specs.Prelude.{◌≡◌, Bool, true, false, Option, Some, None, Result, Err, IsOk}
use Rattle.markup.specs.declared.fault.ParseFault.{ParseFault}
use Rattle.markup.specs.declared.fault.ParseFault.TheVariants as fault
use Rattle.html_tokenizer_parts.specs.declared.stream.Stream.{Stream}

abbrev pub refused_by : Bool → Bool → Option ParseFault
refused_by true has_ended = Some fault.Failed
refused_by false true = Some fault.Ended
refused_by false false = None

-- what every call that answers a fault is refused by: a fault that stands before, or else the end
abbrev pub refusal : Stream → Option ParseFault
refusal stream = refused_by stream.has_failed stream.has_ended

-- the answer of a call that is refused so, or is not
abbrev pub Refuses : Option ParseFault → Result (Unit {0}) ParseFault → Type 0
Refuses None result = IsOk result
Refuses (Some fault) result = result ≡ Err fault
