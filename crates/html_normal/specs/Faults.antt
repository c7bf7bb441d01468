-- What a fault of a part is for the whole.
use Rattle.markup.specs.declared.fault.ParseFault.{ParseFault}
use Rattle.markup.specs.declared.fault.ParseFault.TheVariants as parse
use Rattle.markup.specs.declared.serializer.SerializeFault.{SerializeFault}
use Rattle.markup.specs.declared.serializer.SerializeFault.TheVariants as serial
use Rattle.html_input.specs.declared.fault.TextFault.{TextFault}
use Rattle.html_input.specs.declared.fault.TextFault.TheVariants as text
use Rattle.html_normal.specs.declared.fault.NormalFault.{NormalFault}
use Rattle.html_normal.specs.declared.fault.NormalFault.TheVariants.{NotUtf8, Read, Write, Memory, Refused}

-- of a parser: it fails only after want of memory, and what else it tells is a refused token
abbrev pub fault_of : ParseFault → NormalFault
fault_of parse.Memory = Memory
fault_of parse.Failed = Memory
fault_of parse.TokenInText = Refused
fault_of parse.Ended = Refused
fault_of parse.Shape = Refused

abbrev pub input_fault_of : TextFault → NormalFault
input_fault_of (text.NotUtf8 at) = NotUtf8 at
input_fault_of text.Read = Read
input_fault_of text.Memory = Memory

-- of a serializer
abbrev pub write_fault_of : SerializeFault → NormalFault
write_fault_of serial.Write = Write
write_fault_of serial.NoParent = Write
write_fault_of serial.NoElemInfo = Write
write_fault_of serial.Memory = Memory
write_fault_of serial.Failed = Write
