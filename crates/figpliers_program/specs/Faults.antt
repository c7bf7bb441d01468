-- The faults of pages that those of parsing and of writing are.
use Rattle.figpliers.specs.NormalFault.{NormalFault}
use Rattle.figpliers.specs.NormalFault.TheVariants as normal
use Rattle.figpliers.specs.SerializeFault.{SerializeFault}
use Rattle.figpliers.specs.SerializeFault.TheVariants as writing
use Rattle.figpliers_program.specs.declared.faults.PageFault.{PageFault}
use Rattle.figpliers_program.specs.declared.faults.PageFault.TheVariants.{Memory, NotUtf8, Read, Write}

-- no text is refused
abbrev pub normal_fault_of : NormalFault → PageFault
normal_fault_of (normal.NotUtf8 at) = NotUtf8 at
normal_fault_of normal.Read = Read
normal_fault_of normal.Write = Write
normal_fault_of normal.Memory = Memory
normal_fault_of normal.Refused = Memory

abbrev pub serialize_fault_of : SerializeFault → PageFault
serialize_fault_of writing.Memory = Memory
serialize_fault_of fault = Write
