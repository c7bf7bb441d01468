use Rattle.std.proofs.Common.{◌≤◌, length, drop, Some, ap, arith}
use Rattle.std.proofs.lemmas.List.{take_rest}
use Rattle.devices.proofs.Fronts.{front_moved}
use Rattle.devices.proofs.mem_reader.MemReaderSource.read_some.Goals as goal

pub returns-clause-moved : goal.returns-clause-moved
returns-clause-moved c =
    let bytes = c.self.inside.bytes.items in
    let count = rw (c.deref.ensures.value, take_rest) at c.min-count.ensures in
    let within : c.min-count.result ≤ length (drop c.self.inside.at bytes) = omega (arith, count) in
    rw (← c.self.view_is, c.copy_from_slice.ensures.after, c.deref.ensures.value, take_rest)
    (ap Some (front_moved c.self.inside.at c.min-count.result bytes _ within))
