use Rattle.std.proofs.Common.{◌≡◌, ◌++◌, vec_len}
use Rattle.std.specs.String.{string_bytes}
use Rattle.figpliers_program.specs.Checking.{slashed}
use Rattle.figpliers_program.proofs.checking.push_slashed.Given as goal

abbrev pub invariant-loop-id : goal.invariant-loop-id
invariant-loop-id l =
    string_bytes l.path ++ slashed l.forest l.around.items ≡ string_bytes l.fn.path ++ slashed l.forest l.fn.around.items

abbrev pub decreases-loop-id : goal.decreases-loop-id
decreases-loop-id l = vec_len l.around
