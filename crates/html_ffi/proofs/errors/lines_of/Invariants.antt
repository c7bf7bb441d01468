use Rattle.std.proofs.Common.{◌≡◌, take}
use Rattle.std.specs.String.{string_bytes}
use Rattle.html_ffi.specs.Errors.{error_lines}
use Rattle.html_ffi.proofs.errors.lines_of.Given as goal

-- the text has the lines of the errors so far
abbrev pub invariant-loop-error : goal.invariant-loop-error
invariant-loop-error l = string_bytes l.text ≡ error_lines (take l.error-index l.errors)
