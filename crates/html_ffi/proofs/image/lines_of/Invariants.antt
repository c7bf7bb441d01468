use Rattle.std.proofs.Common.{◌≡◌, take}
use Rattle.std.specs.List.{flat_map}
use Rattle.std.specs.String.{string_bytes}
use Rattle.html_ffi.specs.Images.{link_line}
use Rattle.html_ffi.proofs.image.lines_of.Given as goal

-- the text has the lines of the links so far
abbrev pub invariant-loop-link : goal.invariant-loop-link
invariant-loop-link l = string_bytes l.text ≡ flat_map link_line (take l.link-index l.links)
