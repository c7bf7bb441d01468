use Rattle.std.proofs.Common.{◌≡◌, ◌++◌, drop}
use Rattle.html_ffi.specs.Trees.{place_words}
use Rattle.html_ffi.proofs.placed.push_places.Given as goal

-- the words of the places that are left are to come
abbrev pub invariant-loop-place : goal.invariant-loop-place
invariant-loop-place l = l.bytes.items ++ place_words (drop l.place-index l.places) ≡ l.fn.bytes.items ++ place_words l.places
