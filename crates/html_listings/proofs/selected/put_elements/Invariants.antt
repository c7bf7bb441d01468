use Rattle.std.proofs.Common.{◌≡◌, take}
use Rattle.std.specs.List.{flat_map}
use Rattle.std.specs.String.{string_bytes}
use Rattle.html_serialize.specs.Puts.{told_by, with_bytes}
use Rattle.html_listings.specs.Selected.{element_text}
use Rattle.html_listings.proofs.selected.put_elements.Given as goal

-- what is printed of the elements so far was written
abbrev pub invariant-loop-id : goal.invariant-loop-id
invariant-loop-id g l = told_by g.W.Target.written g.W.Target.failures l.writer
    ≡ with_bytes (told_by g.W.Target.written g.W.Target.failures l.fn.writer)
    (flat_map (element_text l.show l.page.forest.now l.page.file.now (string_bytes l.page.prefix)) (take l.id-index l.found))
