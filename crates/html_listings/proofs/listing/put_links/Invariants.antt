use Rattle.std.proofs.Common.{◌≡◌, take}
use Rattle.std.specs.List.{flat_map}
use Rattle.std.specs.String.{string_bytes}
use Rattle.html_serialize.specs.Puts.{told_by, with_bytes}
use Rattle.html_listings.specs.Listings.{line_of}
use Rattle.html_listings.proofs.listing.put_links.Given as goal

-- the lines of the links so far were written
abbrev pub invariant-loop-link : goal.invariant-loop-link
invariant-loop-link g l = told_by g.W.Target.written g.W.Target.failures l.writer
    ≡ with_bytes (told_by g.W.Target.written g.W.Target.failures l.fn.writer)
    (flat_map (line_of l.listing l.page.forest.now l.page.name.now (string_bytes l.page.prefix) l.page.base) (take l.link-index l.links))
