use Rattle.std.proofs.Common.{◌≡◌, ◌++◌, map, take}
use Rattle.html_listings.specs.Links.{link}
use Rattle.html_listings.proofs.links.push_urls.Given as goal

abbrev pub invariant-loop-url : goal.invariant-loop-url
invariant-loop-url l = l.links.items ≡ l.fn.links.items ++ map (link l.node l.kind) (take l.url-index l.urls)
