use Rattle.std.proofs.Common.{◌≡◌, ◌-◌, length}
use Rattle.html_encodings.specs.Prescan.{attributes, tag_from}
use Rattle.html_encodings.specs.Attributes.{meta_view}
use Rattle.html_encodings.proofs.attributes.tag_from.Given as goal

abbrev pub invariant-loop-count : goal.invariant-loop-count
invariant-loop-count l = tag_from l.bytes ≡ attributes (length l.bytes - l.count) (record { meta = meta_view l.meta; rest = l.rest })
