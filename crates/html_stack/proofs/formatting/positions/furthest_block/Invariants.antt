use Rattle.std.proofs.Common.{◌≡◌, false, take, map, reverse}
use Rattle.std.specs.List.{list_any}
use Rattle.html_rules.specs.State.{is_in}
use Rattle.html_rules.specs.declared.tag_set.TagSet.TheVariants.{SpecialTag}
use Rattle.html_stack.specs.Stacks.{open_of}
use Rattle.html_stack.proofs.formatting.positions.furthest_block.Given as goal

abbrev pub invariant-loop-i : goal.invariant-loop-i
invariant-loop-i g l = list_any (is_in SpecialTag) (reverse (map (open_of g.Sink.TreeSink.node) (take l.i l.elements))) ≡ false
