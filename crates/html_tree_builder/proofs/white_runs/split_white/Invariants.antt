use Rattle.std.proofs.Common.{length}
use denote.Text.{Utf8}
use denote.Shadow.{shadow}
use Rattle.html_tree_builder.specs.Texts.{HasWhiteFront}
use Rattle.html_tree_builder.proofs.white_runs.split_white.Given as goal

abbrev pub invariant-loop-character : goal.invariant-loop-character
invariant-loop-character l = shadow (Utf8 l.rest) × HasWhiteFront l.fn.text l.white l.rest

abbrev pub decreases-loop-character : goal.decreases-loop-character
decreases-loop-character l = length l.rest
