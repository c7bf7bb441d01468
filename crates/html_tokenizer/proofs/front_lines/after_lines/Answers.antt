use Rattle.std.proofs.Common.{subst}
use Rattle.std.specs.Str.{chars}
use Rattle.html_tokenizer.specs.Fronts.{Lacks}
use Rattle.html_tokenizer.proofs.Fronts.Lines.{lines-begun, lines-more, rest-utf8}
use Rattle.html_tokenizer.proofs.front_lines.after_lines.Goals as goal

pub loop-after-init : goal.loop-after-init
loop-after-init c = (
  rest-utf8 c.args.text.now c.split.result.0.now c.split.result.1.now c.utf8.text c.split.ensures.whole c.split.ensures.cut,
  lines-begun c.args.text.now c.split.result.0.now c.split.result.1.now c.args.breaks c.split.ensures.whole
      c.split.ensures.cut (subst (λ set. Lacks set (chars c.split.result.0.now)) c.data_stops-stops.ensures c.split.ensures.lacking),
)

pub loop-after-preserved : goal.loop-after-preserved
loop-after-preserved c = (
  rest-utf8 c.in-Some.after.now c.split-in-Some.result.0.now c.split-in-Some.result.1.now c.in-Some.ensures.utf8
      c.split-in-Some.ensures.whole c.split-in-Some.ensures.cut,
  lines-more c.args.text.now c.loop-after.rest.now c.in-Some.after.now c.split-in-Some.result.0.now
      c.split-in-Some.result.1.now c.args.breaks c.loop-after.breaks_after _ c.loop-after.invariant.1
      c.in-Some.ensures.whole c.split-in-Some.ensures.whole c.split-in-Some.ensures.cut
      (subst (λ set. Lacks set (chars c.split-in-Some.result.0.now)) c.data_stops-stops.ensures
      c.split-in-Some.ensures.lacking) c.saturating_add-breaks_after.ensures,
)
