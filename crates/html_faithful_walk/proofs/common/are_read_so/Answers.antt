use Rattle.std.proofs.Common.{◌∙◌, arith, sym}
use Rattle.html_faithful_walk.proofs.ReadSo.{few-read}
use Rattle.html_faithful_walk.proofs.common.are_read_so.Goals as goal

pub returns-then-count-lt2 : goal.returns-then-count-lt2
returns-then-count-lt2 c all =
    few-read c.args.attributes.now (omega (arith, c.if-count-lt2.true)) (sym c.are_all_read_so.ensures ∙ all)
