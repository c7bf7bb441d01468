use Rattle.std.proofs.Common.{◌∙◌, ◌++◌, ap}
use Rattle.html_ffi.specs.Images.{link_line}
use Rattle.html_ffi.proofs.Lines.{lines-next}
use Rattle.html_ffi.proofs.image.lines_of.Goals as goal

pub loop-link-preserved : goal.loop-link-preserved
loop-link-preserved c =
    c.in_ok-push_link.ensures ∙ ap (λ text. text ++ link_line c.link-item.result) c.loop-link.invariant
    ∙ lines-next link_line c.args.links.now c.loop-link.link-index c.link-item.result c.link-item.result c.loop-link-test.true c.link-item.is
