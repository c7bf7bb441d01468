use Rattle.std.proofs.Common.{◌≡◌, ◌∙◌, Bool, false, ap, sym}
use Rattle.std.specs.Prelude.{◌&&◌, not}
use Rattle.html_faithful_judge.proofs.spot.is_foreign_in.Goals as goal

both : (r h there at : Bool) → r ≡ h → r ≡ false → there ≡ at → not there ≡ (not h && not at)
both r h there at e f k = ap not k ∙ ap (λ h. not h && not at) (sym f ∙ e)

pub returns-then-not-is_html : goal.returns-then-not-is_html
returns-then-not-is_html c node =
    both _ _ _ _ c.is_html.ensures c.if-not-is_html.true (c.is_html_there.ensures (node c.args.element.now.handle))
