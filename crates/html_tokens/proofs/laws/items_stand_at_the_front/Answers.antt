use Rattle.html_tokens.proofs.Lengths.{item-takes}
use Rattle.html_tokens.proofs.laws.items_stand_at_the_front.Goals as goal

pub returns : goal.returns
returns c rows cdata st ch t = let h = item-takes rows cdata st ch t in (h.some, h.within)
