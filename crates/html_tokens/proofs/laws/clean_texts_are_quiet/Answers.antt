use Rattle.html_tokens.proofs.CleanItems.{reading-clean}
use Rattle.html_tokens.proofs.laws.clean_texts_are_quiet.Goals as goal

pub returns : goal.returns
returns g c rows st breaks s t h =
    let T = g.S.TokenSink in
    reading-clean T.step T.is_quiet T.asks_cdata T.ended rows st breaks s t h
