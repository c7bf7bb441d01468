use Rattle.html_tokens.proofs.Readings.{reading-skip}
use Rattle.html_tokens.proofs.laws.readings_go_on_after_items.Goals as goal

pub returns : goal.returns
returns g c erred rows n st breaks s t = reading-skip g.S.TokenSink.step erred g.S.TokenSink.asks_cdata
    g.S.TokenSink.ended rows n st breaks s t
