use Rattle.html_tokens.proofs.Readings.{reading-item}
use Rattle.html_tokens.proofs.laws.readings_go_by_items.Goals as goal

pub returns : goal.returns
returns g c erred rows st breaks s ch t = reading-item g.S.TokenSink.step erred g.S.TokenSink.asks_cdata
    g.S.TokenSink.ended rows st breaks s ch t
