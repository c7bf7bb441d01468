use Rattle.html_tokens.proofs.NotedReadings.{reading-without_notes}
use Rattle.html_tokens.proofs.laws.notes_change_nothing.Goals as goal

pub returns : goal.returns
returns g c rows st breaks s notes t =
    let T = g.S.TokenSink in
    reading-without_notes T.step T.is_quiet T.asks_cdata T.ended rows 0 st breaks s notes t
