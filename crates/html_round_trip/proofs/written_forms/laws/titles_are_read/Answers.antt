use Rattle.html_round_trip.proofs.Slices.Readers.{of-readers, text-taken, title-taken}
use Rattle.html_round_trip.proofs.written_forms.laws.titles_are_read.Goals as goal

pub returns : goal.returns
returns g c rows reads =
    let T = g.S.TokenSink in
    of-readers T.step T.is_quiet T.asks_cdata T.ended rows _
    (λ X read reader. (
      text-taken T.step T.is_quiet T.asks_cdata T.ended rows reads read reader,
      title-taken T.step T.is_quiet T.asks_cdata T.ended rows reads read reader,
    ))
