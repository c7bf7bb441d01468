use Rattle.std.proofs.Common.{false}
use Rattle.html_round_trip.proofs.ReadBack.Flow.{comment-reads}
use Rattle.html_round_trip.proofs.plain_documents.laws.comments_are_read.Goals as goal

pub returns : goal.returns
returns c rows reads o head b n top os last f es ok text plain good home = comment-reads rows reads false o head b n
    top os last f es ok text plain good home
