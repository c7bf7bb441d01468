use Rattle.std.specs.Str.{chars}
use Rattle.bench_tokenizer.proofs.Pages.{begun}
use Rattle.bench_tokenizer.proofs.read.read.Goals as goal

pub returns : goal.returns
returns c =
    let counted = c.in_ok-answer.ensures c.args.table
    (begun c.args.table (chars c.args.page.now) c.tokenizer_of-tokenizer.result c.tokenizer_of-tokenizer.ensures) in
    rw c.counts_of-counts.ensures counted
