use Rattle.std.proofs.Common.{rules, ◌++◌, subst}
use Rattle.std.specs.Str.{chars}
use Rattle.bench_tokenizer.proofs.Pages.{no-bytes, page-counted, read-further}
use Rattle.bench_tokenizer.specs.Readings.{Reads, ReadsPage}
use Rattle.bench_tokenizer.proofs.read.feed_page.Goals as goal

pub loop-rest-init : goal.loop-rest-init
loop-rest-init c = (search rules, c.requires, λ table h. h, search rules)

pub loop-rest-preserved : goal.loop-rest-preserved
loop-rest-preserved c =
    let loop = c.loop-rest in
    let pieces = c.split_piece.result in
    let new = c.feed_text.new in
    let page = chars c.args.page.now in
    let text = chars pieces.0.now in
    let behind = chars pieces.1.now in
    let read : ReadsPage c.args.tokenizer.now loop.tokenizer page (text ++ behind) =
    subst (λ t. ReadsPage c.args.tokenizer.now loop.tokenizer page t) c.split_piece.ensures.whole loop.invariant.2 in
    let reads : Reads loop.tokenizer new.tokenizer text = search rules in
    (search rules, reads.takes, read-further page text behind c.args.tokenizer.now loop.tokenizer new.tokenizer read reads, search rules)

pub returns : goal.returns
returns c =
    let loop = c.loop-rest in
    page-counted c.args.tokenizer.now loop.tokenizer c.end.new.self (chars c.args.page.now) loop.rest.now loop.invariant.2
    (no-bytes loop.rest.now c.is_empty.result c.is_empty.ensures c.loop-rest-test.false) c.in_ok-end.ensures.gives
