use Rattle.std.proofs.Common.{refl}
use Rattle.html_tokenizer.specs.Calls.{answered}
use Rattle.html_tokenizer.proofs.Feeds.Pieces.{moved-one, moved-then}
use Rattle.html_tokenizer.proofs.Fronts.Runs.{tag-passes}
use Rattle.html_tokenizer.proofs.Fronts.Whole.{close-comes, close-cut}
use Rattle.html_tokenizer.proofs.tokenizer.Tokenizer.move_to_end.Goals as goal

pub skip-requires : goal.skip-requires
skip-requires g c = close-cut c.as_str-text.result.now _ _ c.as_str-text.utf8 c.as_str-text.ensures c.in-Some.ensures.whole

pub returns : goal.returns
returns g c =
    let m = g.Sink.TokenSink in
    let old = c.args.self.now in
    let result = answered c.close_tag.new.answer c.close_tag.result in
    λ before start moved. moved-then m before old c.close_tag.new.self start c.args.input.now c.skip.new.self result moved
    (moved-one m old old c.close_tag.new.self c.args.input.now c.skip.new.self 62 result refl
    (close-comes old.stream c.args.input.now c.skip.new.self c.as_str-text.result.now _ _ c.requires.unmarked
    c.requires.heeds c.as_str-text.ensures c.in-Some.ensures.whole c.skip.ensures)
    (tag-passes m old c.close_tag.new.self 62 result refl c.close_tag.ensures))
