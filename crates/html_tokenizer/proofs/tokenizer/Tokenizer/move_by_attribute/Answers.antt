use Rattle.std.proofs.Common.{refl}
use Rattle.html_tokenizer.proofs.Fronts.Attributes.{in-tag-ahead}
use Rattle.html_tokenizer.proofs.Fronts.Moves.{goes-on_by, heeding, moved-front, not-fronted, skip-cut}
use Rattle.html_tokenizer.proofs.Fronts.Runs.{in-tag-still}
use Rattle.html_tokenizer.proofs.Fronts.Whole.{name-shorter}
use Rattle.html_tokenizer.proofs.tokenizer.Tokenizer.move_by_attribute.Goals as goal

pub consume_attribute-requires-clause-at : goal.consume_attribute-requires-clause-at
consume_attribute-requires-clause-at g c =
    let m = g.Sink.TokenSink in
    in-tag-still c.args.self.now (heeding m c.args.self.now).stream c.in-Some.ensures.at

pub skip-requires : goal.skip-requires
skip-requires g c =
    let m = g.Sink.TokenSink in
    skip-cut m (heeding m c.args.self.now) c.consume_attribute.new.self c.as_str-text.result.now _
    c.in_ok-rest.rest.now _ c.as_str-text.utf8 c.as_str-text.ensures refl
    (c.in_ok-rest.ensures.ok _ c.in-Some.ensures.name)

pub returns : goal.returns
returns g c =
    let m = g.Sink.TokenSink in
    let old = c.args.self.now in
    goes-on_by m old c.consume_attribute.new.self c.args.input.now c.skip.new.self c.args.answer.now c.requires.goes_on
    (moved-front m old.state old c.consume_attribute.new.self c.args.input.now c.skip.new.self c.as_str-text.result.now
    _ c.in_ok-rest.rest.now _
    (in-tag-ahead old c.in-Some.ensures.at c.in-Some.ensures.plain c.in-Some.ensures.unmarked) c.as_str-text.ensures refl
    (name-shorter _ _ _ _ c.in-Some.ensures.name c.in_ok-rest.ensures.no_longer)
    (c.in_ok-rest.ensures.ok _ c.in-Some.ensures.name) c.skip.ensures)

pub returns-in_err-rest : goal.returns-in_err-rest
returns-in_err-rest g c =
    let m = g.Sink.TokenSink in
    not-fronted m c.args.self.now c.consume_attribute.new.self c.args.input.now _ c.args.answer.now _
    c.consume_attribute.ensures.sink c.in_err-rest.ensures.fault c.requires.ready c.from_residual.ensures.1
