use Rattle.std.proofs.lemmas.Result.{IfOk-weaker}
use Rattle.html_tokenizer.proofs.Fronts.Attributes.{attribute-taken}
use Rattle.html_tokenizer.proofs.Fronts.Whole.{value-no_longer, whole-taken}
use Rattle.html_tokenizer.proofs.tokenizer.Tokenizer.consume_attribute.Goals as goal

pub returns-in-Some-clause-ok : goal.returns-in-Some-clause-ok
returns-in-Some-clause-ok g c =
    let m = g.Sink.TokenSink in
    λ text is. whole-taken m c.args.self.now c.add_whole_attribute.new.self c.args.name.now _ c.args.after.now _ text
    c.requires.at c.requires.sound is c.in-Some.ensures.is c.in_ok-add_whole_attribute.ensures.ok

pub returns-in-Some-clause-no_longer : goal.returns-in-Some-clause-no_longer
returns-in-Some-clause-no_longer g c = value-no_longer _ _ _ c.in-Some.ensures.is

pub returns-clause-ok : goal.returns-clause-ok
returns-clause-ok g c =
    let m = g.Sink.TokenSink in
    IfOk-weaker c.consume_equals.result _ _ (λ rest front. λ text is. attribute-taken m c.args.self.now
    c.begin_attribute.new.self c.consume_equals.new.self c.args.name.now c.args.after.now _ text c.requires.at
    c.requires.sound is c.in_ok-begin_attribute.ensures.ok front) c.consume_equals.ensures.ok
