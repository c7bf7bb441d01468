use Rattle.std.proofs.Common.{◌∙◌, sym}
use Rattle.html_tokenizer.proofs.Declarations.Openings.{part-more, declaration-push, nothing-begun}
use Rattle.html_tokenizer.proofs.tokenizer.Tokenizer.go_on_declaring.Goals as goal

pub push-requires : goal.push-requires
push-requires g c = part-more c.args.self.now.keyword c.args.c (sym c.may_declare.ensures ∙ c.if-may_declare.true)

pub returns-then-may_declare : goal.returns-then-may_declare
returns-then-may_declare g c =
    let m = g.Sink.TokenSink in
    declaration-push m g.met.Sink.TokenSink.laws c.args.self.now c.args.c c.requires.at c.requires.sound
    c.push.new.self (sym c.may_declare.ensures ∙ c.if-may_declare.true) c.in_ok-push.ensures.ok

pub declare_nothing-requires-clause-nothing : goal.declare_nothing-requires-clause-nothing
declare_nothing-requires-clause-nothing g c = nothing-begun _ c.args.self.now.keyword c.args.c c.requires.part
    c.requires.open (sym c.may_declare.ensures ∙ c.if-may_declare.false)
