use Rattle.std.proofs.Common.{◌∙◌, sym}
use Rattle.html_tokenizer.proofs.Declarations.DoctypeKeywords.{identifier-more, keyword-push, keyword-other}
use Rattle.html_tokenizer.proofs.tokenizer.Tokenizer.go_on_identifying.Goals as goal

pub push-requires : goal.push-requires
push-requires g c = identifier-more c.args.self.now.keyword c.args.c (sym c.may_identify.ensures ∙ c.if-may_identify.true)

pub returns-then-may_identify : goal.returns-then-may_identify
returns-then-may_identify g c =
    let m = g.Sink.TokenSink in
    keyword-push m g.met.Sink.TokenSink.laws c.args.self.now c.args.c c.requires.at c.requires.sound c.push.new.self
    (sym c.may_identify.ensures ∙ c.if-may_identify.true) c.in_ok-push.ensures.ok

pub returns : goal.returns
returns g c =
    let m = g.Sink.TokenSink in
    keyword-other m g.met.Sink.TokenSink.laws _ c.args.self.now _ c.args.c _ c.requires.at c.requires.part
    c.requires.open (sym c.may_identify.ensures ∙ c.if-may_identify.false) c.requires.begun c.bogus_doctype_state.ensures
