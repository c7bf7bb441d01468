use Rattle.std.proofs.Common.{◌∙◌, refl, sym}
use Rattle.std.proofs.lemmas.Bool.{ne_eqb}
use Rattle.html_tokens.specs.declared.tags.TagKind.TheVariants.{EndTag}
use Rattle.html_tokenizer.proofs.Tags.Opens.{end-letter, end-failed, end-nothing, end-bogus_kept}
use Rattle.html_tokenizer.proofs.tokenizer.Tokenizer.end_tag_open_state.Goals as goal

pub returns-then-is_ascii_alphabetic : goal.returns-then-is_ascii_alphabetic
returns-then-is_ascii_alphabetic g c =
    let m = g.Sink.TokenSink in
    end-letter m g.met.Sink.TokenSink.laws c.args.self.now _ c.args.c (record c.nameless.result { kind = EndTag }) _
    c.requires.at (sym c.is_ascii_alphabetic.ensures.value ∙ c.if-is_ascii_alphabetic.true)
    (rw c.nameless.ensures refl) c.tag_name_state.ensures

pub returns-in_err-report_error : goal.returns-in_err-report_error
returns-in_err-report_error g c =
    let m = g.Sink.TokenSink in
    end-failed m g.met.Sink.TokenSink.laws c.args.self.now _ c.args.c _ _ c.requires.at c.from_residual.ensures.1
    c.in_err-report_error.ensures

pub returns-then-c-eq62 : goal.returns-then-c-eq62
returns-then-c-eq62 g c =
    let m = g.Sink.TokenSink in
    rw c.if-c-eq62.true (end-nothing m g.met.Sink.TokenSink.laws c.args.self.now c.report_error.new.self
    c.requires.at c.requires.sound c.in_ok-report_error.ensures)

pub returns : goal.returns
returns g c =
    let m = g.Sink.TokenSink in
    end-bogus_kept m g.met.Sink.TokenSink.laws _ c.args.self.now _ c.args.c c.clear.new.self _ c.requires.at
    (sym c.is_ascii_alphabetic.ensures.value ∙ c.if-is_ascii_alphabetic.false)
    (ne_eqb c.args.c 62 c.if-c-eq62.false) c.clear.ensures c.bogus_comment_state.ensures
