use Rattle.std.proofs.Common.{◌∙◌, sym}
use Rattle.std.proofs.lemmas.Bool.{ne_eqb}
use Rattle.html_tokenizer.proofs.Tags.Opens.{open-slash, open-mark, open-letter, open-bogus, is-text, open-text_kept, open-text_failed}
use Rattle.html_tokenizer.proofs.tokenizer.Tokenizer.tag_open_state.Goals as goal

pub returns-then-c-eq47 : goal.returns-then-c-eq47
returns-then-c-eq47 g c =
    let m = g.Sink.TokenSink in
    rw c.if-c-eq47.true (open-slash m g.met.Sink.TokenSink.laws c.args.self.now c.requires.at c.requires.sound)

pub returns-then-c-eq33 : goal.returns-then-c-eq33
returns-then-c-eq33 g c =
    let m = g.Sink.TokenSink in
    rw c.if-c-eq33.true (open-mark m g.met.Sink.TokenSink.laws c.args.self.now c.new.result c.requires.at c.requires.sound c.new.ensures)

pub returns-then-is_ascii_alphabetic : goal.returns-then-is_ascii_alphabetic
returns-then-is_ascii_alphabetic g c =
    let m = g.Sink.TokenSink in
    open-letter m g.met.Sink.TokenSink.laws c.args.self.now _ c.args.c c.nameless.result _ c.requires.at
    (sym c.is_ascii_alphabetic.ensures.value ∙ c.if-is_ascii_alphabetic.true) c.nameless.ensures c.tag_name_state.ensures

pub returns-then-c-eq63 : goal.returns-then-c-eq63
returns-then-c-eq63 g c =
    let m = g.Sink.TokenSink in
    open-bogus m g.met.Sink.TokenSink.laws _ c.args.self.now _ c.args.c c.clear.new.self _ c.requires.at
    c.if-c-eq63.true c.clear.ensures c.bogus_comment_state.ensures

pub returns-in_err-emit_unopened : goal.returns-in_err-emit_unopened
returns-in_err-emit_unopened g c =
    let m = g.Sink.TokenSink in
    open-text_failed m g.met.Sink.TokenSink.laws c.args.self.now _ c.args.c _ _ c.requires.at c.requires.sound
    (is-text m g.met.Sink.TokenSink.laws c.args.c (sym c.is_ascii_alphabetic.ensures.value
    ∙ c.if-is_ascii_alphabetic.false) (ne_eqb c.args.c 47 c.if-c-eq47.false)
    (ne_eqb c.args.c 33 c.if-c-eq33.false) (ne_eqb c.args.c 63 c.if-c-eq63.false)) c.from_residual.ensures.1
    c.in_err-emit_unopened.ensures

pub returns : goal.returns
returns g c =
    let m = g.Sink.TokenSink in
    open-text_kept m g.met.Sink.TokenSink.laws c.args.self.now c.emit_unopened.new.self _ c.args.c _ c.requires.at
    c.requires.sound (is-text m g.met.Sink.TokenSink.laws c.args.c (sym c.is_ascii_alphabetic.ensures.value
    ∙ c.if-is_ascii_alphabetic.false) (ne_eqb c.args.c 47 c.if-c-eq47.false)
    (ne_eqb c.args.c 33 c.if-c-eq33.false) (ne_eqb c.args.c 63 c.if-c-eq63.false)) c.in_ok-emit_unopened.ensures c.data_state.ensures
