use Rattle.html_tokenizer.proofs.EndOfInput.Markup.{doctype_start-closes, doctype_name-closes, identifier-closes, junk-closes}
use Rattle.html_tokenizer.proofs.EndOfInput.Markup.{doctype-closes}
use Rattle.html_tokenizer.proofs.tokenizer.Tokenizer.end_doctype_part.Goals as goal

pub returns-in-Doctype : goal.returns-in-Doctype
returns-in-Doctype g c =
    let m = g.Sink.TokenSink in
    doctype_start-closes m g.met.Sink.TokenSink.laws c.args.self.now _ _ c.requires.sound c.requires.fresh
    c.in-Doctype.is c.end_doctype_start.ensures

pub returns-in-DoctypeName : goal.returns-in-DoctypeName
returns-in-DoctypeName g c =
    let m = g.Sink.TokenSink in
    doctype_name-closes m g.met.Sink.TokenSink.laws c.args.self.now _ _ c.requires.sound c.requires.fresh
    c.in-DoctypeName.is c.end_doctype_name.ensures

pub returns-in-DoctypeIdentifierDoubleQuoted : goal.returns-in-DoctypeIdentifierDoubleQuoted
returns-in-DoctypeIdentifierDoubleQuoted g c =
    let m = g.Sink.TokenSink in
    identifier-closes m g.met.Sink.TokenSink.laws c.args.self.now _ _ c.requires.sound
    c.in-DoctypeIdentifierDoubleQuoted.kind c.requires.fresh c.in-DoctypeIdentifierDoubleQuoted.is c.end_doctype_identifier.ensures

pub returns-in-BogusDoctype : goal.returns-in-BogusDoctype
returns-in-BogusDoctype g c =
    let m = g.Sink.TokenSink in
    junk-closes m g.met.Sink.TokenSink.laws c.args.self.now _ _ c.requires.sound c.requires.fresh
    c.in-BogusDoctype.is c.emit_doctype.ensures

pub returns-in_default : goal.returns-in_default
returns-in_default g c =
    let m = g.Sink.TokenSink in
    doctype-closes m g.met.Sink.TokenSink.laws c.args.self.now _ _ c.requires.sound c.requires.fresh c.requires.at
    c.in_default.not-Doctype c.in_default.not-BeforeDoctypeName c.in_default.not-DoctypeName
    c.in_default.not-AfterDoctypeName c.in_default.not-DoctypeIdentifierDoubleQuoted
    c.in_default.not-DoctypeIdentifierSingleQuoted c.in_default.not-BogusDoctype c.end_doctype.ensures
