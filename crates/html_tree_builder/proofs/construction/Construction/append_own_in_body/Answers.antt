use Rattle.std.specs.Str.{chars}
use Rattle.html_tokens.specs.declared.token.Token.TheVariants.{CharacterTokens, EOFToken}
use Rattle.html_rules.specs.Table.{FramesetNotOkUnlessWhite, Reconstruct}
use Rattle.html_tree_builder.proofs.Acted.{acted-stands, no_answers}
use Rattle.html_tree_builder.proofs.construction.Construction.append_own_in_body.Goals as goal

pub append_own_text-requires : goal.append_own_text-requires
append_own_text-requires g c =
    let f = g.Sink.TreeSink.forest c.reconstruct.new.sink in
    let opened = acted-stands no_answers c.args.self.now c.reconstruct.new.self
    (g.Sink.TreeSink.forest c.args.sink.now) f Reconstruct EOFToken tt c.requires.stands (c.in_ok-reconstruct.ensures.ok no_answers) in
    record {
      stands = acted-stands no_answers c.reconstruct.new.self c.frameset_not_ok_unless_white.new.self f f
          FramesetNotOkUnlessWhite (CharacterTokens (chars c.as_str.result.now)) tt opened
          (c.frameset_not_ok_unless_white.ensures no_answers f);
    }
