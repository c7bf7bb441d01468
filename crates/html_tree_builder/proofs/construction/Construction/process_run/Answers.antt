use Rattle.std.specs.Str.{chars}
use Rattle.html_tokens.specs.declared.token.Token.TheVariants.{CharacterTokens}
use Rattle.html_rules.specs.Table.{FramesetNotOkUnlessWhite}
use Rattle.html_tree_builder.proofs.Acted.{acted-stands, no_answers}
use Rattle.html_tree_builder.proofs.construction.Construction.process_run.Goals as goal

pub append_own_text-requires-in-Foreign : goal.append_own_text-requires-in-Foreign
append_own_text-requires-in-Foreign g c =
    let f = g.Sink.TreeSink.forest c.args.sink.now in
    record {
      stands = acted-stands no_answers c.args.self.now c.frameset_not_ok_unless_white.new.self f f
          FramesetNotOkUnlessWhite (CharacterTokens (chars c.as_str-in-Foreign.result.now)) tt c.requires.stands
          (c.frameset_not_ok_unless_white.ensures no_answers f);
    }
