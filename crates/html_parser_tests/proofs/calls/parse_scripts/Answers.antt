use Rattle.html_parser_tests.proofs.Ready.{ready-begun, ready-stopped}
use Rattle.html_parser_tests.proofs.calls.parse_scripts.Goals as goal

pub feed_scripts-requires : goal.feed_scripts-requires
feed_scripts-requires g c = ready-begun g.Sink.TreeSink _ _ c.in_ok-parser.parser.tokenizer
    c.in_ok-parser.ensures.begins.starts.begun c.in_ok-parser.ensures.begins.starts.ready

pub finish-requires : goal.finish-requires
finish-requires g c = record {
  ready = ready-stopped g.Sink.TreeSink c.feed_scripts.new.parser.has_failed _
      c.feed_scripts.new.parser.tokenizer c.feed_scripts.ensures;
}
