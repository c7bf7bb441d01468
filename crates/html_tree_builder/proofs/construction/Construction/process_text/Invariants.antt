use Rattle.std.proofs.Common.{◌≡◌, false, length}
use denote.Text.{Utf8}
use denote.Shadow.{shadow}
use Rattle.std.specs.Str.{chars}
use Rattle.html_rules.specs.Step.{text_taken, untouched}
use Rattle.html_rules_laws.specs.Usable.{Usable}
use Rattle.html_tree_builder.specs.States.{built}
use Rattle.html_tree_builder.proofs.construction.Construction.process_text.Given as goal

abbrev pub invariant-loop-character : goal.invariant-loop-character
invariant-loop-character g l = record {
  text : shadow (Utf8 l.rest);
  usable : Usable (built g.Sink.TreeSink l.self (g.Sink.TreeSink.forest l.sink));
  going : l.self.has_ended ≡ false;
  same : (text_taken (chars l.rest)
      (untouched (built g.Sink.TreeSink l.self (g.Sink.TreeSink.forest l.sink)))).state ≡
      (text_taken (chars l.fn.text) (untouched (built g.Sink.TreeSink l.fn.self (g.Sink.TreeSink.forest l.fn.sink)))).state;
}

abbrev pub decreases-loop-character : goal.decreases-loop-character
decreases-loop-character g l = length l.rest
