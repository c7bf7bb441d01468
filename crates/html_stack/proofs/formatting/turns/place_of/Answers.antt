use Rattle.html_stack.proofs.Reached.{named-at}
use Rattle.html_stack.proofs.formatting.turns.place_of.Goals as goal
use Rattle.html_stack.proofs.formatting.turns.place_of.Goals.{in-Marker, in-Element}

pub on_stack-requires-clause-name : goal.on_stack-requires-clause-name
on_stack-requires-clause-name g c = elim c.match-entries-formatting.branch [
  | in-Marker w ↦ rw w.name-is tt
  | in-Element w ↦ rw w.name-is (named-at g.Sink.TreeSink.node (g.Sink.TreeSink.forest c.args.sink.now) c.args.entries.now
      c.args.formatting.place c.args.formatting.node w.in-Element.field-0 c.requires.listed.0 w.in-Element.tag
      c.index-entries-formatting.result c.requires.standing.listed c.requires.listed.1.within c.requires.listed.1.entry
      c.index-entries-formatting.is w.in-Element.is)
]
