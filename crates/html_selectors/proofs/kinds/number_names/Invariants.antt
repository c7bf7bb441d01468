use Rattle.std.specs.BTreeMap.{get}
use Rattle.html_selectors.specs.Kinds.{AreNotes, key_cmp}
use Rattle.html_selectors.proofs.Numbering.{AreTold}
use Rattle.html_selectors.proofs.kinds.number_names.Given as goal

abbrev pub invariant-loop-number : goal.invariant-loop-number
invariant-loop-number l = record {
  told : AreTold l.index.forest.now l.number l.kinds.items (get key_cmp l.table);
  notes : AreNotes l.notes.items (get key_cmp l.table);
}
