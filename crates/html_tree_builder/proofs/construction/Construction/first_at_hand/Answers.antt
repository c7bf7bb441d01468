use Rattle.std.proofs.Common.{refl, sym}
use Rattle.html_modes.specs.Tables.{row_of}
use Rattle.html_tree_builder.specs.States.{state_of}
use Rattle.html_tree_builder.proofs.RowsAtHand.{first-here}
use Rattle.html_tree_builder.proofs.construction.Construction.first_at_hand.Goals as goal

pub returns-then-holds_at_once : goal.returns-then-holds_at_once
returns-then-holds_at_once g c a f =
    first-here c.args.mode c.args.tag.now c.args.class.now.known c.rows_before.result (row_of c.in_ok-row.row.now)
    (state_of a c.args.self.now f) c.requires.known c.rows_before.ensures (sym c.in_ok-row.ensures)
    (sym c.if-has_tag.ensures) (c.if-holds_at_once.ensures refl a f)
