use Rattle.std.proofs.Common.{◌<◌, length, ap, sym}
use Rattle.html_stack.proofs.Turned.{first-is, handle_of, positive}
use Rattle.html_stack.proofs.formatting.adopting.first_of.Goals as goal

pub returns-else-is_empty : goal.returns-else-is_empty
returns-else-is_empty g c =
    let some : 0 < length c.args.copies.now = positive (length c.args.copies.now) (sym c.if-is_empty.ensures) in
    let first = first-is c.args.copies.now c.index-copies-0.result some in
    (first.0, first.1, first.2, ap handle_of first.3)
