use Rattle.std.proofs.Common.{refl, sym}
use Rattle.html_tree_builder.proofs.runs.run_at.Goals as goal

pub returns-then-takes_text : goal.returns-then-takes_text
returns-then-takes_text g c node = rw (sym (c.if-takes_text.ensures node)) c.run_in.ensures

pub returns-then-is_in : goal.returns-then-is_in
returns-then-is_in g c node = rw (sym (c.if-takes_text.ensures node), sym c.if-is_in.ensures) refl

pub returns-else-is_in : goal.returns-else-is_in
returns-else-is_in g c node = rw (sym (c.if-takes_text.ensures node), sym c.if-is_in.ensures) refl
