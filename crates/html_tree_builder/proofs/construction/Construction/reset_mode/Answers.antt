use Rattle.std.proofs.Common.{◌≡◌, ◌∙◌, ap, sym}
use Rattle.std.specs.Prelude.{is_some}
use Rattle.html_tree_builder.specs.States.{Building, state_of}
use Rattle.html_tree_builder.proofs.Fields.{is_some-number_if, reset-by}
use Rattle.html_tree_builder.proofs.construction.Construction.reset_mode.Goals as goal

pub returns : goal.returns
returns g c = λ a f.
    let b : Building = c.args.self.now in
    let is = c.self.view_is in
    let asked = c.reset_insertion_mode-mode.ensures (state_of a b f)
    (ap (λ b. b.stack.open_elems) (sym is)) (ap (λ b. b.stack.template_modes) (sym is))
    (ap (λ b. is_some b.head_elem) (sym is) ∙ is_some-number_if g.Sink.TreeSink.node c.self.inside.head_elem
    ∙ sym c.is_some-has_head.ensures)
    c.context_name.ensures in
    let after : Building = record b { mode = c.reset_insertion_mode-mode.result } in
    let same : _ ≡ after = ap (λ (b : Building). record b { mode = c.reset_insertion_mode-mode.result }) is in
    reset-by a b _ f (same ∙ ap (λ m. record b { mode = m }) asked)
