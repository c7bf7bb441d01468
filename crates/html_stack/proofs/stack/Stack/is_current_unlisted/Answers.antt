use Rattle.std.proofs.Common.{◌≡◌, ◌∙◌, ap}
use Rattle.std.specs.Prelude.{◌&&◌, not}
use Rattle.html_rules.specs.Formatting.{is_listed}
use Rattle.html_rules.specs.State.{current_number}
use Rattle.html_stack.specs.Stacks.{Stacked, entries_of, opens_of}
use Rattle.html_stack.proofs.Agencies.{unlisted-by}
use Rattle.html_stack.proofs.stack.Stack.is_current_unlisted.Goals as goal

pub returns : goal.returns
returns g c =
    let node = g.Sink.TreeSink.node in
    let items = c.self.inside.active_formatting.items in
    let entries = entries_of node items in
    let number : node c.last-node.result ≡ current_number (opens_of node c.self.inside.open_elems.items) =
    rw c.as_slice.ensures.value at c.last-node.ensures node in
    let said = unlisted-by node (node c.last-node.result) items c.in_list.result c.is_none.result c.is_none.ensures
    (rw c.as_slice-2.ensures.value at c.in_list.ensures) in
    said
    ∙ ap (λ n. not (is_listed n entries)) number
    ∙ ap (λ (v : Stacked). not (is_listed (current_number v.open_elems) v.active_formatting)) c.self.view_is
    ∙ ap (λ b. b && not (is_listed (current_number c.args.self.now.open_elems) c.args.self.now.active_formatting))
    c.if-not-current_is.ensures
