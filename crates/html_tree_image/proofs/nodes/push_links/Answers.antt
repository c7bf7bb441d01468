use Rattle.std.proofs.Common.{◌∙◌, ℕ, List, ◌++◌, ap}
use Rattle.html_tree_image.specs.Image.{link, words}
use Rattle.html_tree_image.proofs.Records.{six-are}
use Rattle.html_tree_image.proofs.nodes.push_links.Goals as goal

pub returns : goal.returns
returns c = c.in_ok-push_words.ensures ∙ ap (λ (ns : List ℕ). c.args.nodes.now.items ++ words ns)
    (six-are c.kind.ensures (c.link.ensures ∙ ap link c.parent.ensures) (c.link-2.ensures ∙ ap link c.first_child.ensures)
    (c.link-3.ensures ∙ ap link c.last_child.ensures) (c.link-4.ensures ∙ ap link c.previous_sibling.ensures)
    (c.link-5.ensures ∙ ap link c.next_sibling.ensures))
