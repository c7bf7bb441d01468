use Rattle.std.proofs.Common.{◌≡◌, ◌++◌}
use Rattle.std.specs.Prelude.{encode_utf8}
use Rattle.html_tree_builder.proofs.FirstCharacters.{split-cut, split-first}
use Rattle.html_tree_builder.proofs.texts.split_first.Goals as goal

pub split_at-requires : goal.split_at-requires
split_at-requires c =
    let split : c.args.text.now ≡ encode_utf8 c.in_ok-first.first ++ c.next.new.self.rest.now =
    rw c.chars.ensures.rest at c.in_ok-first.ensures.steps.0 in
    split-cut c.args.text.now c.next.new.self.rest.now c.in_ok-first.first c.len_utf8.result c.utf8.text split c.len_utf8.ensures.value

pub returns : goal.returns
returns c =
    let split : c.args.text.now ≡ encode_utf8 c.in_ok-first.first ++ c.next.new.self.rest.now =
    rw c.chars.ensures.rest at c.in_ok-first.ensures.steps.0 in
    split-first c.args.text.now _ _ c.next.new.self.rest.now c.in_ok-first.first c.len_utf8.result c.utf8.text split
    c.len_utf8.ensures.value c.split_at.ensures.front c.split_at.ensures.back
