use Rattle.std.proofs.Common.{◌≡◌, ◌++◌}
use Rattle.std.specs.Prelude.{encode_utf8}
use Rattle.html_names.proofs.FirstBytes.{past-first}
use Rattle.html_names.proofs.encodings.without_first.Goals as goal

pub range_from-requires : goal.range_from-requires
range_from-requires c =
    let split : c.args.text.now ≡ encode_utf8 c.in_ok-first.first ++ c.next.new.self.rest.now =
    rw c.chars.ensures.rest at c.in_ok-first.ensures.steps.0 in
    λ _. (past-first c.args.text.now c.next.new.self.rest.now c.in_ok-first.first c.len_utf8.result c.utf8.text
    split c.len_utf8.ensures.value).0

pub returns : goal.returns
returns c =
    let split : c.args.text.now ≡ encode_utf8 c.in_ok-first.first ++ c.next.new.self.rest.now =
    rw c.chars.ensures.rest at c.in_ok-first.ensures.steps.0 in
    let past = past-first c.args.text.now c.next.new.self.rest.now c.in_ok-first.first c.len_utf8.result c.utf8.text
    split c.len_utf8.ensures.value in
    rw (c.range_from.ensures.value, past.1) past.2
