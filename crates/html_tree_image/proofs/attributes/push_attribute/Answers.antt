use Rattle.std.proofs.Common.{◌≡◌, ◌∙◌, ℕ, List, ◌++◌, ap, arith, encode_utf8_all, length}
use Rattle.html_tree_image.specs.Image.{words}
use Rattle.html_tree_image.proofs.Records.{six-are}
use Rattle.html_tree_image.proofs.attributes.push_attribute.Goals as goal

pub returns-clause-record : goal.returns-clause-record
returns-clause-record c =
    let at : c.len-at.result ≡ length c.args.texts.now.items = c.len-at.ensures ∙ omega arith in
    let value : c.len-value_at.result ≡ length c.push_name.new.texts.items = c.len-value_at.ensures ∙ omega arith in
    c.in_ok-push_words.ensures ∙ ap (λ (ns : List ℕ). c.args.records.now.items ++ words ns)
    (six-are at c.in_ok-prefix.ensures.length (value ∙ c.in_ok-prefix.ensures.grown)
    (c.in_ok-value.ensures.length ∙ ap (λ (cs : List ℕ). length (encode_utf8_all cs)) c.as_str.ensures)
    c.number_of-namespace.ensures c.in_ok-prefix.ensures.prefix)
