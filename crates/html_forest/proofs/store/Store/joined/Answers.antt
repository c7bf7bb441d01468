use Rattle.std.proofs.Common.{◌≡◌, ◌+◌, ◌++◌, ap, arith, length, subst}
use Rattle.std.specs.String.{string_bytes}
use Rattle.markup.specs.Forest.NodeData.{Text as TextNode}
use Rattle.html_forest.specs.Entries.{IsMade, text_in}
use Rattle.html_forest.specs.declared.entry.Entry.TheVariants.{Text}
use Rattle.html_forest.proofs.Stored.{IsMade-joined, same_bytes}
use Rattle.html_forest.proofs.store.Store.joined.Goals as goal

pub returns-then-more_len-len-clause-made : goal.returns-then-more_len-len-clause-made
returns-then-more_len-len-clause-made c =
    let more = c.as_str-then-more_len-len in
    let same : length more.result.now ≡ length c.as_str-more_len.result.now =
    ap length (same_bytes _ _ c.args.more.now more.utf8 c.as_str-more_len.utf8 more.ensures c.as_str-more_len.ensures) in
    let whole : length c.as_str.result.now ≡ length (string_bytes c.args.self.now.texts) = ap length c.as_str.ensures.value in
    let made = IsMade-joined c.args.self.now (record c.args.self.now { texts = c.push_str.new.self }) c.args.at
    c.args.len more.result.now c.args.more.now c.requires (omega (arith, whole)) c.in_ok-push_str.ensures.bytes
    more.utf8 more.ensures in
    subst (λ n. IsMade (record c.args.self.now { texts = c.push_str.new.self }) (Text (c.args.len + n) c.args.at)
    (TextNode (text_in c.args.self.now c.args.at c.args.len ++ c.args.more.now))) same made
