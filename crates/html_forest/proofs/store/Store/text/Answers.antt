use Rattle.std.proofs.Common.{◌≡◌, ◌∙◌, ℕ, List, ap, length, subst, sym}
use Rattle.std.specs.String.{string_bytes}
use Rattle.markup.specs.Forest.NodeData.{Text as Node}
use Rattle.html_forest.specs.Entries.{IsRange, text_in}
use Rattle.html_forest.proofs.Stored.{same_bytes}
use Rattle.html_forest.proofs.store.Store.text.Goals as goal

pub returns-clause-made : goal.returns-clause-made
returns-clause-made c =
    let same : length c.as_str.result.now ≡ length c.as_str-len.result.now =
    ap length (same_bytes _ _ c.args.text c.as_str.utf8 c.as_str-len.utf8 c.as_str.ensures c.as_str-len.ensures) in
    record {
      stored = subst (λ n. IsRange (string_bytes c.put_characters.new.self.texts) c.in_ok-at.at n) same c.in_ok-at.ensures.range;
      shown = ap (λ (cs : List ℕ). Node cs) (ap (text_in c.put_characters.new.self c.in_ok-at.at) (sym same)
          ∙ (c.in_ok-at.ensures.ok ∙ c.as_str.ensures));
    }
