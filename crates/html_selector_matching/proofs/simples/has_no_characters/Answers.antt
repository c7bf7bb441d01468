use Rattle.std.proofs.Common.{◌∙◌}
use Rattle.std.proofs.lemmas.Str.{encodes-chars}
use Rattle.markup.proofs.Texts.{same_emptiness}
use Rattle.html_selector_matching.proofs.simples.has_no_characters.Goals as goal

pub returns : goal.returns
returns c = c.is_empty.ensures ∙ same_emptiness _ _ (encodes-chars _ c.utf8.text)
