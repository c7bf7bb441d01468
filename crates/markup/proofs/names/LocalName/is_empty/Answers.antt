use Rattle.std.proofs.Common.{◌∙◌}
use Rattle.std.proofs.lemmas.Str.{encodes-chars}
use Rattle.markup.proofs.Texts.{same_emptiness}
use Rattle.markup.proofs.names.LocalName.is_empty.Goals as goal

pub returns : goal.returns
returns c =
    c.is_empty.ensures ∙ rw (← c.as_str.ensures) (same_emptiness _ _ (encodes-chars _ c.as_str.utf8))
