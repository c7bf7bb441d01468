-- The selectors that some pseudo-classes stand for (HTML Standard, section 4.16.3), as tokens of the texts that `src/meanings.rt` has.
use Rattle.std.specs.Prelude.{ℕ, List}
use Rattle.std.specs.Str.{chars}
use Rattle.html_selector_text.specs.declared.meanings.TheConstants.{LINK, CHECKED, DISABLED, ENABLED, REQUIRED, OPTIONAL}
use Rattle.html_selector_text.specs.declared.simples.Meaning.{Meaning}
use Rattle.html_selector_text.specs.declared.simples.Meaning.TheVariants.{Link, Checked, Disabled, Enabled, Required, Optional}
use Rattle.html_selector_text.specs.declared.tokens.Token.{Token}
use Rattle.html_selector_text.specs.Scanning.{tokens}

unfoldable pub meaning_text : Meaning → List ℕ
meaning_text Link = LINK.now
meaning_text Checked = CHECKED.now
meaning_text Disabled = DISABLED.now
meaning_text Enabled = ENABLED.now
meaning_text Required = REQUIRED.now
meaning_text Optional = OPTIONAL.now

unfoldable pub meaning_tokens : Meaning → List Token
meaning_tokens meaning = tokens (chars (meaning_text meaning))
