-- Plain documents are faithful.
use Rattle.std.specs.Prelude.{◌≡◌, Bool, true}
use Rattle.markup.specs.Trees.{Trees}
use Rattle.html_plain.specs.Grammar.{is_plain_document}
use Rattle.html_rules.specs.declared.rules.Rules.{Rules}
use Rattle.html_faithful.specs.Walk.{is_faithful_by}

-- by html5ever's rules and the Standard's, whether scripts run or not
abbrev pub ArePlainDocumentsFaithful : Type 0
ArePlainDocumentsFaithful = (rules : Rules) (scripting : Bool) (trees : Trees) → is_plain_document trees ≡ true
    → is_faithful_by rules scripting trees ≡ true
