use Rattle.std.proofs.Common.{◌≡◌, ◌∙◌, ℕ, drop, ap}
use denote.Bor.{Bor}
use Rattle.html_tokens.specs.declared.tags.Tag.{Tag}
use Rattle.html_rules.specs.Rules.{first_fit, rows}
use Rattle.html_rules.specs.State.{State}
use Rattle.html_rules.specs.Tokens.{name_of}
use Rattle.html_rules.specs.declared.insertion_mode.InsertionMode.{InsertionMode}
use Rattle.html_modes.specs.FirstRows.{rows_before, sets_of}
use Rattle.html_modes.proofs.FirstRows.{before-passed, sets-known}
use Rattle.html_faithful_judge.specs.Rows.{rows_in}
use Rattle.html_faithful_judge.specs.Tokens.{IsNamed, token_of}
use Rattle.html_faithful_judge.specs.declared.rows.Table.{Table}
use Rattle.html_faithful_judge.specs.declared.rows.Table.TheVariants.{Mode}
use Rattle.html_faithful_judge.specs.declared.tokens.Content.TheVariants.{Tag as TagContent}
use Rattle.html_faithful_judge.specs.declared.tokens.NamedToken.{NamedToken}
use Rattle.html_faithful_judge.proofs.tokens.NamedToken.rows_passed.Goals as goal

tag-passed : (token : NamedToken) (tag : Bor Tag) (passed : ℕ) (table : Table) (mode : InsertionMode) (s : State) → IsNamed token
    → token.content ≡ TagContent tag → table ≡ Mode mode → passed ≡ rows_before tag.now.kind (sets_of token.class.known) (rows mode)
    → first_fit (drop passed (rows_in table)) (token_of token.content) s ≡ first_fit (rows_in table) (token_of token.content) s
tag-passed token tag passed table mode s is e m p =
    let same = is.name ∙ ap (λ content. name_of (token_of content)) e in
    rw (e, m, p) (before-passed (rows mode) tag.now (sets_of token.class.known) s
    (rw same at (sets-known token.class.known token.name.now is.class.known)))

pub returns-in-Tag : goal.returns-in-Tag
returns-in-Tag c s =
    tag-passed c.args.self.now c.in-Tag.tag c.rows_before.result c.args.table c.in-Mode.mode s c.requires c.in-Tag.is c.in-Mode.is
    c.rows_before.ensures
