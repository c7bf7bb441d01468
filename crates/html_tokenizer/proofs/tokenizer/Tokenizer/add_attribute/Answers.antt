use Rattle.std.proofs.Common.{◌≡◌, ◌∙◌, false, sym, refl, rules}
use Rattle.html_tokens.specs.Tags.{has_attribute}
use Rattle.html_tokenizer.proofs.Attributes.Finished.{plain, added}
use Rattle.html_tokenizer.proofs.tokenizer.Tokenizer.add_attribute.Goals as goal

pub returns-clause-ok : goal.returns-clause-ok
returns-clause-ok g c =
    let old = c.args.self.now in
    let missing : has_attribute old.tag c.args.name ≡ false = sym c.has_local_name.ensures ∙ c.if-has_local_name.false in
    added old c.push.result c.push.new.self _ c.args.name c.args.value missing c.push.ensures.ok
    (plain c.new-name.result c.none.result c.args.name c.args.value c.args.name c.args.value c.new-name.ensures
    c.none.ensures refl refl)

pub returns-then-has_local_name-clause-ok : goal.returns-then-has_local_name-clause-ok
returns-then-has_local_name-clause-ok g c = search rules
