use Rattle.std.proofs.Common.{◌≡◌, ◌++◌, List, codes, subst, sym, ℕ}
use Rattle.std.specs.Prelude.{OnOk}
use Rattle.std.specs.String.{string_bytes}
use Rattle.std.proofs.lemmas.Str.{encodes-chars}
use Rattle.html_listings.proofs.selected.push_value.Goals as goal

pub returns : goal.returns
returns c =
    subst (λ (value : List ℕ). OnOk c.push_after.result (string_bytes c.push_after.new.line
    ≡ string_bytes c.args.line.now ++ (c.args.prefix.now ++ (value ++ codes "\n"))))
    (sym (encodes-chars c.args.value.now c.utf8.value)) c.push_after.ensures
