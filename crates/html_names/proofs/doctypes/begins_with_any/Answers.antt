use Rattle.std.proofs.Common.{List, ℕ}
use denote.Bor.{Bor}
use Rattle.markup.specs.Plain.{is_plain}
use Rattle.html_names.proofs.AnyCase.{all-at}
use Rattle.html_names.proofs.doctypes.begins_with_any.Goals as goal

pub begins-requires : goal.begins-requires
begins-requires c = all-at (λ (prefix : Bor (List ℕ)). is_plain prefix.now) c.args.prefixes.now _
    c.loop-prefix.prefix-index c.requires c.loop-prefix-test.true
