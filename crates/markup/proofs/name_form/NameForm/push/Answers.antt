use Rattle.std.proofs.Common.{◌≡◌, ◌∙◌, ℕ, List, [], ◌∷◌, ◌++◌, ap}
use Rattle.std.specs.Prelude.{Result, Ok, Err, OnOk, is_ok, if◌then◌else◌}
use Rattle.std.specs.Char.{IsScalar}
use Rattle.std.specs.Str.{IsUtf8, chars}
use Rattle.std.specs.declared.alloc.AllocError.{AllocError}
use Rattle.markup.proofs.Texts.{chars-push}
use Rattle.markup.proofs.name_form.NameForm.push.Goals as goal
use lib.Utf8.{encode}

pushed : (answer : Result (Unit {0}) AllocError) (old new name : List ℕ) (c : ℕ)
    → new ≡ (if is_ok answer then old ++ encode c else old) → IsUtf8 old → IsScalar c → chars old ≡ name
    → OnOk answer (chars new ≡ name ++ c ∷ [])
pushed (Ok _) old new name c bytes utf8 scalar there = ap chars bytes ∙ chars-push old c utf8 scalar ∙ ap (λ cs. cs ++ c ∷ []) there
pushed (Err _) old new name c bytes utf8 scalar there = tt

pub returns-clause-ok : goal.returns-clause-ok
returns-clause-ok c =
    rw c.of.ensures.characters (pushed c.push-pushed.result _ _ _ c.args.character c.push-pushed.ensures.bytes
    c.push-pushed.ensures.utf8 c.ranges.character.0 c.in_ok-text.ensures.ok)
