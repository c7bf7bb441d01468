-- A ready policy that was written.
use Rattle.std.proofs.Common.{◌≡◌, ◌∙◌, ℕ, Bool, List, Result, ap, subst, sym}
use Rattle.std.specs.Prelude.{IsUtf8, encode_utf8_all, is_err}
use Rattle.std.specs.Str.{chars}
use Rattle.std.proofs.lemmas.Str.{encodes-chars}
use Rattle.html_normal_program.specs.Streams.{IsPut}
use Rattle.html_clean_program.specs.Printing.{ready_bytes}
use Rattle.html_clean_program.specs.Program.{Stream}
use Rattle.html_policy_text.specs.ReadyRules.{rules_of_ready}
use Rattle.html_policy_text.specs.Written.{policy_text}
use Rattle.html_policy_text.specs.declared.ready.Ready.{Ready}

-- the bytes of a text that is a ready policy's
pub bytes-are : (ready : Ready) (bytes text : List ℕ) → IsUtf8 bytes → chars bytes ≡ text → text ≡ policy_text (rules_of_ready ready)
    → bytes ≡ ready_bytes ready
bytes-are ready bytes text utf8 spelled is = sym (encodes-chars bytes utf8) ∙ ap encode_utf8_all (spelled ∙ is)

-- such bytes were written, all of them or a beginning
pub put-so : {T E : Type 0} (r : Result T E) (failed : Bool) (bytes written : List ℕ) (old new : Stream) → is_err r ≡ failed
    → bytes ≡ written → IsPut bytes old new (is_err r) → IsPut written old new failed
put-so r failed bytes written old new e same put =
    subst (λ (b : Bool). IsPut written old new b) e (subst (λ (bs : List ℕ). IsPut bs old new (is_err r)) same put)
