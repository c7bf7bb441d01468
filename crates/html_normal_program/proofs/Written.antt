-- Texts written one after another to a stream.
use Rattle.std.proofs.Common.{◌≡◌, ◌∙◌, ℕ, ◌+◌, ◌≤◌, true, false, Bool, List, ◌++◌, Option, Result, Ok, Err, ap, arith, length, refl, sym}
use Rattle.std.proofs.Common.{take}
use Rattle.std.proofs.Math.Seq.{take-append-add}
use Rattle.std.proofs.lemmas.List.{length-append, take-append-le}
use Rattle.std.specs.Io.KnownBytes.{append_known}
use Rattle.std.specs.Prelude.{IsErrAnd, OnErr, OnOk, is_err}
use Rattle.devices.proofs.DeviceLemmas.{append_known-append}
use Rattle.html_normal_program.specs.Streams.{IsPut}

-- what a write of all of a text says
pub put-of : {T E : Type 0} (r : Result T E) (text : List ℕ) (old new : Option (List ℕ)) → OnOk r (new ≡ append_known old text)
    → OnErr r ((n : ℕ) × (n ≤ length text) × (new ≡ append_known old (take n text))) → IsPut text old new (is_err r)
put-of (Ok x) text old new h k = h
put-of (Err e) text old new h k = k

-- a text after another one
pub put-then : (a b : List ℕ) (old mid new : Option (List ℕ)) (failed : Bool) → IsPut a old mid false → IsPut b mid new failed
    → IsPut (a ++ b) old new failed
put-then a b old mid new false h k = k ∙ ap (λ known. append_known known b) h ∙ append_known-append old a b
put-then a b old mid new true h k =
    let n = k.0 in
    let bound : n ≤ length b = k.1 in (
      length a + n,
      rw (length-append a b) (omega (arith, bound)),
      k.2 ∙ ap (λ known. append_known known (take n b)) h ∙ append_known-append old a (take n b)
          ∙ ap (append_known old) (sym (take-append-add a b n)),
    )

-- nothing is written after a failed write
pub put-ended : (a b : List ℕ) (old new : Option (List ℕ)) → IsPut a old new true → IsPut (a ++ b) old new true
put-ended a b old new k =
    let n = k.0 in
    let bound : n ≤ length a = k.1 in
    (n, rw (length-append a b) (omega (arith, bound)), k.2 ∙ ap (append_known old) (sym (take-append-le n a b bound)))

-- an error that is passed on is one
pub err-is : {T E : Type 0} (P : E → Type 0) (r : Result T E) → IsErrAnd r P → is_err r ≡ true
err-is P (Err e) h = refl
err-is P (Ok x) h = elim h [ ]
