-- What several calls of a device in a row do to the bytes that it tells.
use Rattle.std.proofs.Common.{◌≡◌, ◌∙◌, ℕ, Bool, ◌&&◌, ◌==◌, false, arith, ◌+◌, List, ◌++◌, take, drop, refl, ap, Some, None}
use Rattle.std.proofs.Common.{Option, append_assoc, sym}
use Rattle.std.proofs.Math.Seq.{take-add}
use Rattle.std.specs.Io.KnownBytes.{append_known}
use Rattle.std.proofs.lemmas.Bool.Decides.{nat_tests}
use Rattle.devices.specs.Devices.{count_after}

-- bytes written in two parts
pub append_known-append : (known : Option (List ℕ)) (first second : List ℕ)
    → append_known (append_known known first) second ≡ append_known known (first ++ second)
append_known-append None first second = refl
append_known-append (Some bytes) first second = ap Some (append_assoc bytes first second)

-- a front of the bytes was written, and then a front of the rest
pub append_known-take_more : (old mid new : Option (List ℕ)) (bytes : List ℕ) (at n : ℕ) → mid ≡ append_known old
    (take at bytes) → new ≡ append_known mid (take n (drop at bytes)) → new ≡ append_known old (take (at + n) bytes)
append_known-take_more old mid new bytes at n so_far moved =
    moved ∙ ap (λ known. append_known known (take n (drop at bytes))) so_far ∙ append_known-append old
    (take at bytes) (take n (drop at bytes)) ∙ ap (append_known old) (sym (take-add at n bytes))

-- a write that took something did not fail
pub count_after-taken : (n : ℕ) (rest : Bool) (count : Option ℕ) → (n ≡ 0 → ⊥) → count_after ((n == 0) && rest) count ≡ count
count_after-taken n rest count some =
    let test : (n == 0) ≡ false = grind (arith, nat_tests) in
    rw test refl
