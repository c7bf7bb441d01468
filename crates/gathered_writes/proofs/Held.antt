-- What is held before and after a part of it is handed on.
use Rattle.std.proofs.Common.{◌≡◌, ◌∙◌, ℕ, ◌+◌, ◌-◌, ◌≤◌, Option, List, ◌++◌, length, take, drop, ap, arith, length-drop}
use Rattle.std.proofs.Common.{sym}
use Rattle.std.specs.List.{copy_within}
use Rattle.std.proofs.lemmas.List.{take-take}
use Rattle.std.proofs.lemmas.List.Edits.{take-paste}
use Rattle.std.proofs.Math.Seq.{take-add}
use Rattle.std.specs.Io.KnownBytes.{append_known}
use Rattle.devices.proofs.DeviceLemmas.{append_known-append}

-- the front of some bytes, and what was moved there from behind it
rest-moved : (bytes : List ℕ) (len count : ℕ) → len ≤ length bytes → count ≤ len
    → take count (take len bytes) ++ take (len - count) (copy_within bytes count len 0) ≡ take len bytes
rest-moved bytes len count within some =
    let front : take count (take len bytes) ≡ take count bytes = take-take count len bytes some in
    let zero : len - count ≡ 0 + (len - count) = omega arith in
    let moved : take (len - count) (copy_within bytes count len 0) ≡ take (len - count) (drop count bytes) =
    ap (λ (n : ℕ). take n (copy_within bytes count len 0)) zero
    ∙ take-paste bytes 0 (drop count bytes) (len - count) (omega arith) (omega (arith, length-drop count bytes)) in
    let whole : count + (len - count) ≡ len = omega arith in
    rw (front, moved) (sym (take-add count (len - count) bytes) ∙ ap (λ (n : ℕ). take n bytes) whole)

-- a part of what was held was written, and the rest is held
pub kept : (known : Option (List ℕ)) (bytes : List ℕ) (len count : ℕ) → len ≤ length bytes → count ≤ len
    → append_known (append_known known (take count (take len bytes))) (take (len - count) (copy_within bytes count len 0))
    ≡ append_known known (take len bytes)
kept known bytes len count within some =
    append_known-append known (take count (take len bytes)) (take (len - count) (copy_within bytes count len 0))
    ∙ ap (append_known known) (rest-moved bytes len count within some)
