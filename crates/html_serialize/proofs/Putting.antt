-- What several puts in a row do to what a writer tells.
use Rattle.std.proofs.Common.{◌≡◌, ◌∙◌, ℕ, ◌+◌, ◌≤◌, List, [], ◌∷◌, ◌++◌, Option, Some, None, Result, Ok, Err, length, take}
use Rattle.std.proofs.Common.{refl, ap, sym, arith, append_assoc, length-append, Bor}
use Rattle.std.proofs.lemmas.List.{append-nil, take-append-le}
use Rattle.std.proofs.lemmas.Result.{err_from_is_err_and}
use Rattle.std.proofs.Math.Seq.{take-append-add}
use Rattle.std.specs.Result.{IsErrAnd}
use Rattle.std.specs.Option.{option_map}
use Rattle.std.specs.Io.KnownBytes.{append_known}
use Rattle.markup.specs.Forest.{one_more}
use Rattle.markup.specs.declared.serializer.SerializeFault.{SerializeFault}
use Rattle.markup.specs.declared.serializer.SerializeFault.TheVariants.{Write}
use Rattle.html_serialize.specs.Puts.{Broke, Puts, WriterView, joined, with_bytes}

pub append_known-append : (known : Option (List ℕ)) (first second : List ℕ)
    → append_known (append_known known first) second ≡ append_known known (first ++ second)
append_known-append None first second = refl
append_known-append (Some bytes) first second = ap Some (append_assoc bytes first second)

pub append_known-none : (known : Option (List ℕ)) → append_known known [] ≡ known
append_known-none None = refl
append_known-none (Some bytes) = ap Some (append-nil bytes)

pub with_bytes-append : (old : WriterView) (first second : List ℕ)
    → with_bytes (with_bytes old first) second ≡ with_bytes old (first ++ second)
with_bytes-append old first second = ap (λ (known : Option (List ℕ)). record old { written = known })
    (append_known-append old.written first second)

-- nothing was put
pub with_bytes-none : (old : WriterView) → old ≡ with_bytes old []
with_bytes-none old = ap (λ (known : Option (List ℕ)). record old { written = known }) (sym (append_known-none old.written))

take-within : (count : ℕ) (first second : List ℕ) → count ≤ length first → take count (first ++ second) ≡ take count first
take-within count first second within = take-append-le count first second within

-- a beginning of what is longer was written too
pub Broke-longer : (old new : WriterView) (first second : List ℕ) → Broke old first new → Broke old (first ++ second) new
Broke-longer old new first second broke = record {
  count = broke.count;
  within = let k = broke.within in omega (arith, length-append first second);
  written = broke.written ∙ ap (append_known old.written) (sym (take-within broke.count first second broke.within));
  failed = broke.failed;
}

-- what came first was written, and a beginning of what came after it
pub Broke-behind : (old mid new : WriterView) (first second : List ℕ) → mid ≡ with_bytes old first
    → Broke mid second new → Broke old (first ++ second) new
Broke-behind old mid new first second put broke = record {
  count = length first + broke.count;
  within = let k = broke.within in omega (arith, length-append first second);
  written =
      broke.written ∙ ap (λ (told : WriterView). append_known told.written (take broke.count second)) put
      ∙ append_known-append old.written first (take broke.count second)
      ∙ ap (append_known old.written) (sym (take-append-add first second broke.count));
  failed = broke.failed ∙ ap (λ (told : WriterView). option_map one_more told.failures) put;
}

pub with_bytes-then : (old mid new : WriterView) (first second : List ℕ) → mid ≡ with_bytes old first
    → new ≡ with_bytes mid second → new ≡ with_bytes old (first ++ second)
with_bytes-then old mid new first second before put = put ∙ ap (λ (told : WriterView). with_bytes told second)
    before ∙ with_bytes-append old first second

-- bytes were put, and others after them
pub Puts-behind : {R : Type 0} (old mid new : WriterView) (first second : List ℕ) (result : Result R SerializeFault)
    → mid ≡ with_bytes old first → Puts mid second result new → Puts old (first ++ second) result new
Puts-behind old mid new first second (Ok answer) put puts = puts
    ∙ ap (λ (told : WriterView). with_bytes told second) put ∙ with_bytes-append old first second
Puts-behind old mid new first second (Err fault) put puts = (puts.0, Broke-behind old mid new first second put puts.1)

-- what came first was written, and then a write failed in what came next: so it did in all
pub Puts-failed : {R : Type 0} (old mid new : WriterView) (done bytes rest all : List ℕ)
    (result : Result R SerializeFault) (fault : SerializeFault) → IsErrAnd result (λ y. y ≡ fault)
    → mid ≡ with_bytes old done → (fault ≡ Write) × Broke mid bytes new → all ≡ done ++ (bytes ++ rest) → Puts old all result new
Puts-failed old mid new done bytes rest all result fault is put puts whole =
    let p = err_from_is_err_and result is in
    rw (p.1) (p.2 ∙ puts.0, rw whole (Broke-behind old mid new done (bytes ++ rest) put (Broke-longer mid new bytes rest puts.1)))

pub joined-append : (first second : List (Bor (List ℕ))) → joined (first ++ second) ≡ joined first ++ joined second
joined-append [] second = refl
joined-append (part ∷ first) second = ap (λ (bytes : List ℕ). part.now ++ bytes) (joined-append first second)
    ∙ sym (append_assoc part.now (joined first) (joined second))
