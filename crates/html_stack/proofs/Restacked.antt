-- A vector in which some elements take the place of others.
use Rattle.std.proofs.Common.{◌≡◌, true≢false, ◌∙◌, ℕ, suc, ◌+◌, ◌-◌, Option, Some, None, IsSome, eq-zero-or-pos, inl, inr, ◌<◌}
use Rattle.std.proofs.Common.{◌≤◌, List, [], ◌∷◌, ◌++◌, length, take, drop, get_or, set, reverse, swap, refl, sym, ap, arith}
use Rattle.std.proofs.Common.{add-one, append_assoc, drop-cons, drop-drop, length-append, length-take-le}
use Rattle.std.proofs.lemmas.List.{drop_at, get_or_at, length-drop, length-reverse, reverse-append, same_from_push, set_at, take_at}
use Rattle.std.proofs.lemmas.List.Edits.{swap_is}
use Rattle.std.proofs.Math.Seq.{take-suc}

-- the last of those that are left goes
pub popped : {X : Type 0} (cs os os' : List X) (o : X) → os ≡ take (length os) cs → length os ≤ length cs → os ≡ os'
    ++ o ∷ [] → (os' ≡ take (length os') cs) × (o ≡ get_or cs (length os') o)
popped cs os os' o rest less e =
    let count : length os ≡ suc (length os') = ap length e ∙ length-append os' (o ∷ []) ∙ (omega arith) in
    let at : os' ++ o ∷ [] ≡ take (length os') cs ++ get_or cs (length os') o ∷ [] = sym e ∙ rest
    ∙ ap (λ n. take n cs) count ∙ take-suc cs (length os') o (omega arith) in
    same_from_push os' (take (length os') cs) o (get_or cs (length os') o) at

-- it is written over the first element that is left
pub written : {X : Type 0} (xs cs : List X) (from at m : ℕ) (y : X) → from ≤ length xs → m < length cs
    → at + suc m ≡ from + length cs → at < length xs → y ≡ get_or cs m y
    → set (take from xs ++ (reverse (drop (suc m) cs) ++ drop at xs)) at y ≡ take from xs ++ (reverse (drop m cs) ++ drop (suc at) xs)
written xs cs from at m y inside less count there is =
    let p : List _ = take from xs ++ reverse (drop (suc m) cs) in
    let size : length p ≡ at = length-append (take from xs) (reverse (drop (suc m) cs))
    ∙ (omega (arith, length-take-le from xs inside, length-reverse (drop (suc m) cs), length-drop (suc m) cs)) in
    let more : reverse (drop m cs) ≡ reverse (drop (suc m) cs) ++ y ∷
    [] = ap reverse (drop-cons cs m y less ∙ ap (λ z. z ∷ drop (suc m) cs) (sym is)) ∙ reverse-append (y ∷ []) (drop (suc m) cs) in
    ap (λ zs. set zs at y) (sym (append_assoc (take from xs) (reverse (drop (suc m) cs)) (drop at xs))
    ∙ ap (λ zs. p ++ zs) (drop-cons xs at y there))
    ∙ set_at p (get_or xs at y) (drop (suc at) xs) y at size
    ∙ append_assoc (take from xs) (reverse (drop (suc m) cs)) (y ∷ drop (suc at) xs)
    ∙ ap (λ zs. take from xs ++ zs) (sym (append_assoc (reverse (drop (suc m) cs)) (y ∷ []) (drop (suc at) xs))
    ∙ ap (λ zs. zs ++ drop (suc at) xs) (sym more))

-- what is between goes
pub cut_after : {X : Type 0} (p : List X) (l : X) (r : List X) (n k : ℕ) → length p ≡ n → take (suc n) (p ++ l ∷ r)
    ++ drop (suc n + k) (p ++ l ∷ r) ≡ p ++ l ∷ drop k r
cut_after p l r n k e =
    let q : List _ = p ++ l ∷ [] in
    let size : length q ≡ suc n = length-append p (l ∷ []) ∙ (omega arith) in
    let whole : p ++ l ∷ r ≡ q ++ r = sym (append_assoc p (l ∷ []) r) in
    ap (λ zs. take (suc n) zs ++ drop (suc n + k) zs) whole
    ∙ ap (λ zs. zs ++ drop (suc n + k) (q ++ r)) (take_at q r (suc n) size)
    ∙ ap (λ zs. q ++ zs) (sym (drop-drop k (suc n) (q ++ r)) ∙ ap (drop k) (drop_at q r (suc n) size))
    ∙ append_assoc p (l ∷ []) (drop k r)

pub swapped : {X : Type 0} (p : List X) (a b : X) (r : List X) (n : ℕ) → length p ≡ n → swap (p ++ a ∷ b ∷ r) n (suc n) ≡ p ++ b ∷ a ∷ r
swapped p a b r n e =
    let xs : List _ = p ++ a ∷ b ∷ r in
    let q : List _ = p ++ a ∷ [] in
    let q' : List _ = p ++ b ∷ [] in
    let size : length q ≡ suc n = length-append p (a ∷ []) ∙ (omega arith) in
    let size' : length q' ≡ suc n = length-append p (b ∷ []) ∙ (omega arith) in
    let whole : xs ≡ q ++ b ∷ r = sym (append_assoc p (a ∷ []) (b ∷ r)) in
    let long : length xs ≡ length p + suc (suc (length r)) = length-append p (a ∷ b ∷ r) in
    let first : get_or xs n a ≡ a = get_or_at p a (b ∷ r) a n e in
    let second : get_or xs (suc n) a ≡ b = ap (λ zs. get_or zs (suc n) a) whole ∙ get_or_at q b r a (suc n) size in
    sym (swap_is xs n (suc n) a (omega arith) (omega arith))
    ∙ ap (λ y. set (set xs n (get_or xs (suc n) a)) (suc n) y) first
    ∙ ap (λ y. set (set xs n y) (suc n) a) second
    ∙ ap (λ zs. set zs (suc n) a) (set_at p a (b ∷ r) b n e ∙ sym (append_assoc p (b ∷ []) (b ∷ r)))
    ∙ set_at q' b r a (suc n) size'
    ∙ append_assoc p (b ∷ []) (a ∷ r)

-- the last element is written, what is between goes, and the two change places
pub restacked : {X : Type 0} (xs cs ys zs : List X) (from to at : ℕ) (last d : X) → from ≤ length xs
    → to < length xs → at ≡ from + length cs → at < to
    → ys ≡ set (take from xs ++ (reverse cs ++ drop at xs)) at last
    → zs ≡ take (at + 1) ys ++ drop to ys
    → (at + 1 < length zs) × (swap zs at (at + 1) ≡ take from xs ++ (reverse cs ++ get_or xs to d ∷ last ∷ drop (to + 1) xs))
restacked xs cs ys zs from to at last d inside there count less eys ezs =
    let p : List _ = take from xs ++ reverse cs in
    let size : length p ≡ at = length-append (take from xs) (reverse cs)
    ∙ (omega (arith, length-take-le from xs inside, length-reverse cs)) in
    let k : ℕ = to - suc at in
    let r : List _ = drop (suc at) xs in
    let k_is : suc at + k ≡ to = omega arith in
    let whole : ys ≡ p ++ last ∷ r =
    eys
    ∙ ap (λ ws. set ws at last) (sym (append_assoc (take from xs) (reverse cs) (drop at xs)) ∙ ap (λ ws. p ++ ws)
    (drop-cons xs at last (omega arith)))
    ∙ set_at p (get_or xs at last) r last at size in
    let rest : drop k r ≡ get_or xs to d ∷ drop (suc to) xs = drop-drop k (suc at) xs ∙ ap (λ n. drop n xs) k_is
    ∙ drop-cons xs to d there in
    let zs_is : zs ≡ p ++ last ∷ get_or xs to d ∷ drop (suc to) xs =
    ezs
    ∙ ap (λ n. take n ys ++ drop to ys) (add-one at)
    ∙ ap (λ n. take (suc at) ys ++ drop n ys) (sym k_is)
    ∙ ap (λ ws. take (suc at) ws ++ drop (suc at + k) ws) whole
    ∙ cut_after p last r at k size
    ∙ ap (λ ws. p ++ last ∷ ws) rest in
    let long : length zs ≡ length p + suc (suc (length (drop (suc to) xs))) = ap length zs_is
    ∙ length-append p (last ∷ get_or xs to d ∷ drop (suc to) xs) in (
      omega arith,
      ap (λ n. swap zs at n) (add-one at)
          ∙ ap (λ ws. swap ws at (suc at)) zs_is
          ∙ swapped p last (get_or xs to d) (drop (suc to) xs) at size
          ∙ append_assoc (take from xs) (reverse cs) (get_or xs to d ∷ last ∷ drop (suc to) xs)
          ∙ ap (λ n. take from xs ++ (reverse cs ++ get_or xs to d ∷ last ∷ drop n xs)) (sym (add-one to)),
    )

-- nothing was popped
pub none-left : {X : Type 0} (o : Option X) (n : ℕ) → (0 < n → IsSome o) → ((x : X) → o ≡ Some x → ⊥) → n ≡ 0
none-left None n h k = elim (eq-zero-or-pos n) [ inl e ↦ e | inr more ↦ absurd (true≢false (sym (h more))) ]
none-left (Some x) n h k = absurd (k x refl)
