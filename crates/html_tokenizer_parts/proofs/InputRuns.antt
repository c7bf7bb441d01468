-- A run of characters of the input, as it comes.
use Rattle.std.proofs.Common.{◌≡◌, ◌∙◌, ℕ, ◌<◌, Bool, true, false, nat_eq, List, [], ◌∷◌, ◌++◌, length, refl, sym, ap, arith}
use Rattle.std.specs.Prelude.{◌&&◌}
use Rattle.std.proofs.lemmas.List.Elements.{All-head, All-tail}
use Rattle.html_tokens.specs.NormalText.{newline_by, newlines_after, without_mark}
use Rattle.html_tokenizer_parts.specs.declared.stream.Stream.{Stream}
use Rattle.html_tokenizer_parts.specs.Input.{coming_in, IsUnbroken}

-- a character that is no line end comes as it is, also after a carriage return
newline_by-plain : (a cr b : Bool) (c : ℕ) (go : Bool → List ℕ) → a ≡ false → b ≡ false → newline_by a (cr && b) c go ≡ c ∷ go false
newline_by-plain a true b c go h k = rw (h, k) refl
newline_by-plain a false b c go h k = rw h refl

-- where no byte order mark is dropped, a text is what it is
pub without_none : (t : List ℕ) → without_mark false t ≡ t
without_none [] = refl
without_none (c ∷ t) = refl

-- a character that is no line end comes as it is, and so does a text of them
unbroken-first : (cr : Bool) (c : ℕ) (t : List ℕ) → nat_eq c 10 ≡ false → nat_eq c 13 ≡ false
    → newlines_after cr (c ∷ t) ≡ c ∷ newlines_after false t
unbroken-first cr c t n r = newline_by-plain (nat_eq c 13) cr (nat_eq c 10) c (λ b. newlines_after b t) r n

unbroken-rest : (run t : List ℕ) → IsUnbroken run → newlines_after false (run ++ t) ≡ run ++ newlines_after false t
unbroken-rest [] t u = refl
unbroken-rest (c ∷ run) t u =
    let first = All-head (λ c. (nat_eq c 10 ≡ false) × (nat_eq c 13 ≡ false)) c run u in
    unbroken-first false c (run ++ t) first.0 first.1
    ∙ ap (λ u. c ∷ u) (unbroken-rest run t (All-tail (λ c. (nat_eq c 10 ≡ false) × (nat_eq c 13 ≡ false)) c run u))

unbroken-run : (cr : Bool) (run t : List ℕ) → 0 < length run → IsUnbroken run → newlines_after cr (run ++ t) ≡ run ++ newlines_after false t
unbroken-run cr [] t filled u = absurd (omega arith)
unbroken-run cr (c ∷ run) t filled u =
    let first = All-head (λ c. (nat_eq c 10 ≡ false) × (nat_eq c 13 ≡ false)) c run u in
    unbroken-first cr c (run ++ t) first.0 first.1
    ∙ ap (λ u. c ∷ u) (unbroken-rest run t (All-tail (λ c. (nat_eq c 10 ≡ false) × (nat_eq c 13 ≡ false)) c run u))

-- a front without line ends comes as it is, where no byte order mark may come
pub front-comes : (old : Stream) (run t : List ℕ) → old.discard_bom ≡ false → 0 < length run → IsUnbroken run
    → coming_in old (run ++ t) ≡ run ++ coming_in (record old { ignore_lf = false }) t
front-comes old run t unmarked filled u =
    ap (λ mark. newlines_after old.ignore_lf (without_mark mark (run ++ t))) unmarked
    ∙ ap (newlines_after old.ignore_lf) (without_none (run ++ t))
    ∙ unbroken-run old.ignore_lf run t filled u
    ∙ ap (λ u. run ++ newlines_after false u) (sym (without_none t))
    ∙ ap (λ mark. run ++ newlines_after false (without_mark mark t)) (sym unmarked)
