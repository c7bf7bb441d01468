use lib.Utf8.{scalar, scalars}
use Rattle.std.proofs.Common.{◌≡◌, ◌∙◌, ◌<◌, ℕ, Bool, true, false, ◌&&◌, not, nat_eq, List, [], ◌∷◌, None, length, slice_index}
use Rattle.std.proofs.Common.{ap₂, arith, refl, subst, sym}
use Rattle.std.specs.List.{list_all}
use Rattle.std.specs.Str.{chars}
use Rattle.std.proofs.lemmas.Bool.{and_parts}
use Rattle.std.proofs.lemmas.Bool.Decides.{nat_tests}
use Rattle.std.proofs.lemmas.Str.{scalars-chars}
use Rattle.memchr.specs.Find.{IsFirstByte, is_byte2}
use Rattle.html_plain.proofs.Bytes.{search-plain}
use Rattle.html_plain.specs.Grammar.{is_plain_character}
use Rattle.html_faithful.specs.Forms.{is_kept}
use Rattle.html_faithful_judge.specs.Bytes.{is_odd}
use Rattle.html_faithful_judge.proofs.texts.is_kept.Goals as goal

whole : (a b : Bool) → b ≡ true → (a && b) ≡ a
whole true b h = h
whole false b h = refl

-- characters are scalar values
plain-kept : (cs : List ℕ) → scalars cs ≡ true → list_all is_plain_character cs ≡ is_kept cs
plain-kept [] h = refl
plain-kept (c ∷ cs) h =
    let parts = and_parts (scalar c) (scalars cs) h in
    ap₂ (λ a b. a && b) (whole (not (nat_eq c 0) && not (nat_eq c 13)) (scalar c) parts.0) (plain-kept cs parts.1)

pub returns : goal.returns
returns c =
    search-plain c.args.text.now c.memchr2.result c.is_none-2.result c.utf8.text
    (subst (λ bs. IsFirstByte (is_byte2 0 13) bs c.memchr2.result) c.as_bytes-2.ensures.value c.memchr2.ensures) c.is_none-2.ensures
    ∙ plain-kept (chars c.args.text.now) (scalars-chars c.args.text.now c.utf8.text)

-- no byte is one of the two
not-odd : (b : ℕ) → is_odd b ≡ false → ¬ (is_byte2 0 13 b ≡ true)
not-odd b h is = grind (arith, nat_tests, h, is)

pub returns-then-is_none : goal.returns-then-is_none
returns-then-is_none c =
    search-plain c.args.text.now None true c.utf8.text
    (λ k low high odd. not-odd (slice_index c.args.text.now k)
    (subst (λ (bs : List ℕ). is_odd (slice_index bs k) ≡ false) c.as_bytes.ensures.value
    (c.is_none.ensures c.if-is_none.true k (subst (λ (bs : List ℕ). k < length bs) (sym c.as_bytes.ensures.value) high))) odd) refl
    ∙ plain-kept (chars c.args.text.now) (scalars-chars c.args.text.now c.utf8.text)
