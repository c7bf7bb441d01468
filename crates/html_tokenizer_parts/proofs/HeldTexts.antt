-- What is held of a reference is of ASCII alone.
use Rattle.std.proofs.Common.{◌≡◌, ℕ, zero, suc, true, List, [], ◌∷◌, drop, refl, arith}
use Rattle.std.specs.Prelude.{nat_lt}
use Rattle.std.specs.List.{list_all}
use Rattle.std.specs.Str.{IsUtf8, chars}
use Rattle.std.proofs.lemmas.Bool.{and_parts, and_from}
use Rattle.std.proofs.lemmas.Bool.Decides.{nat_tests}
use Rattle.markup.specs.Plain.{is_plain}
use Rattle.markup.proofs.Plain.{chars-plain}
use Rattle.html_references.proofs.Names.{bytes_of_plain}
use Rattle.html_tokenizer_parts.specs.CharRefs.{is_held}

held-below : (c : ℕ) → is_held c ≡ true → nat_lt c 128 ≡ true
held-below c h = grind (arith, nat_tests)

plain-held : (cs : List ℕ) → list_all is_held cs ≡ true → is_plain cs ≡ true
plain-held [] h = refl
plain-held (c ∷ cs) h =
    let p = and_parts (is_held c) (list_all is_held cs) h in
    and_from (nat_lt c 128) (is_plain cs) (held-below c p.0) (plain-held cs p.1)

-- what stands after the first so many of them is held too
pub held-drop : (n : ℕ) (cs : List ℕ) → list_all is_held cs ≡ true → list_all is_held (drop n cs) ≡ true
held-drop zero cs h = h
held-drop (suc n) [] h = refl
held-drop (suc n) (c ∷ cs) h = held-drop n cs (and_parts (is_held c) (list_all is_held cs) h).1

-- its characters are its bytes
pub held-bytes : (bytes cs : List ℕ) → IsUtf8 bytes → chars bytes ≡ cs → list_all is_held cs ≡ true → bytes ≡ cs
held-bytes bytes cs u e h = bytes_of_plain bytes cs u e (plain-held cs h)

pub held-behind : (part bytes cs : List ℕ) (n : ℕ) → part ≡ drop n bytes → bytes ≡ cs → list_all is_held cs ≡ true → chars part ≡ drop n cs
held-behind part bytes cs n e f h = rw (e, f) (chars-plain (drop n cs) (plain-held (drop n cs) (held-drop n cs h)))
