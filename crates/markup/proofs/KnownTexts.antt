-- The known names are of ASCII alone, so the characters of each are its bytes.
use Rattle.std.proofs.Common.{◌≡◌, ◌∙◌, ℕ, ◌<◌, true, List, [], length, get_or, map, refl, sym, ap, arith}
use Rattle.std.specs.List.{list_all}
use Rattle.std.specs.Str.{chars}
use Rattle.std.proofs.lemmas.List.{get_or-map, length-map}
use Rattle.markup.specs.KnownNames.{names}
use Rattle.markup.specs.Plain.{is_plain}
use Rattle.markup.proofs.Plain.{chars-plain}
use Rattle.markup.proofs.PlainTexts.{plain-at}
use denote.Bor.{Bor}

pub names-plain : list_all is_plain names ≡ true
unfolding names
names-plain = refl

-- the text at a place of the table that is lent is the known name there
pub name-text : (table : List (Bor (List ℕ))) (k : ℕ) (d : Bor (List ℕ)) → map (λ name. name.now) table ≡ names
    → k < length names → chars (get_or table k d).now ≡ get_or names k []
name-text table k d e l =
    let l' : k < length table = omega (arith, ap length e, length-map table (λ (name : Bor (List ℕ)). name.now)) in
    let at : get_or names k [] ≡ (get_or table k d).now = rw (← e) (get_or-map (λ (name : Bor (List ℕ)). name.now) table k d [] l') in
    ap chars (sym at) ∙ chars-plain (get_or names k []) (plain-at names names-plain k l)
