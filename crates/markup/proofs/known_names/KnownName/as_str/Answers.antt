use Rattle.std.proofs.Common.{◌∙◌, ℕ, ◌<◌, ◌≤◌, List, [], length, sym, ap, refl, arith}
use Rattle.std.proofs.lemmas.List.{get_or_past, length-map}
use Rattle.std.specs.Str.{chars}
use Rattle.markup.specs.KnownNames.{names}
use Rattle.markup.proofs.Plain.{chars-plain}
use Rattle.markup.proofs.KnownTexts.{name-text}
use Rattle.markup.proofs.known_names.KnownName.as_str.Goals as goal
use denote.Bor.{Bor}

pub returns-in-Some : goal.returns-in-Some
returns-in-Some c =
    let d : Bor (List ℕ) = record { ref_ptr = (0, 0); now = [] } in
    let found = c.in-Some.ensures.lookup.3 in
    let within : c.args.self.place < length names =
    rw (← c.table.ensures, length-map c.table.result.now (λ (name : Bor (List ℕ)). name.now)) found.0 in
    ap (λ (name : Bor (List ℕ)). chars name.now) (found.1 d) ∙ name-text c.table.result.now c.args.self.place d c.table.ensures within

pub returns-in-None : goal.returns-in-None
returns-in-None c =
    let past : length c.table.result.now ≤ c.args.self.place = grind arith in
    let behind : length names ≤ c.args.self.place =
    rw (← c.table.ensures, length-map c.table.result.now (λ (name : Bor (List ℕ)). name.now)) past in
    chars-plain [] refl ∙ sym (get_or_past names c.args.self.place [] behind)
