use Rattle.std.proofs.Common.{◌≡◌, ◌∙◌, ◌++◌, List, ℕ, ap, append_assoc, codes, map-id, sym}
use Rattle.std.specs.List.{flat_map}
use Rattle.std.specs.Prelude.{OnOk, Result, Ok, Err, is_ok, if◌then◌else◌}
use Rattle.std.specs.Str.{chars}
use Rattle.std.specs.String.{string_bytes}
use Rattle.std.proofs.lemmas.Iterator.{YieldsList-from_chars}
use Rattle.std.proofs.lemmas.Iterator.Consumers.{YieldsList-end}
use Rattle.html_listings.specs.Json.{in_string, string_of}
use Rattle.html_listings.proofs.json.push_string.Goals as goal

-- a text at the end
pushed : {T E : Type 0} (answer : Result T E) (old new text all : List ℕ) → new ≡ (if is_ok answer then old ++ text else old)
    → old ++ text ≡ all → OnOk answer (new ≡ all)
pushed (Ok value) old new text all is whole = is ∙ whole
pushed (Err fault) old new text all is whole = tt

pub returns : goal.returns
returns c =
    let all = YieldsList-end (YieldsList-from_chars c.args.text.now c.utf8.text cc) c.loop-c.yielded _
    c.loop-c.yielded_by _ _ c.in-None.is c.next.ensures.steps in
    let same : c.loop-c.yielded ≡ chars c.args.text.now = sym (map-id c.loop-c.yielded) ∙ all.0 in
    let before : string_bytes c.loop-c.json ≡ (string_bytes c.args.json.now ++ codes "\"") ++ flat_map in_string (chars c.args.text.now) =
    c.loop-c.invariant ∙ ap (λ (cs : List ℕ). (string_bytes c.args.json.now ++ codes "\"") ++ flat_map in_string cs) same in
    let whole : string_bytes c.loop-c.json ++ codes "\"" ≡ string_bytes c.args.json.now ++ string_of c.args.text.now =
    ap (λ (bs : List ℕ). bs ++ codes "\"") before
    ∙ (append_assoc (string_bytes c.args.json.now ++ codes "\"") (flat_map in_string (chars c.args.text.now)) (codes "\"")
    ∙ append_assoc (string_bytes c.args.json.now) (codes "\"") (flat_map in_string (chars c.args.text.now) ++ codes "\"")) in
    pushed c.push_str-2.result _ _ (codes "\"") _ c.push_str-2.ensures.bytes whole
