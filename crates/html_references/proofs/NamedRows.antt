-- The row of a name that was found.
use Rattle.std.proofs.Common.{◌≡◌, ◌∙◌, ℕ, ◌<◌, true, List, length, get_or, Some, refl, sym, ap, subst}
use Rattle.std.specs.Str.{IsUtf8, chars}
use Rattle.markup.specs.Plain.{is_plain}
use Rattle.markup.proofs.Plain.{chars-plain}
use Rattle.html_references.specs.Order.{IsOrder, name_at}
use Rattle.html_references.specs.References.{is_front, longest}
use Rattle.html_tokens.specs.declared.table.ReferenceRow.{ReferenceRow}
use Rattle.html_references.proofs.Fronts.{front-named}
use Rattle.html_references.proofs.Longest.{longest-found, named_at, slice_get-get_or}
use Rattle.html_references.proofs.Names.{is_plain-name}
use Rattle.html_references.proofs.Orders.{name_at-get_or}

-- a row has this text as its name, no longer name begins it, and it is a front of a name
pub record IsNamed (rows : List ReferenceRow) (text : List ℕ) (row : ReferenceRow) : Type 0 where
  pub longest : longest rows text ≡ Some row
  pub name : row.name ≡ text
  pub front : is_front rows text ≡ true

named-bytes : (rows : List ReferenceRow) (order bytes : List ℕ) (row : ReferenceRow) (place : ℕ)
    → IsOrder rows order → place < length rows → name_at rows place ≡ bytes → row ≡ get_or rows place row → IsNamed rows bytes row
named-bytes rows order bytes row place o l e is = record {
  longest = sym (slice_get-get_or rows place row l is ∙ longest-found rows order bytes (Some place) place o refl (l, e));
  name = ap (λ r. r.name) is ∙ (sym (name_at-get_or rows place row l) ∙ e);
  front = front-named rows place bytes l e;
}

pub named-row : (rows : List ReferenceRow) (order bytes : List ℕ) (row : ReferenceRow) (place : ℕ)
    → IsOrder rows order → IsUtf8 bytes → place < length rows → name_at rows place ≡ bytes
    → row ≡ get_or rows place row → IsNamed rows (chars bytes) row
named-row rows order bytes row place o utf8 l e is =
    let plain : is_plain bytes ≡ true = subst (λ n. is_plain n ≡ true) e
    (is_plain-name (name_at rows place) (named_at rows order o place l)) in
    subst (λ text. IsNamed rows text row) (sym (chars-plain bytes plain)) (named-bytes rows order bytes row place o l e is)
