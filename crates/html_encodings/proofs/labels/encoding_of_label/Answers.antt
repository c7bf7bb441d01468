use Rattle.std.proofs.Common.{◌≡◌, ◌∙◌, ℕ, sym, ap, refl, map, Bool, Option, None, List, [], drop, Bor}
use Rattle.std.specs.Prelude.{find, bytes_eq}
use Rattle.std.specs.Char.{to_ascii_lowercase}
use Rattle.std.specs.Option.{option_map}
use Rattle.std.proofs.Math.ListN.{drop_of_length-le}
use Rattle.html_encodings.specs.Labels.{Row, labels, is_label, label_encoding}
use Rattle.html_encodings.specs.Scanning.{trimmed}
use Rattle.html_encodings.specs.declared.names.Encoding.{Encoding}
use Rattle.html_encodings.specs.declared.names.Encoding.TheVariants.{Big5}
use Rattle.html_encodings.proofs.Scans.{find_here, find_later, same_test}
use Rattle.html_encodings.proofs.labels.encoding_of_label.Goals as goal

-- what the rows tell is the answer
answer : (label word : List ℕ) (rows : List Row) (found : Option Row) → word ≡ trimmed label → rows ≡ labels
    → find (is_label word) rows ≡ found
    → option_map (λ row. row.1) found ≡ label_encoding label
answer label word rows found is all told = rw (sym told, is, all) refl

-- past the end
nothing : Bor (List ℕ) × Encoding
nothing = (record { ref_ptr = (0, 0); now = [] }, Big5)

-- a row has the label, or not
told : (name word lent : List ℕ) (r : Bool) → lent ≡ name → bytes_eq (map to_ascii_lowercase lent) (map to_ascii_lowercase word) ≡ r
    → bytes_eq (map to_ascii_lowercase name) (map to_ascii_lowercase word) ≡ r
told name word lent r is same = rw (sym is) same

pub returns-then-eq_ignore_ascii_case : goal.returns-then-eq_ignore_ascii_case
unfolding nothing
returns-then-eq_ignore_ascii_case c =
    let here = same_test _ _ _ c.eq_ignore_ascii_case.ensures.test ∙ c.if-eq_ignore_ascii_case.true in
    answer _ _ _ _ c.trimmed-word.ensures c.labels-name-items.ensures
    (c.loop-name.invariant
    ∙ find_here _ _ _ _ nothing c.loop-name-test.true (told _ c.trimmed-word.result.now _ _ c.as_bytes.ensures.value here))

pub loop-name-preserved : goal.loop-name-preserved
unfolding nothing
loop-name-preserved c =
    let here = same_test _ _ _ c.eq_ignore_ascii_case.ensures.test ∙ c.if-eq_ignore_ascii_case.false in
    c.loop-name.invariant
    ∙ find_later _ _ _ _ nothing c.loop-name-test.true (told _ c.trimmed-word.result.now _ _ c.as_bytes.ensures.value here)

pub returns : goal.returns
returns c =
    let over : drop c.loop-name.name-index c.labels-name-items.result.now ≡ [] =
    drop_of_length-le c.labels-name-items.result.now c.loop-name-test.false in
    answer _ _ _ None c.trimmed-word.ensures c.labels-name-items.ensures
    (c.loop-name.invariant ∙ ap (λ rows. find (is_label c.trimmed-word.result.now) (map (λ row. (row.0.now, row.1)) rows)) over)
