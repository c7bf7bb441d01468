-- The sets of known names, by the place of the name: in HTML, in MathML and in SVG.
use Rattle.std.specs.Prelude.{ℕ, ◌||◌, nat_eq, if◌then◌else◌, slice_index}
use Rattle.html_names.specs.declared.set_rows.TheConstants.{HTML_SETS}

unfoldable pub html_row : ℕ → ℕ
html_row p = slice_index HTML_SETS p

abbrev pub mathml_row : ℕ → ℕ
mathml_row p = if nat_eq p 346 || nat_eq p 351 || nat_eq p 352 || nat_eq p 361
    || nat_eq p 370 then 0x1e000000000000000000004007 else if nat_eq p 30 then
    0x1e000000000000000000010000 else 0

abbrev pub svg_row : ℕ → ℕ
svg_row p = if nat_eq p 118 || nat_eq p 210 || nat_eq p 573 then
    0x1e000000000000000000008007 else 0
