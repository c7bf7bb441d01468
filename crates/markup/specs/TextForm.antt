-- The bytes of a text, wherever they lie.
use Rattle.std.specs.Prelude.{ℕ, List}
use Rattle.std.specs.String.{string_bytes}
use Rattle.markup.specs.declared.text_form.TextForm.{TextForm}
use Rattle.markup.specs.declared.text_form.TextForm.TheVariants.{Short, Long}

abbrev pub form_bytes : TextForm → List ℕ
form_bytes (Short short alloc) = short
form_bytes (Long text) = string_bytes text
