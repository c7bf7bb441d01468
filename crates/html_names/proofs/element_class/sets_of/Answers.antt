use Rattle.std.proofs.Common.{◌∙◌}
use Rattle.html_names.proofs.KindsOfSpaces.{of_html, of_mathml, of_svg}
use Rattle.html_names.proofs.RowsOfSets.{IsRowOf-html, IsRowOf-mathml, IsRowOf-svg, IsRowOf-none}
use Rattle.html_names.proofs.element_class.sets_of.Goals as goal

pub returns-in-Html : goal.returns-in-Html
returns-in-Html c space h = rw (of_html space (h ∙ c.in-Html.is), c.of_html.ensures) (IsRowOf-html _ c.requires)

pub returns-in-MathMl : goal.returns-in-MathMl
returns-in-MathMl c space h = rw (of_mathml space (h ∙ c.in-MathMl.is), c.of_mathml.ensures) (IsRowOf-mathml _ c.requires)

pub returns-in-Svg : goal.returns-in-Svg
returns-in-Svg c space h = rw (of_svg space (h ∙ c.in-Svg.is), c.of_svg.ensures) (IsRowOf-svg _ c.requires)

pub returns-in-Other : goal.returns-in-Other
returns-in-Other c space h = IsRowOf-none space _ (h ∙ c.in-Other.is)
