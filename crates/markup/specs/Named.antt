-- HTML elements by their names, and the contents of templates.
use Rattle.std.specs.Prelude.{◌≡◌, ℕ, ◌+◌, ◌-◌, Bool, true, false, List, codes}
use Rattle.markup.specs.Names.{is_html_name}
use Rattle.markup.specs.Forest.{Forest, IsForest, NodeData, data_of, element_name, is_contents, template_of}
use Rattle.markup.specs.Forest.NodeData.{Contents}

-- whether a node is an HTML element of that local name
abbrev pub is_named : Forest → ℕ → List ℕ → Bool
is_named f n local = is_html_name (element_name (data_of f n)) local

-- each HTML template, and nothing else, is followed by the node of its contents
pub record HasContents (f : Forest) : Type 0 where
  pub templates : (n : ℕ) → template_of (data_of f n) ≡ is_named f n (codes "template")
  pub follow : (n : ℕ) → template_of (data_of f n) ≡ true → data_of f (n + 1) ≡ Contents
  pub belong : (n : ℕ) → is_contents (data_of f n) ≡ true → template_of (data_of f (n - 1)) ≡ true

-- what is neither a template nor the contents of one
pub record IsOrdinary (about : NodeData) : Type 0 where
  pub contents : is_contents about ≡ false
  pub template : template_of about ≡ false
  pub name : is_html_name (element_name about) (codes "template") ≡ false

-- what a sink has built: a forest whose templates have their contents
pub record IsTree (f : Forest) : Type 0 where
  pub forest : IsForest f
  pub contents : HasContents f
