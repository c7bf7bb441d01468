-- Nodes of a forest that can be put into others.
use Rattle.std.specs.Prelude.{◌≡◌, ℕ, ◌+◌, true, [], None}
use Rattle.markup.specs.Forest.{Forest, IsLoose, IsNode, IsParent, above_of, children_of, data_of, template_of}

-- a node that stands under nothing
pub record IsTop (f : Forest) (n : ℕ) : Type 0 where
  pub there : IsNode f n
  pub top : above_of f n ≡ None

-- a node in which nothing is, nor in its contents if it is a template
pub record IsEmpty (f : Forest) (n : ℕ) : Type 0 where
  pub childless : children_of f n ≡ []
  pub empty_contents : template_of (data_of f n) ≡ true → children_of f (n + 1) ≡ []

-- a node may be put among the children of another one
pub record MayPut (f : Forest) (parent child : ℕ) : Type 0 where
  pub parent_is : IsParent f parent
  pub loose : IsLoose f parent child
