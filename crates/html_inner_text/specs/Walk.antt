-- A walk over the nodes in an element: what it has still to write.
use Rattle.std.specs.Prelude.{◌≡◌, ℕ, suc, ◌+◌, ◌<◌, List, [], ◌∷◌, ◌++◌, reverse}
use Rattle.markup.specs.Forest.{Forest}
use Rattle.markup.specs.NodeCounts.{nodes_in}
use Rattle.markup.specs.Trees.{inner_of}
use Rattle.html_inner_text.specs.Items.{Item, At, closes, items, opens}
use Rattle.html_inner_text.specs.InnerText.{edged, run}
use Rattle.html_inner_text.specs.Styles.{inside}
use Rattle.html_inner_text.specs.declared.walk.Level.{Level}
use Rattle.html_inner_text.specs.declared.walk.Walk.{Walk}
use Rattle.html_inner_text.specs.declared.writer.Edge.{Edge}
use Rattle.html_inner_text.specs.declared.writer.Writer.{Writer}

-- the items after the nodes in an element, which has levels around it, the nearest first
abbrev pub items_around : Forest → Edge → List Level → List Item
items_around f closing [] = []
items_around f closing (level ∷ levels) = At closing ∷ (items f level.style level.rest ++ items_around f level.closing levels)

abbrev pub items_left : Forest → Walk → List Item
items_left f walk = items f walk.style walk.rest ++ items_around f walk.closing (reverse walk.around.items)

-- what the writer comes to
abbrev pub finished : Forest → Walk → Writer
finished f walk = run walk.writer (items_left f walk)

abbrev pub nodes_around : Forest → List Level → ℕ
nodes_around f [] = 0
nodes_around f (level ∷ levels) = suc (nodes_in f level.rest + nodes_in f level.rest) + nodes_around f levels

-- how much is left of a walk: two for each node, one for each level
abbrev pub nodes_left : Forest → Walk → ℕ
nodes_left f walk = (nodes_in f walk.rest + nodes_in f walk.rest) + nodes_around f walk.around.items

-- the level at which a walk is
abbrev pub level_of : Walk → Level
level_of walk = record { style = walk.style; closing = walk.closing; rest = walk.rest }

-- a walk goes on in a node
pub record IsEntered (f : Forest) (n : ℕ) (old new : Walk) : Type 0 where
  pub writer : new.writer ≡ edged old.writer (opens f old.style n)
  pub style : new.style ≡ inside f old.style n
  pub closing : new.closing ≡ closes f old.style n
  pub rest : new.rest ≡ inner_of f n
  pub around : new.around.items ≡ old.around.items ++ level_of old ∷ []

-- a walk goes on after the nodes at its level
pub record IsLeft (level : Level) (old new : Walk) : Type 0 where
  pub writer : new.writer ≡ edged old.writer old.closing
  pub same : level_of new ≡ level
  pub around : new.around.items ≡ old.around.items

-- a node is taken: the writer comes to the same, and less is left
pub record IsTaken (f : Forest) (n : ℕ) (old new : Walk) : Type 0 where
  pub same : finished f new ≡ finished f (record old { rest = n ∷ old.rest })
  pub less : nodes_left f new < nodes_left f (record old { rest = n ∷ old.rest })
