-- What is left to judge of a forest.
use Rattle.std.specs.Prelude.{◌≡◌, ℕ, suc, ◌+◌, ◌<◌, ◌++◌, Bool, true, false, not, ◌&&◌, List, [], ◌∷◌, reverse, Option, Some, None}
use Rattle.markup.specs.Forest.{Forest, children_of}
use Rattle.markup.specs.NodeCounts.{nodes_in}
use Rattle.markup.specs.Trees.{Trees, Nothing, Text, Comment, Doctype, Element, trees_before}
use Rattle.markup.specs.declared.attributes.Attribute.{Attribute}
use Rattle.markup.specs.declared.names.QualName.{QualName}
use Rattle.html_plain.specs.Elements.{place_after_element, inside, may_end, takes_comments, text_kind}
use Rattle.html_plain.specs.Grammar.{is_first, is_plain, is_plain_comment, is_plain_doctype, is_plain_text, takes_text}
use Rattle.html_plain.specs.declared.elements.PlainElement.{PlainElement}
use Rattle.html_forest.specs.declared.plain.Around.{Around}
use Rattle.html_forest.specs.declared.plain.Level.{Level}
use Rattle.html_forest.specs.declared.plain.Stand.{Stand}

abbrev pub is_plain_at : Stand → Trees → Bool
is_plain_at stand trees = is_plain stand.place stand.after_text trees

-- trees that stand where it goes on, if it does
abbrev pub goes_on_at : Option Stand → Trees → Bool
goes_on_at None trees = false
goes_on_at (Some stand) trees = is_plain_at stand trees

-- trees in and after an element, if it may stand there
abbrev pub both_at : Option Around → Trees → Trees → Bool
both_at None kids rest = false
both_at (Some around) kids rest = is_plain_at around.inside kids && is_plain_at around.behind rest

-- whether a text may stand here
abbrev pub takes_here : Stand → List ℕ → Bool
takes_here stand text = not stand.after_text && (is_plain_text text && takes_text (text_kind stand.place) text)

-- whether a comment may
abbrev pub takes_comment_here : Stand → List ℕ → Bool
takes_comment_here stand text = takes_comments stand.place && is_plain_comment text

-- whether a doctype may
abbrev pub opens_here : Stand → List ℕ → List ℕ → List ℕ → Bool
opens_here stand name public_id system_id = is_first stand.place && is_plain_doctype name public_id system_id

-- where it goes on after a text
abbrev pub IsAfterText : Stand → List ℕ → Option Stand → Type 0
IsAfterText stand text behind = (rest : Trees) → is_plain_at stand (Text text rest) ≡ goes_on_at behind rest

-- and after a comment
abbrev pub IsAfterComment : Stand → List ℕ → Option Stand → Type 0
IsAfterComment stand text behind = (rest : Trees) → is_plain_at stand (Comment text rest) ≡ goes_on_at behind rest

-- and after a doctype
abbrev pub IsAfterDoctype : Stand → List ℕ → List ℕ → List ℕ → Option Stand → Type 0
IsAfterDoctype stand name public_id system_id behind = (rest : Trees)
    → is_plain_at stand (Doctype name public_id system_id rest) ≡ goes_on_at behind rest

-- and in and after an element that is no template
abbrev pub IsAround : Stand → QualName → List Attribute → Option Around → Type 0
IsAround stand name attributes around = (kids rest : Trees)
    → is_plain_at stand (Element name attributes false kids rest) ≡ both_at around kids rest

-- where nodes stand in and after an element that may stand here
abbrev pub around_of : Stand → PlainElement → Around
around_of stand k = record {
  inside = record { place = inside stand.place k; after_text = false };
  behind = record { place = place_after_element stand.place; after_text = false };
}

-- trees after others, where no other place is given for them
abbrev pub trees_by : Forest → Option Stand → List ℕ → Trees → Trees
trees_by f None rest behind = trees_before f rest behind
trees_by f (Some stand) rest behind = Nothing

-- the trees that come after those that are judged, up to where another place is given
abbrev pub trees_after : Forest → List Level → Trees
trees_after f [] = Nothing
trees_after f (level ∷ levels) = trees_by f level.behind level.rest (trees_after f levels)

abbrev pub plain_by : Forest → Option Stand → List ℕ → Trees → Bool → Bool
plain_by f None rest behind above = above
plain_by f (Some stand) rest behind above = is_plain_at stand (trees_before f rest behind) && above

-- whether the levels that have another place are plain
abbrev pub are_levels_plain : Forest → List Level → Bool
are_levels_plain f [] = true
are_levels_plain f (level ∷ levels) = plain_by f level.behind level.rest (trees_after f levels) (are_levels_plain f levels)

-- whether all that is left is plain: nodes from a stand on, and the levels that wait, of which the last comes first
abbrev pub is_left_plain : Forest → Stand → List ℕ → List Level → Bool
is_left_plain f stand rest levels = is_plain_at stand (trees_before f rest (trees_after f (reverse levels)))
    && are_levels_plain f (reverse levels)

-- from where some nodes end to where those that waited after them begin, and whether the first may end there
abbrev pub IsAscent : Option Stand → Stand → Stand → Bool → Type 0
IsAscent None old new ends = (new ≡ old) × (ends ≡ true)
IsAscent (Some behind) old new ends = (new ≡ behind) × (ends ≡ may_end old.place)

-- from where a node stands to where the next one does, and whether the first may stand there
abbrev pub GoesOn : Option Stand → Stand → Bool → Type 0
GoesOn None new goes_on = goes_on ≡ false
GoesOn (Some behind) new goes_on = (new ≡ behind) × (goes_on ≡ true)

-- where a walk is: where the next node stands, the nodes that come next, and the levels that wait
abbrev pub Walk : Type 0
Walk = Stand × List ℕ × List Level

-- what comes in a node comes next, and the rest waits
abbrev pub Descends : Forest → ℕ → Option Stand → Walk → Walk → Type 0
Descends f n behind old new = (new.1 ≡ children_of f n) × (new.2 ≡ old.2 ++ record { behind = behind; rest = old.1 } ∷ [])

-- the walk goes on in an element, or ends
abbrev pub IsElementTaken : Forest → ℕ → QualName → List Attribute → Walk → Walk → Bool → Type 0
IsElementTaken f n name attributes old new false = IsAround old.0 name attributes None
IsElementTaken f n name attributes old new true = (behind : Stand)
    × (IsAround old.0 name attributes (Some (record { inside = new.0; behind = behind })) × Descends f n (Some behind) old new)

-- the walk goes on among the children of a node, and then after it
abbrev pub AreChildrenTaken : Forest → ℕ → Walk → Walk → Bool → Type 0
AreChildrenTaken f n old new goes_on = (goes_on ≡ true) × (new.0 ≡ old.0) × Descends f n None old new

-- whether all that is left of a walk is plain
abbrev pub is_walk_plain : Forest → Walk → Bool
is_walk_plain f walk = is_left_plain f walk.0 walk.1 walk.2

abbrev pub waiting_nodes : Forest → List Level → ℕ
waiting_nodes f [] = 0
waiting_nodes f (level ∷ levels) = suc (nodes_in f level.rest + nodes_in f level.rest) + waiting_nodes f levels

-- how much is left of a walk: two for each node, one for each level
abbrev pub nodes_left : Forest → Walk → ℕ
nodes_left f walk = (nodes_in f walk.1 + nodes_in f walk.1) + waiting_nodes f walk.2

-- a node is taken: what was left with it is plain just where it may stand there and what is left is plain, and less is left
pub record IsTaken (f : Forest) (n : ℕ) (old new : Walk) (goes_on : Bool) : Type 0 where
  pub plain : is_walk_plain f (old.0, n ∷ old.1, old.2) ≡ (goes_on && is_walk_plain f new)
  pub less : goes_on ≡ true → nodes_left f new < nodes_left f (old.0, n ∷ old.1, old.2)
