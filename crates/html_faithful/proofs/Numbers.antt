-- Open elements keep numbers of their own.
use Rattle.std.proofs.Common.{◌≡◌, Option, Some, None, ℕ, ◌≤◌, ◌<◌, Bool, true, false, List, [], ◌∷◌, refl, arith}
use Rattle.std.proofs.lemmas.Bool.Decides.{nat_tests}
use Rattle.std.proofs.lemmas.List.{length-set}
use Rattle.std.specs.Prelude.{◌++◌, ◌==◌, cond, length, nat_eq}
use Rattle.markup.specs.Forest.{Forest, NodeData, Place, children_of, children_with, data_if, joined_text, node_count, parent_at}
use Rattle.markup.specs.Forest.{previous_at, put, put_new}
use Rattle.markup.specs.Forest.{text_of, with_data, with_node}
use Rattle.markup.specs.Forest.NodeData.{Comment, Contents, Element, Text}
use Rattle.markup.specs.declared.attributes.Attribute.{Attribute}
use Rattle.markup.proofs.Parents.{node_count-with_children, node_count-with_node}
use Rattle.html_rules.specs.Names.{Namespace, element_name_of, flags_of}
use Rattle.html_rules.specs.Places.{appropriate_place, insert_element, put_element, with_element}
use Rattle.html_rules.specs.Stack.{is_open}
use Rattle.html_rules.specs.State.{Open, State}
use Rattle.html_tokens.specs.declared.token.Token.{Token}
use Rattle.html_rules.specs.Places.{append_comment, append_comment_to_doc, append_comment_to_html, append_text}
use Rattle.html_rules.specs.Stack.{root_number}
use Rattle.html_rules.specs.Tokens.{text_of as characters_of}
use Rattle.markup.specs.Forest.Place.{Last}
use Rattle.html_faithful.specs.Harmless.{Put}
use Rattle.html_faithful.specs.Harmless as put
use Rattle.html_faithful.specs.Steps.{forest_by, had_duplicates}
use Rattle.html_faithful.specs.Numbers.{AreAllBelow, AreNumbered}

pub below-more : (m k : ℕ) (xs : List Open) → m ≤ k → AreAllBelow m xs → AreAllBelow k xs
below-more m k [] h b = tt
below-more m k (x ∷ xs) h b = (let l : x.number < m = b.0 in omega arith, below-more m k xs h b.1)

not-equal : (n m : ℕ) → n < m → nat_eq n m ≡ false
not-equal n m h = grind (arith, nat_tests)

pub not-open : (m : ℕ) (xs : List Open) → AreAllBelow m xs → is_open m xs ≡ false
not-open m [] b = refl
not-open m (x ∷ xs) b = rw (not-equal x.number m b.0) (not-open m xs b.1)

created-by : (b : Bool) (f : Forest) (about : NodeData) → node_count f < node_count
    (cond b (with_node (with_node f about) Contents) (with_node f about))
created-by true f about =
    let first = node_count-with_node f about in
    let second = node_count-with_node (with_node f about) Contents in
    omega arith
created-by false f about = let first = node_count-with_node f about in omega arith

placed : (f : Forest) (place : Place) (n m : ℕ) → m < node_count f → m < node_count (put f place n)
placed f place n m h =
    let e : node_count (put f place n) ≡ node_count f
    = node_count-with_children f (parent_at place) (children_with place n (children_of f (parent_at place))) in
    omega arith

pub more-nodes : (namespace : Namespace) (name : List ℕ) (attributes : List Attribute) (d : Bool) (s : State)
    → node_count s.forest < node_count (put_element namespace name attributes d s).forest
unfolding put_element
more-nodes namespace name attributes d s =
    let made = with_element s.forest namespace name attributes d in
    let flags = flags_of namespace name attributes d in
    placed made (appropriate_place s made) (node_count s.forest) (node_count s.forest)
    (created-by flags.template s.forest
    (Element (element_name_of namespace name) attributes flags.template flags.mathml_annotation_xml_integration_point))

pub put-numbered : (namespace : Namespace) (name : List ℕ) (attributes : List Attribute) (d : Bool) (s : State) → AreNumbered s
    → AreNumbered (put_element namespace name attributes d s)
unfolding put_element
put-numbered namespace name attributes d s h =
    let l : node_count s.forest < node_count (put_element namespace name attributes d s).forest = more-nodes namespace name attributes
    d s in
    (h.0, below-more (node_count s.forest) (node_count (put_element namespace name attributes d s).forest) s.open_elems (omega arith) h.1)

pub opened-numbered : (namespace : Namespace) (name : List ℕ) (attributes : List Attribute) (d : Bool) (s : State) → AreNumbered s
    → AreNumbered (insert_element namespace name attributes d s)
unfolding put_element insert_element
opened-numbered namespace name attributes d s h =
    let l : node_count s.forest < node_count (put_element namespace name attributes d s).forest = more-nodes namespace name attributes
    d s in
    ((not-open (node_count s.forest) s.open_elems h.1, h.0), (l, (put-numbered namespace name attributes d s h).1))

-- WHATEVER IS PUT

new-node : (f : Forest) (place : Place) (about : NodeData) → node_count f ≤ node_count (put_new f place about)
new-node f place about =
    let first = node_count-with_node f about in
    let l : node_count f < node_count (put_new f place about) = placed (with_node f about) place (node_count f) (node_count f)
    (omega arith) in
    omega arith

same-count : (f : Forest) (n : ℕ) (about : NodeData) → node_count (with_data f n about) ≡ node_count f
same-count f n about = length-set f.nodes n _

joined : (f : Forest) (place : Place) (characters : List ℕ) (o : Option ℕ) (e : Option (List ℕ))
    → node_count f ≤ node_count (joined_text f place characters o e)
joined f place characters (Some n) (Some earlier) =
    let e : node_count (with_data f n (Text (earlier ++ characters))) ≡ node_count f = same-count f n (Text (earlier ++ characters)) in
    omega arith
joined f place characters o e = new-node f place (Text characters)

text-by : (b : Bool) (f g : Forest) → node_count f ≤ node_count g → node_count f ≤ node_count (cond b f g)
text-by true f g h = omega arith
text-by false f g h = h

pub grown : (t : Token) (node : Option Put) (s : State) → node_count s.forest ≤ node_count (forest_by t node s)
unfolding append_text append_comment append_comment_to_doc append_comment_to_html
grown t None s = omega arith
grown t (Some (put.Element namespace name attributes opened)) s =
    let l : node_count s.forest < node_count (put_element namespace name attributes (had_duplicates t) s).forest
    = more-nodes namespace name attributes (had_duplicates t) s in
    omega arith
grown t (Some put.TextHere) s =
    let place = appropriate_place s s.forest in
    let text = characters_of t in
    text-by (length text == 0) s.forest (joined_text s.forest place text (previous_at s.forest place)
    (text_of (data_if s.forest (previous_at s.forest place))))
    (joined s.forest place text (previous_at s.forest place) (text_of (data_if s.forest (previous_at s.forest place))))
grown t (Some put.CommentHere) s =
    new-node s.forest (appropriate_place s (with_node s.forest (Comment (characters_of t)))) (Comment (characters_of t))
grown t (Some put.InRoot) s = new-node s.forest (Last (root_number s.open_elems)) (Comment (characters_of t))
grown t (Some put.InDocument) s = new-node s.forest (Last 0) (Comment (characters_of t))
