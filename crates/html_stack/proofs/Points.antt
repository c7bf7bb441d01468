-- Where nodes are put, and what stands after it.
use Rattle.std.proofs.Common.{◌≡◌, ◌∙◌, ℕ, ◌<◌, ◌≤◌, Bool, true, false, List, [], ◌∷◌, ◌++◌, Option, Some, None, refl, sym, ap}
use Rattle.std.proofs.Common.{subst, codes, arith, map, reverse, take, drop, length, get_or, suc}
use Rattle.std.specs.Prelude.{◌||◌, ◌&&◌, cond, IfSome}
use Rattle.std.specs.Str.{bytes_eq}
use Rattle.std.proofs.Math.Seq.{take-length}
use Rattle.std.proofs.lemmas.Grind.{reverse_onto}
use Rattle.std.proofs.lemmas.List.{map-append, reverse-append, take-append-drop}
use Rattle.markup.specs.Forest.{Forest, IsLoose, IsNode, IsParent, IsPlace, create_element, node_count, parent_at, parent_of}
use Rattle.markup.specs.Forest.{place_before, place_near}
use Rattle.markup.specs.Named.{IsTree, is_named}
use Rattle.markup.specs.Names.{html_name, html_namespace, is_html_name}
use Rattle.markup.specs.Namespaces.{name_of}
use Rattle.markup.specs.declared.namespaces.KnownNamespace.TheVariants as KnownNamespace
use Rattle.markup.specs.declared.attributes.Attribute.{Attribute}
use Rattle.markup.specs.declared.flags.ElementFlags.{ElementFlags}
use Rattle.html_tokens.specs.declared.tags.Tag.{Tag}
use Rattle.html_names.specs.declared.element_class.ElementClass.{ElementClass}
use Rattle.markup.proofs.Forests.{IsMade-create_element, IsParent-place}
use Rattle.markup.proofs.PutTexts.{IsParent-document, IsParent-element, element-IsNode}
use Rattle.markup.proofs.Trees.{IsPlace-before, IsPlace-near}
use Rattle.html_rules.specs.Names.{Namespace, Html, MathMl, Svg, Other, element_name_of, flags_of, is_html, is_mathml}
use Rattle.html_rules.specs.Names.{mathml_namespace, namespace_of, svg_namespace}
use Rattle.html_rules.specs.Places.{create_root, foster_place, insert_and_pop_element_for, insert_element, insert_element_for}
use Rattle.html_rules.specs.Places.{open_element, place_for, put_element}
use Rattle.html_rules.specs.Sets.{is_among, mathml_names_of, names_in, names_of, svg_names_of}
use Rattle.html_rules.specs.Stack.{number_from, root_number}
use Rattle.html_rules.specs.State.{Entry, Open, State, current_is, current_node, current_number, is_in}
use Rattle.html_rules.specs.declared.rules.Rules.{Rules}
use Rattle.html_rules.specs.declared.rules.Rules.TheVariants.{Html5ever}
use Rattle.html_rules.specs.declared.tag_set.TagSet.TheVariants as set
use Rattle.html_rules_laws.specs.Soundness.{AreOpened, IsOpened, IsOwn, IsStanding}
use Rattle.html_rules_laws.proofs.TreePreserved.Standing.{IsPart, Stays, changed-Standing, gone, opened-Standing, part-opened, part-same}
use Rattle.html_rules_laws.proofs.TreePreserved.StandingTrees.{Made, made-Made, put-Made}
use Rattle.html_stack.specs.Inserting.{IsFor, IsPoint, LeavesStanding, element_for, inserted, opened_as, place_at, with_made, with_put}
use Rattle.html_stack.specs.Stacks.{Stacked, joined, open_of, opens_of}
use Rattle.html_stack.specs.declared.entries.InsertionPoint.{InsertionPoint}
use Rattle.html_stack.specs.declared.entries.InsertionPoint.TheVariants.{LastChild, BeforeSibling, TableFosterParenting}
use Rattle.html_stack.specs.declared.entries.OpenElement.{OpenElement}
use Rattle.html_stack.specs.declared.entries.PushFlag.TheVariants.{Push, NoPush}
use Rattle.html_stack.specs.declared.inserting.new_element.NewElement.{NewElement}
use Rattle.html_stack.proofs.WalksBack.{at}

-- names

or_false : (b : Bool) → (b || false) ≡ b
or_false true = refl
or_false false = refl

-- a template is HTML's, and `annotation-xml` is MathML's
pub template-flag : (namespace : Namespace) (name : List ℕ) → is_among name (names_in namespace set.Template) ≡
    (is_html namespace && bytes_eq name (codes "template"))
unfolding names_of mathml_names_of svg_names_of
template-flag Html name = or_false (bytes_eq name (codes "template"))
template-flag MathMl name = refl
template-flag Svg name = refl
template-flag (Other uri) name = refl

pub annotation-flag : (namespace : Namespace) (name : List ℕ) → is_among name (names_in namespace set.AnnotationXml)
    ≡ (is_mathml namespace && bytes_eq name (codes "annotation-xml"))
unfolding names_of mathml_names_of svg_names_of
annotation-flag Html name = refl
annotation-flag MathMl name = or_false (bytes_eq name (codes "annotation-xml"))
annotation-flag Svg name = refl
annotation-flag (Other uri) name = refl

own-by : (uri : List ℕ) (a b c : Bool) → bytes_eq uri html_namespace ≡ a → IsOwn (cond a Html (cond b MathMl (cond c Svg (Other uri))))
own-by uri true b c e = tt
own-by uri false true c e = tt
own-by uri false false true e = tt
own-by uri false false false e = e

pub own-of : (uri : List ℕ) → IsOwn (namespace_of uri)
own-of uri = own-by uri (bytes_eq uri html_namespace) (bytes_eq uri mathml_namespace) (bytes_eq uri svg_namespace) refl

pub html-back : namespace_of (name_of KnownNamespace.Html) ≡ Html
unfolding name_of html_namespace
html-back = refl

html-name : (namespace : Namespace) (name : List ℕ) → IsOwn namespace
    → (is_html namespace && bytes_eq name (codes "template")) ≡ is_html_name (Some (element_name_of namespace name)) (codes "template")
unfolding html_namespace mathml_namespace svg_namespace
html-name Html name own = refl
html-name MathMl name own = refl
html-name Svg name own = refl
html-name (Other uri) name own = rw own refl

-- an open template is one in the tree
pub template-named : (f : Forest) (x : Open) → IsOpened f x → is_in set.Template x ≡ true → is_named f x.number (codes "template") ≡ true
template-named f x is t = ap (λ o. is_html_name o (codes "template")) is.named
    ∙ (sym (html-name x.namespace x.name is.own) ∙ (sym (template-flag x.namespace x.name) ∙ t))

-- the open elements as they lie

part-behind : (zs ys : List Open) → IsPart ys (zs ++ ys)
part-behind [] ys = part-same ys
part-behind (z ∷ zs) ys = gone z (zs ++ ys) ys (part-behind zs ys)

pub take-part : {H : Type 0} (node : H → ℕ) (xs : List (OpenElement H)) (i : ℕ) → IsPart (opens_of node (take i xs)) (opens_of node xs)
take-part node xs i =
    let e : opens_of node xs ≡ opens_of node (drop i xs) ++ opens_of node (take i xs) =
    sym (ap (λ v. reverse (map (open_of node) v)) (take-append-drop i xs))
    ∙ (ap reverse (map-append (open_of node) (take i xs) (drop i xs))
    ∙ reverse-append (map (open_of node) (take i xs)) (map (open_of node) (drop i xs))) in
    subst (λ ws. IsPart (opens_of node (take i xs)) ws) (sym e) (part-behind (opens_of node (drop i xs)) (opens_of node (take i xs)))

-- one of them, and those that were opened before it
pub opened-at : {H : Type 0} (f : Forest) (node : H → ℕ) (xs : List (OpenElement H)) (i k : ℕ) (x : OpenElement H)
    → AreOpened f (opens_of node xs) → i ≡ suc k → k < length xs → x ≡ get_or xs k x → IsOpened f (open_of node x)
    × AreOpened f (opens_of node (take k xs))
opened-at f node xs i k x h e l here =
    subst (λ ws. AreOpened f ws) (at (open_of node) xs i k x e l here)
    (part-opened f (opens_of node xs) (opens_of node (take i xs)) (take-part node xs i) h)

number-last : (n : ℕ) (xs : List Open) (y : Open) → number_from n (xs ++ y ∷ []) ≡ y.number
number-last n [] y = refl
number-last n (x ∷ xs) y = number-last x.number xs y

-- the root is the first
pub root-first : {H : Type 0} (node : H → ℕ) (x : OpenElement H) (xs : List (OpenElement H))
    → root_number (opens_of node (x ∷ xs)) ≡ node x.handle
root-first node x xs = ap root_number (reverse_onto (map (open_of node) xs) (open_of node x) [])
    ∙ number-last 0 (reverse (map (open_of node) xs)) (open_of node x)

pub root-at : {H : Type 0} (node : H → ℕ) (xs : List (OpenElement H)) (x : OpenElement H) → 0 < length xs
    → node (get_or xs 0 x).handle ≡ root_number (opens_of node xs)
root-at node [] x l = absurd (omega arith)
root-at node (y ∷ ys) x l = sym (root-first node y ys)

pub current-Parent : (f : Forest) (xs : List Open) → IsTree f → AreOpened f xs → IsParent f (current_number xs)
current-Parent f [] tree h = IsParent-document f tree.forest
current-Parent f (x ∷ xs) tree h = IsParent-element f x.number (element_name_of x.namespace x.name) h.0.named

pub opened-IsNode : (f : Forest) (x : Open) → IsOpened f x → IsNode f x.number
opened-IsNode f x is = element-IsNode f x.number (element_name_of x.namespace x.name) is.named

pub opened-IsParent : (f : Forest) (x : Open) → IsOpened f x → IsParent f x.number
opened-IsParent f x is = IsParent-element f x.number (element_name_of x.namespace x.name) is.named

-- points

pub point-Place : {H : Type 0} (node : H → ℕ) (f : Forest) (point : InsertionPoint H) → IsPoint node f point
    → IsPlace f (place_at node f point)
point-Place node f (LastChild parent) h = h
point-Place node f (BeforeSibling sibling) h = IsPlace-before f (node sibling) h
point-Place node f (TableFosterParenting element previous) h = IsPlace-near f (node element) (node previous) h.1

-- the older nodes have their parents
pub place-parents : {H : Type 0} (node : H → ℕ) (f g : Forest) (point : InsertionPoint H)
    → ((n : ℕ) → parent_of g n ≡ parent_of f n) → place_at node g point ≡ place_at node f point
place-parents node f g (LastChild parent) e = refl
place-parents node f g (BeforeSibling sibling) e = ap (λ o. place_before (node sibling) o) (e (node sibling))
place-parents node f g (TableFosterParenting element previous) e = ap (λ o. place_near (node element) (node previous) o) (e (node element))

pub point-stays : {H : Type 0} (node : H → ℕ) (f g : Forest) (point : InsertionPoint H) → Stays f g
    → node_count f ≤ node_count g → ((n : ℕ) → parent_of g n ≡ parent_of f n) → IsPoint node f point → IsPoint node g point
point-stays node f g (LastChild parent) is more e h = is.names.holds (node parent) h
point-stays node f g (BeforeSibling sibling) is more e h = rw (e (node sibling)) h
point-stays node f g (TableFosterParenting element previous) is more e h = let there = h.0 in
    (omega arith, is.names.holds (node previous) h.1)

-- what is known of an element that is made
pub record IsPutAtPoint {H : Type 0} (node : H → ℕ) (point : InsertionPoint H) (f : Forest) (e : NewElement) : Type 0 where
  pub there : node_count f < node_count (with_made f e)
  pub stays : Stays f (with_made f e)
  pub place : IsPoint node (with_made f e) point
  pub loose : IsLoose (with_made f e) (parent_at (place_at node (with_made f e) point)) (node_count f)

pub put-at : {H : Type 0} (node : H → ℕ) (point : InsertionPoint H) (f : Forest) (e : NewElement) → IsTree f
    → IsPoint node f point → IsPutAtPoint node point f e
put-at node point f e tree at =
    let g : Forest = with_made f e in
    let space : Namespace = namespace_of e.namespace in
    let is = IsMade-create_element f (element_name_of space e.name) e.attrs
    (flags_of space e.name e.attrs e.had_duplicate_attributes) tree.forest in
    let made = made-Made Html5ever f space e.name e.attrs e.had_duplicate_attributes [] tree (own-of e.namespace) tt in
    let more : node_count f < node_count g = is.there in
    let parent : IsParent f (parent_at (place_at node f point)) = IsParent-place f (place_at node f point)
    tree.forest (point-Place node f point at) in
    record {
      there = is.there;
      stays = made.stays;
      place = point-stays node f g point made.stays (omega arith) is.parents at;
      loose = is.loose (parent_at (place_at node g point))
          (subst (λ place. parent_at place < node_count f) (sym (place-parents node f g point is.parents)) parent.there);
    }

-- the HTML element of a tag is made with its name, its attributes and the flags that follow from them
pub tag-made : (f g : Forest) (class : ElementClass) (tag : Tag) (flags : ElementFlags) (name : List ℕ) (attributes seen : List Attribute)
    → g ≡ create_element f (html_name name) attributes flags → name ≡ tag.name → attributes ≡ tag.attrs
    → flags ≡ flags_of Html tag.name seen tag.had_duplicate_attributes → g ≡ with_made f (element_for class tag)
tag-made f g class tag flags name attributes seen made named listed flagged = rw (html-back, made, flagged, named, listed) refl

-- and that is put there
pub put-Point : {H : Type 0} (rules : Rules) (node : H → ℕ) (point : InsertionPoint H) (f : Forest) (e : NewElement)
    (xs : List Open) → IsTree f → IsPoint node f point → AreOpened f xs → Made f (with_put node point f e) xs (opened_as rules f e)
put-Point rules node point f e xs tree at h =
    let g : Forest = with_made f e in
    let space : Namespace = namespace_of e.namespace in
    let is = IsMade-create_element f (element_name_of space e.name) e.attrs
    (flags_of space e.name e.attrs e.had_duplicate_attributes) tree.forest in
    let put = put-at node point f e tree at in
    put-Made rules f space e.name e.attrs e.had_duplicate_attributes xs (place_at node g point) tree (own-of e.namespace) h
    (subst (λ place. IsPlace f place) (sym (place-parents node f g point is.parents)) (point-Place node f point at))
    (point-Place node g point put.place)

pub leaves-stays : (f g : Forest) → Stays f g → LeavesStanding f g
leaves-stays f g is xs entries h = changed-Standing f g xs entries is h

pub leaves-made : {H : Type 0} (node : H → ℕ) (point : InsertionPoint H) (f : Forest) (e : NewElement) → IsTree f
    → IsPoint node f point → LeavesStanding f (with_put node point f e)
leaves-made node point f e tree at = leaves-stays f (with_put node point f e) (put-Point Html5ever node point f e [] tree at tt).stays

pub opens-Standing : {H : Type 0} (rules : Rules) (node : H → ℕ) (point : InsertionPoint H) (f : Forest) (e : NewElement)
    (xs : List Open) (entries : List Entry) → IsPoint node f point → IsStanding f xs entries
    → IsStanding (with_put node point f e) (opened_as rules f e ∷ xs) entries
opens-Standing rules node point f e xs entries at is =
    let made = put-Point rules node point f e xs is.tree at is.opened in
    opened-Standing (with_put node point f e) (opened_as rules f e) xs entries made.opened made.clear
    (changed-Standing f (with_put node point f e) xs entries made.stays is)

made-Point : (rules : Rules) (f : Forest) (e : NewElement) (xs : List Open) → IsTree f → AreOpened f xs → Made f (with_made f e) xs (opened_as rules f e)
made-Point rules f e xs tree h = made-Made rules f (namespace_of e.namespace) e.name e.attrs e.had_duplicate_attributes xs tree (own-of e.namespace) h

-- an element that is made, and opened without being put anywhere
pub leaves-new : (f : Forest) (e : NewElement) → IsTree f → LeavesStanding f (with_made f e)
leaves-new f e tree = leaves-stays f (with_made f e) (made-Point Html5ever f e [] tree tt).stays

pub opens-new : (rules : Rules) (f : Forest) (e : NewElement) (xs : List Open) (entries : List Entry) → IsStanding f xs entries
    → IsStanding (with_made f e) (opened_as rules f e ∷ xs) entries
opens-new rules f e xs entries is =
    let made = made-Point rules f e xs is.tree is.opened in
    opened-Standing (with_made f e) (opened_as rules f e) xs entries made.opened made.clear
    (changed-Standing f (with_made f e) xs entries made.stays is)

-- steps

pub open-step : (s : State) (stack stack' : Stacked) (f g : Forest) (e : NewElement) → stack' ≡ record stack
    { open_elems = opened_as stack.rules f e ∷ stack.open_elems } → g ≡ with_made f e
    → joined s stack' g ≡ open_element (namespace_of e.namespace) e.name e.attrs e.had_duplicate_attributes (joined s stack f)
unfolding open_element
open-step s stack stack' f g e opened made = rw (opened, made) refl

pub root-step : {H : Type 0} (node : H → ℕ) (s : State) (stack stack' : Stacked) (f g : Forest) (document : H)
    (attributes : List Attribute) (e : NewElement)
    → IsFor Html (codes "html") attributes false e → node document ≡ 0 → stack' ≡ record stack
    { open_elems = opened_as stack.rules f e ∷ stack.open_elems } → g ≡ with_put node (LastChild document) f e
    → joined s stack' g ≡ create_root attributes (joined s stack f)
unfolding create_root
root-step node s stack stack' f g document attributes e of is opened made =
    rw (opened, made, is, of.in_namespace, of.named, of.with_attributes) refl

pub push-step : {H : Type 0} (node : H → ℕ) (s : State) (stack stack' : Stacked) (f g : Forest) (point : InsertionPoint H) (e : NewElement)
    → place_at node (with_made f e) point ≡ place_for s.foster_parenting (with_made f e) stack.open_elems (current_node stack.open_elems)
    → stack' ≡ record stack { open_elems = opened_as stack.rules f e ∷ stack.open_elems } → g ≡ with_put node point f e
    → joined s stack' g ≡ inserted Push e (joined s stack f)
unfolding insert_element
push-step node s stack stack' f g point e place opened made = rw (opened, made, place) refl

pub put-step : {H : Type 0} (node : H → ℕ) (s : State) (stack : Stacked) (f g : Forest) (point : InsertionPoint H) (e : NewElement)
    → place_at node (with_made f e) point ≡ place_for s.foster_parenting (with_made f e) stack.open_elems (current_node stack.open_elems)
    → g ≡ with_put node point f e → joined s stack g ≡ inserted NoPush e (joined s stack f)
unfolding put_element
put-step node s stack f g point e place made = rw (made, place) refl

pub inserted-for : (space : Namespace) (name : List ℕ) (attributes : List Attribute) (twice : Bool) (e : NewElement)
    (s : State) → IsFor space name attributes twice e → inserted Push e s ≡ insert_element space name attributes twice s
inserted-for space name attributes twice e s is = rw (is.in_namespace, is.named, is.with_attributes, is.had_duplicate_attributes) refl

pub put-for : (space : Namespace) (name : List ℕ) (attributes : List Attribute) (twice : Bool) (e : NewElement)
    (s : State) → IsFor space name attributes twice e → inserted NoPush e s ≡ put_element space name attributes twice s
put-for space name attributes twice e s is = rw (is.in_namespace, is.named, is.with_attributes, is.had_duplicate_attributes) refl

-- the same of the element that a tag makes
pub inserted-tag : (class : ElementClass) (tag : Tag) (s : State) → inserted Push (element_for class tag) s ≡ insert_element_for tag s
inserted-tag class tag s = rw html-back refl

pub put-tag : (class : ElementClass) (tag : Tag) (s : State) → inserted NoPush (element_for class tag) s ≡ insert_and_pop_element_for tag s
put-tag class tag s = rw html-back refl

-- the place of the current node
pub current-at : {H : Type 0} (node : H → ℕ) (xs : List (OpenElement H)) (k : ℕ) (x : OpenElement H)
    → length xs ≡ suc k → x ≡ get_or xs k x → current_node (opens_of node xs) ≡ Some (open_of node x)
current-at node xs k x e here = ap current_node (ap (λ ys. opens_of node ys) (sym (take-length xs))
    ∙ at (open_of node) xs (length xs) k x e (omega (arith, e)) here)

-- where foster parenting is asked for
pub place-fostered : (foster : Bool) (f : Forest) (xs : List Open) (x : Open) → foster ≡ true
    → is_in set.FosterTarget x ≡ true → place_for foster f xs (Some x) ≡ foster_place f (root_number xs) xs
place-fostered foster f xs x on is = rw (on, is) refl

pub current-is-at : {H : Type 0} (node : H → ℕ) (p : Open → Bool) (xs : List (OpenElement H)) (k : ℕ)
    (x : OpenElement H) → length xs ≡ suc k → x ≡ get_or xs k x → current_is p (opens_of node xs) ≡ p (open_of node x)
current-is-at node p xs k x e here = ap (current_is p) (ap (λ ys. opens_of node ys) (sym (take-length xs))
    ∙ at (open_of node) xs (length xs) k x e (omega (arith, e)) here)

-- a form stays a node
pub owner-stays : {H : Type 0} (node : H → ℕ) (f g h : Forest) (owner : Option H) → h ≡ g
    → node_count f ≤ node_count g → IfSome owner (λ form. IsNode f (node form)) → IfSome owner (λ form. IsNode h (node form))
owner-stays node f g h None e more is = tt
owner-stays node f g h (Some form) e more is = let count = ap node_count e in omega arith
