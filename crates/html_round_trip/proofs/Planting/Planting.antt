-- Planted trees are shown, and nothing else changes.
use Rattle.std.proofs.Common.{◌≡◌, ◌≢◌, ◌==◌, ℕ, ◌+◌, ◌≤◌, ◌<◌, Bool, true, false, List, [], ◌∷◌, ◌++◌, length, Option, Some}
use Rattle.std.proofs.Common.{None, refl, ap, ◌∙◌, arith, append_assoc, append-nil}
use Rattle.std.proofs.lemmas.Bool.Decides.{nat_tests}
use Rattle.markup.specs.Forest as forest
use Rattle.markup.specs.Forest.{Forest, IsParent, NodeData, children_of, data_if, data_of, holds_children, joined_text, last_of}
use Rattle.markup.specs.Forest.{node_count, put_new, put_text, text_of, with_node}
use Rattle.markup.specs.Forest.Place.{Last}
use Rattle.markup.specs.Named.{IsOrdinary, IsTree}
use Rattle.markup.specs.TreeLaws.{LeavesErrors}
use Rattle.markup.specs.Trees.{Trees, Nothing, Text, Comment, ProcessingInstruction, Doctype, Element}
use Rattle.markup.proofs.ErrorsApart.{errors-apart}
use Rattle.markup.proofs.Parents.{children_of-past, children_of-with_children, children_of-with_children_other}
use Rattle.markup.proofs.Parents.{children_of-with_node, data_of-with_children, data_of-with_node_new, data_of-with_node_old}
use Rattle.markup.proofs.Parents.{node_count-with_children, node_count-with_node}
use Rattle.markup.proofs.PutTexts.{IsTexted, IsTexted-put_new, IsTexted-put_text, KeepsNames-texted}
use Rattle.markup.proofs.TemplateContents.{HasContents-put_text}
use Rattle.markup.proofs.Trees.{IsTree-put_new}
use Rattle.html_round_trip.specs.Planting.Planted.{ArePlantable, EndsInNoText, IsNew, IsPlanted, Shows, planted}
use Rattle.html_round_trip.proofs.Planting.Shown.{shows-stays}

-- ONE NEW NODE

-- from f to g one node came, last in p
record IsPutLast (f g : Forest) (p : ℕ) (about : NodeData) : Type 0 where
  children : children_of g p ≡ children_of f p ++ node_count f ∷ []
  is : data_of g (node_count f) ≡ about
  empty : children_of g (node_count f) ≡ []
  same_data : (n : ℕ) → n < node_count f → data_of g n ≡ data_of f n
  others : (n : ℕ) → n < node_count f → n ≢ p → children_of g n ≡ children_of f n
  count : node_count g ≡ node_count f + 1

put-last : (f : Forest) (p : ℕ) (about : NodeData) → p < node_count f → IsPutLast f (put_new f (Last p) about) p about
put-last f p about there =
    let made = with_node f about in
    let cs = children_of made p ++ node_count f ∷ [] in
    let one = node_count-with_node f about in
    record {
      children = children_of-with_children made p cs (omega arith) ∙ ap (λ (l : List ℕ). l ++ node_count f ∷ [])
          (children_of-with_node f about p);
      is = data_of-with_children made p (node_count f) cs ∙ data_of-with_node_new f about;
      empty = children_of-with_children_other made p (node_count f) cs (omega arith)
          ∙ (children_of-with_node f about (node_count f) ∙ children_of-past f (node_count f) (omega arith));
      same_data = λ n less. data_of-with_children made p n cs ∙ data_of-with_node_old f about n less;
      others = λ n less other. children_of-with_children_other made p n cs other ∙ children_of-with_node f about n;
      count = node_count-with_children made p cs ∙ one;
    }

-- text after no text is a new node
joined-none : (f : Forest) (p : ℕ) (t : List ℕ) (o : Option ℕ) (earlier : Option (List ℕ)) → earlier ≡ None
    → joined_text f (Last p) t o earlier ≡ put_new f (Last p) (forest.NodeData.Text t)
joined-none f p t None earlier e = refl
joined-none f p t (Some n) None e = refl
joined-none f p t (Some n) (Some earlier) e = absurd (cc)

text-put : (f : Forest) (p : ℕ) (t : List ℕ) → t ≢ [] → EndsInNoText f p → put_text f (Last p) t ≡ put_new f
    (Last p) (forest.NodeData.Text t)
text-put f p [] some ends = absurd (some refl)
text-put f p (c ∷ t) some ends =
    let full : (length (c ∷ t) == 0) ≡ false = grind (arith, nat_tests) in
    rw full (joined-none f p (c ∷ t) _ _ ends)

last-of : (ns : List ℕ) (n : ℕ) → last_of (ns ++ n ∷ []) ≡ Some n
last-of [] n = refl
last-of (m ∷ []) n = refl
last-of (m ∷ k ∷ ns) n = last-of (k ∷ ns) n

-- a node that is no text ends its parent in no text
ends-new : (f g : Forest) (p : ℕ) (about : NodeData) → IsPutLast f g p about → text_of about ≡ None → EndsInNoText g p
ends-new f g p about put plain = ap (λ (ns : List ℕ). text_of (data_if g (last_of ns))) put.children
    ∙ (ap (λ (o : Option ℕ). text_of (data_if g o)) (last-of (children_of f p) (node_count f)) ∙ (ap text_of put.is ∙ plain))

-- TREES AFTER A NODE

-- one node came, and then trees
kept-behind : (f g h : Forest) (p : ℕ) (about : NodeData) (roots : List ℕ) (rest : Trees) → IsParent f p
    → IsPutLast f g p about → IsPlanted g h p roots rest → IsNew (node_count f) h (node_count f) about
kept-behind f g h p about roots rest at put more =
    let count = put.count in
    let longer = more.more in
    record { late = omega arith; there = omega arith; is = more.same_data (node_count f) (omega arith) ∙ put.is }

record IsGrown (f h : Forest) (p : ℕ) (roots : List ℕ) : Type 0 where
  children : children_of h p ≡ children_of f p ++ roots
  same_data : (n : ℕ) → n < node_count f → data_of h n ≡ data_of f n
  others : (n : ℕ) → n < node_count f → n ≢ p → children_of h n ≡ children_of f n
  more : node_count f ≤ node_count h

grown-leaf : (f g h : Forest) (p : ℕ) (about : NodeData) (roots : List ℕ) (rest : Trees) → IsParent f p
    → IsPutLast f g p about → IsPlanted g h p roots rest → IsGrown f h p (node_count f ∷ roots)
grown-leaf f g h p about roots rest at put more =
    let count = put.count in
    let longer = more.more in
    record {
      children = more.children ∙ (ap (λ (l : List ℕ). l ++ roots) put.children ∙ append_assoc (children_of f p) (node_count f ∷ []) roots);
      same_data = λ n less. more.same_data n (omega arith) ∙ put.same_data n less;
      others = λ n less other. more.others n (omega arith) other ∙ put.others n less other;
      more = omega arith;
    }

planted-by : (f h : Forest) (p : ℕ) (roots : List ℕ) (trees : Trees) → IsGrown f h p roots
    → Shows (node_count f) h roots trees → IsPlanted f h p roots trees
planted-by f h p roots trees grown shows = record {
  children = grown.children;
  shows = shows;
  same_data = grown.same_data;
  others = grown.others;
  more = grown.more;
}

-- the trees after a node are among the new ones too
shows-behind : (f g h : Forest) (p : ℕ) (about : NodeData) (roots : List ℕ) (rest : Trees) → IsPutLast f g p about
    → IsPlanted g h p roots rest → Shows (node_count f) h roots rest
shows-behind f g h p about roots rest put more =
    let count = put.count in
    shows-stays (node_count g) (node_count f) h h roots rest (omega arith)
    (record { same_data = λ n late less. refl; children = λ n late less. refl; more = omega arith }) more.shows

-- an element with its children came, and then trees
grown-element : (f g k h : Forest) (p : ℕ) (about : NodeData) (inner roots : List ℕ) (kids rest : Trees)
    → IsParent f p → IsPutLast f g p about → IsPlanted g k (node_count f) inner kids → IsPlanted k h p roots rest
    → IsGrown f h p (node_count f ∷ roots)
grown-element f g k h p about inner roots kids rest at put within more =
    let there = at.there in
    let count = put.count in
    let l₁ = within.more in
    let l₂ = more.more in
    record {
      children = more.children ∙ (ap (λ (l : List ℕ). l ++ roots) (within.others p (omega arith) (omega arith)
          ∙ put.children) ∙ append_assoc (children_of f p) (node_count f ∷ []) roots);
      same_data = λ n less. more.same_data n (omega arith) ∙ (within.same_data n (omega arith) ∙ put.same_data n less);
      others = λ n less other. more.others n (omega arith) other ∙ (within.others n (omega arith) (omega arith) ∙ put.others n less other);
      more = omega arith;
    }

kids-shown : (f g k h : Forest) (p : ℕ) (about : NodeData) (inner roots : List ℕ) (kids rest : Trees) → IsParent f p
    → IsPutLast f g p about → IsPlanted g k (node_count f) inner kids → IsPlanted k h p roots rest
    → Shows (node_count f) h (children_of h (node_count f)) kids
kids-shown f g k h p about inner roots kids rest at put within more =
    let there = at.there in
    let count = put.count in
    let l₁ = within.more in
    let listed : children_of h (node_count f) ≡ inner = more.others (node_count f) (omega arith) (omega arith)
    ∙ (within.children ∙ ap (λ (l : List ℕ). l ++ inner) put.empty) in
    rw listed
    (shows-stays (node_count g) (node_count f) k h inner kids (omega arith)
    (record {
      same_data = λ n late less. more.same_data n less;
      children = λ n late less. more.others n less (omega arith);
      more = more.more;
    }) within.shows)

element-new : (f g k h : Forest) (p : ℕ) (about : NodeData) (inner roots : List ℕ) (kids rest : Trees)
    → IsPutLast f g p about → IsPlanted g k (node_count f) inner kids → IsPlanted k h p roots rest
    → IsNew (node_count f) h (node_count f) about
element-new f g k h p about inner roots kids rest put within more =
    let count = put.count in
    let l₁ = within.more in
    let l₂ = more.more in
    record {
      late = omega arith;
      there = omega arith;
      is = more.same_data (node_count f) (omega arith)
          ∙ (within.same_data (node_count f) (omega arith) ∙ put.is);
    }

rest-shown : (f g k h : Forest) (p : ℕ) (about : NodeData) (inner roots : List ℕ) (kids rest : Trees)
    → IsPutLast f g p about → IsPlanted g k (node_count f) inner kids → IsPlanted k h p roots rest → Shows (node_count f) h roots rest
rest-shown f g k h p about inner roots kids rest put within more =
    let count = put.count in
    let l₁ = within.more in
    shows-stays (node_count k) (node_count f) h h roots rest (omega arith)
    (record { same_data = λ n late less. refl; children = λ n late less. refl; more = omega arith }) more.shows

-- a parent that keeps its data is one
parent-kept : (f g : Forest) (q : ℕ) → node_count f ≤ node_count g → data_of g q ≡ data_of f q → IsParent f q → IsParent g q
parent-kept f g q more same at = record { there = let there = at.there in omega arith; holds = ap holds_children same ∙ at.holds }

ends-kept : (f g : Forest) (p n : ℕ) (about : NodeData) → children_of g p ≡ children_of f p ++ n ∷
    [] → data_of g n ≡ about → text_of about ≡ None → EndsInNoText g p
ends-kept f g p n about listed is plain = ap (λ (ns : List ℕ). text_of (data_if g (last_of ns))) listed
    ∙ (ap (λ (o : Option ℕ). text_of (data_if g o)) (last-of (children_of f p) n) ∙ (ap text_of is ∙ plain))

pub planted-alone : (trees : Trees) (p : ℕ) (f : Forest) (after_text : Bool) → IsParent f p
    → ArePlantable after_text trees → (after_text ≡ false → EndsInNoText f p) → (roots : List ℕ)
    × IsPlanted f (planted trees p f) p roots trees
planted-alone Nothing p f after_text at ok ends = (
  [],
  record {
    children = rw append-nil refl;
    shows = tt;
    same_data = λ n less. refl;
    others = λ n less other. refl;
    more = omega arith;
  },
)
planted-alone (Text text rest) p f after_text at ok ends =
    let g = put_new f (Last p) (forest.NodeData.Text text) in
    let put = put-last f p (forest.NodeData.Text text) at.there in
    let count = put.count in
    let more = planted-alone rest p g true (parent-kept f g p (omega arith) (put.same_data p at.there) at) ok.2 (λ e. absurd (cc)) in
    let h = planted rest p g in
    let roots = more.0 in
    let done : IsPlanted f h p (node_count f ∷ roots) (Text text rest) =
    planted-by f h p (node_count f ∷ roots) (Text text rest) (grown-leaf f g h p _ roots rest at put more.1)
    (kept-behind f g h p _ roots rest at put more.1, shows-behind f g h p _ roots rest put more.1) in
    rw (text-put f p text ok.1 (ends ok.0)) (node_count f ∷ roots, done)
planted-alone (Comment text rest) p f after_text at ok ends =
    let about = forest.NodeData.Comment text in
    let g = put_new f (Last p) about in
    let put = put-last f p about at.there in
    let count = put.count in
    let more = planted-alone rest p g false (parent-kept f g p (omega arith) (put.same_data p at.there) at) ok
    (λ e. ends-new f g p about put refl) in (
      node_count f ∷ more.0,
      planted-by f _ p (node_count f ∷ more.0) _
          (grown-leaf f g _ p about more.0 rest at put more.1) (
            kept-behind f g _ p about more.0 rest at put more.1,
            shows-behind f g _ p about more.0 rest put more.1,
          ),
    )
planted-alone (ProcessingInstruction target text rest) p f after_text at ok ends =
    let about = forest.NodeData.ProcessingInstruction target text in
    let g = put_new f (Last p) about in
    let put = put-last f p about at.there in
    let count = put.count in
    let more = planted-alone rest p g false (parent-kept f g p (omega arith) (put.same_data p at.there) at) ok
    (λ e. ends-new f g p about put refl) in (
      node_count f ∷ more.0,
      planted-by f _ p (node_count f ∷ more.0) _
          (grown-leaf f g _ p about more.0 rest at put more.1) (
            kept-behind f g _ p about more.0 rest at put more.1,
            shows-behind f g _ p about more.0 rest put more.1,
          ),
    )
planted-alone (Doctype name public_id system_id rest) p f after_text at ok ends =
    let about = forest.NodeData.Doctype name public_id system_id in
    let g = put_new f (Last p) about in
    let put = put-last f p about at.there in
    let count = put.count in
    let more = planted-alone rest p g false (parent-kept f g p (omega arith) (put.same_data p at.there) at) ok
    (λ e. ends-new f g p about put refl) in (
      node_count f ∷ more.0,
      planted-by f _ p (node_count f ∷ more.0) _
          (grown-leaf f g _ p about more.0 rest at put more.1) (
            kept-behind f g _ p about more.0 rest at put more.1,
            shows-behind f g _ p about more.0 rest put more.1,
          ),
    )
planted-alone (Element name attributes template kids rest) p f after_text at ok ends =
    let about = forest.NodeData.Element name attributes template false in
    let g = put_new f (Last p) about in
    let put = put-last f p about at.there in
    let there = at.there in
    let count = put.count in
    let k = planted kids (node_count f) g in
    let here : IsParent g (node_count f) = record { there = omega arith; holds = ap holds_children put.is } in
    let within = planted-alone kids (node_count f) g false here ok.2
    (λ e. ap (λ (ns : List ℕ). text_of (data_if g (last_of ns))) put.empty) in
    let l₁ = within.1.more in
    let still : data_of k p ≡ data_of f p = within.1.same_data p (omega arith) ∙ put.same_data p there in
    let ends' = ends-kept f k p (node_count f) about (within.1.others p (omega arith) (omega arith) ∙ put.children)
    (within.1.same_data (node_count f) (omega arith) ∙ put.is) refl in
    let more = planted-alone rest p k false (parent-kept f k p (omega arith) still at) ok.3 (λ e. ends') in (
      node_count f ∷ more.0,
      planted-by f _ p (node_count f ∷ more.0) _ (grown-element f g k _ p about within.0 more.0 kids rest at put within.1 more.1) (
        element-new f g k _ p about within.0 more.0 kids rest put within.1 more.1,
        kids-shown f g k _ p about within.0 more.0 kids rest at put within.1 more.1,
        rest-shown f g k _ p about within.0 more.0 kids rest put within.1 more.1,
      ),
    )

-- WHAT PLANTING KEEPS

-- a tree, in which what could hold others still can
pub record IsKeptTree (f g : Forest) : Type 0 where
  pub tree : IsTree g
  pub parents : (q : ℕ) → IsParent f q → IsParent g q
  pub more : node_count f ≤ node_count g

keeps-texted : (f g : Forest) → IsTree g → IsTexted f g → IsKeptTree f g
keeps-texted f g tree texted = record { tree = tree; parents = (KeepsNames-texted f g texted).holds; more = texted.grown.more }

keeps-trans : (f g h : Forest) → IsKeptTree f g → IsKeptTree g h → IsKeptTree f h
keeps-trans f g h a b = record {
  tree = b.tree;
  parents = λ q at. b.parents q (a.parents q at);
  more = let l = a.more in let m = b.more in omega arith;
}

pub text-keeps : (f : Forest) (p : ℕ) (t : List ℕ) → IsTree f → IsParent f p → IsKeptTree f (put_text f (Last p) t)
text-keeps f p t tree at = keeps-texted f (put_text f (Last p) t)
    (record { forest = texted.is; contents = HasContents-put_text f (Last p) t tree.contents }) texted where
      texted : IsTexted f (put_text f (Last p) t)
      texted = IsTexted-put_text f (Last p) t tree.forest at

pub new-keeps : (f : Forest) (p : ℕ) (about : NodeData) → IsTree f → IsParent f p → IsOrdinary about
    → IsKeptTree f (put_new f (Last p) about)
new-keeps f p about tree at plain = keeps-texted f (put_new f (Last p) about)
    (IsTree-put_new f (Last p) about tree plain at) (IsTexted-put_new f (Last p) about tree.forest plain.contents at)

pub new-parent : (f : Forest) (p : ℕ) (about : NodeData) → IsParent f p → holds_children about ≡ true
    → IsParent (put_new f (Last p) about) (node_count f)
new-parent f p about at holds = let put = put-last f p about at.there in
    record { there = let count = put.count in omega arith; holds = ap holds_children put.is ∙ holds }

pub planted-keeps : (trees : Trees) (p : ℕ) (f : Forest) (after_text : Bool) → IsTree f → IsParent f p
    → ArePlantable after_text trees → IsKeptTree f (planted trees p f)
planted-keeps Nothing p f after_text tree at ok = record { tree = tree; parents = λ q at. at; more = omega arith }
planted-keeps (Text text rest) p f after_text tree at ok =
    let one = text-keeps f p text tree at in
    keeps-trans f _ _ one (planted-keeps rest p _ true one.tree (one.parents p at) ok.2)
planted-keeps (Comment text rest) p f after_text tree at ok =
    let one = new-keeps f p (forest.NodeData.Comment text) tree at (record { contents = refl; template = refl; name = refl }) in
    keeps-trans f _ _ one (planted-keeps rest p _ false one.tree (one.parents p at) ok)
planted-keeps (ProcessingInstruction target text rest) p f after_text tree at ok =
    let one = new-keeps f p (forest.NodeData.ProcessingInstruction target text) tree at
    (record { contents = refl; template = refl; name = refl }) in
    keeps-trans f _ _ one (planted-keeps rest p _ false one.tree (one.parents p at) ok)
planted-keeps (Doctype name public_id system_id rest) p f after_text tree at ok =
    let one = new-keeps f p (forest.NodeData.Doctype name public_id system_id) tree at
    (record { contents = refl; template = refl; name = refl }) in
    keeps-trans f _ _ one (planted-keeps rest p _ false one.tree (one.parents p at) ok)
planted-keeps (Element name attributes template kids rest) p f after_text tree at ok =
    let about = forest.NodeData.Element name attributes template false in
    let one = new-keeps f p about tree at (record { contents = refl; template = ok.0; name = ok.1 }) in
    let two = planted-keeps kids (node_count f) _ false one.tree (new-parent f p about at refl) ok.2 in
    keeps-trans f _ _ one (keeps-trans _ _ _ two (planted-keeps rest p _ false two.tree (two.parents p (one.parents p at)) ok.3))

-- ERRORS

errors-then : (change more : Forest → Forest) → LeavesErrors change → LeavesErrors more → LeavesErrors (λ f. more (change f))
errors-then change more a b f = ((b (change f)).0 ∙ (a f).0, λ n. ap more ((a f).1 n) ∙ (b (change f)).1 n)

pub planted-errors : (trees : Trees) (p : ℕ) → LeavesErrors (λ f. planted trees p f)
planted-errors Nothing p f = (refl, λ n. refl)
planted-errors (Text text rest) p f = errors-then (λ f. put_text f (Last p) text) (λ f. planted rest p f)
    (errors-apart.texted (Last p) text) (planted-errors rest p) f
planted-errors (Comment text rest) p f = errors-then (λ f. put_new f (Last p) (forest.NodeData.Comment text))
    (λ f. planted rest p f) (errors-apart.put_new (Last p) (forest.NodeData.Comment text)) (planted-errors rest p) f
planted-errors (ProcessingInstruction target text rest) p f =
    errors-then (λ f. put_new f (Last p) (forest.NodeData.ProcessingInstruction target text))
    (λ f. planted rest p f) (errors-apart.put_new (Last p) (forest.NodeData.ProcessingInstruction target text)) (planted-errors rest p) f
planted-errors (Doctype name public_id system_id rest) p f =
    errors-then (λ f. put_new f (Last p) (forest.NodeData.Doctype name public_id system_id)) (λ f. planted rest p f)
    (errors-apart.put_new (Last p) (forest.NodeData.Doctype name public_id system_id)) (planted-errors rest p) f
planted-errors (Element name attributes template kids rest) p f =
    let about = forest.NodeData.Element name attributes template false in
    errors-then (λ f. put_new f (Last p) about) (λ g. planted rest p (planted kids (node_count f) g)) (errors-apart.put_new (Last p) about)
    (errors-then (λ g. planted kids (node_count f) g) (λ g. planted rest p g) (planted-errors kids (node_count f))
    (planted-errors rest p)) f
