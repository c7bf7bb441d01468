-- What stands after a node that is put somewhere, and is no element.
use Rattle.std.proofs.Common.{◌≡◌, ◌∙◌, ℕ, ◌<◌, List, Some, None, refl, sym, ap, subst, arith}
use Rattle.markup.specs.Forest.{Forest, IsLoose, IsParent, IsPlace, NodeData, add_attributes, element_name, holds_children}
use Rattle.markup.specs.Forest.{node_count, parent_at, Last, put, put_new, put_text, with_node}
use Rattle.markup.specs.Forest.NodeData.{Comment, Doctype}
use Rattle.markup.specs.Named.{IsOrdinary, IsTree}
use Rattle.markup.proofs.Forests.{IsMade, IsMade-with_node, IsParent-place}
use Rattle.markup.proofs.PutTexts.{IsParent-document, element-IsNode}
use Rattle.markup.proofs.Trees.{IsTree-with_node}
use Rattle.markup.proofs.Walks.{Above-grown}
use Rattle.markup.specs.declared.attributes.Attribute.{Attribute}
use Rattle.html_rules.specs.Places.{append_comment, append_comment_to_doc, append_comment_to_html, append_text, place_for}
use Rattle.html_rules.specs.Stack.{add_attributes_to_body, add_attributes_to_root, body_elem, root_number}
use Rattle.html_rules.specs.State.{State, current_node}
use Rattle.html_rules_laws.proofs.TreePreserved.Standing.{Stays}
use Rattle.html_rules_laws.proofs.TreePreserved.StandingTrees.{stays-put_new, stays-text}
use Rattle.html_stack.specs.Inserting.{IsPoint, LeavesStanding, place_at}
use Rattle.html_stack.specs.Stacks.{Stacked, joined}
use Rattle.html_stack.specs.declared.entries.InsertionPoint.{InsertionPoint}
use Rattle.html_stack.specs.declared.entries.InsertionPoint.TheVariants.{LastChild}
use Rattle.html_stack.proofs.Points.{leaves-stays, place-parents, point-Place, point-stays}

stays-made : (f g : Forest) (about : NodeData) → IsTree g → IsMade f g about → Stays f g
stays-made f g about tree is = record {
  tree = tree;
  names = record {
    names = λ n name e. ap element_name (is.same_data n (element-IsNode f n name e)) ∙ e;
    holds = λ n at. record {
      there = let there = at.there in let more = is.grown.more in omega arith;
      holds = ap holds_children (is.same_data n at.there) ∙ at.holds;
    };
  };
  above = λ a n there up. Above-grown f g is.grown a n there up;
}

comment-ordinary : (text : List ℕ) → IsOrdinary (Comment text)
comment-ordinary text = record { contents = refl; template = refl; name = refl }

-- what is known of a comment that is made
pub record IsCommentAt {H : Type 0} (node : H → ℕ) (point : InsertionPoint H) (f : Forest) (text : List ℕ) : Type 0 where
  pub leaves : LeavesStanding f (with_node f (Comment text))
  pub place : IsPoint node (with_node f (Comment text)) point
  pub loose : IsLoose (with_node f (Comment text)) (parent_at (place_at node (with_node f (Comment text)) point)) (node_count f)
  pub put : LeavesStanding f (put (with_node f (Comment text)) (place_at node (with_node f (Comment text)) point) (node_count f))

pub comment-at : {H : Type 0} (node : H → ℕ) (point : InsertionPoint H) (f : Forest) (text : List ℕ) → IsTree f
    → IsPoint node f point → IsCommentAt node point f text
comment-at node point f text tree at =
    let about : NodeData = Comment text in
    let g : Forest = with_node f about in
    let plain = comment-ordinary text in
    let is = IsMade-with_node f about tree.forest plain.contents in
    let stays = stays-made f g about (IsTree-with_node f about tree plain) is in
    let more : node_count f < node_count g = is.there in
    let parent : IsParent f (parent_at (place_at node f point)) = IsParent-place f (place_at node f point)
    tree.forest (point-Place node f point at) in
    let same : place_at node g point ≡ place_at node f point = place-parents node f g point is.parents in
    record {
      leaves = leaves-stays f g stays;
      place = point-stays node f g point stays (omega arith) is.parents at;
      loose = is.loose (parent_at (place_at node g point)) (subst (λ place. parent_at place < node_count f) (sym same) parent.there);
      put = leaves-stays f _ (stays-put_new f (place_at node g point) about tree plain
          (subst (λ place. IsPlace f place) (sym same) (point-Place node f point at)));
    }

pub leaves-text : {H : Type 0} (node : H → ℕ) (point : InsertionPoint H) (f : Forest) (text : List ℕ) → IsTree f
    → IsPoint node f point → LeavesStanding f (put_text f (place_at node f point) text)
leaves-text node point f text tree at = leaves-stays f _ (stays-text f (place_at node f point) text tree (point-Place node f point at))

doctype-ordinary : (name public_id system_id : List ℕ) → IsOrdinary (Doctype name public_id system_id)
doctype-ordinary name public_id system_id = record { contents = refl; template = refl; name = refl }

pub leaves-doctype : (f : Forest) (name public_id system_id : List ℕ) → IsTree f
    → LeavesStanding f (put_new f (Last 0) (Doctype name public_id system_id))
leaves-doctype f name public_id system_id tree =
    leaves-stays f (put_new f (Last 0) (Doctype name public_id system_id))
    (stays-put_new f (Last 0) (Doctype name public_id system_id) tree
    (doctype-ordinary name public_id system_id) (IsParent-document f tree.forest))

-- steps

pub text-step : {H : Type 0} (node : H → ℕ) (s : State) (stack : Stacked) (f g : Forest) (point : InsertionPoint H) (text : List ℕ)
    → place_at node f point ≡ place_for s.foster_parenting f stack.open_elems (current_node stack.open_elems)
    → g ≡ put_text f (place_at node f point) text → joined s stack g ≡ append_text text (joined s stack f)
unfolding append_text
text-step node s stack f g point text place made = rw (made, place) refl

abbrev pub with_comment : {H : Type 0} → (H → ℕ) → InsertionPoint H → Forest → List ℕ → Forest
with_comment node point f text = put (with_node f (Comment text)) (place_at node (with_node f (Comment text)) point) (node_count f)

pub comment-step : {H : Type 0} (node : H → ℕ) (s : State) (stack : Stacked) (f g : Forest) (point : InsertionPoint H) (text : List ℕ)
    → place_at node (with_node f (Comment text)) point ≡ place_for s.foster_parenting (with_node f (Comment text))
    stack.open_elems (current_node stack.open_elems)
    → g ≡ with_comment node point f text → joined s stack g ≡ append_comment text (joined s stack f)
unfolding append_comment
comment-step node s stack f g point text place made = rw (made, place) refl

pub comment_to_doc-step : {H : Type 0} (node : H → ℕ) (s : State) (stack : Stacked) (f g : Forest) (document : H) (text : List ℕ)
    → node document ≡ 0 → g ≡ with_comment node (LastChild document) f text
    → joined s stack g ≡ append_comment_to_doc text (joined s stack f)
unfolding append_comment_to_doc
comment_to_doc-step node s stack f g document text is made = rw (made, is) refl

pub comment_to_html-step : {H : Type 0} (node : H → ℕ) (s : State) (stack : Stacked) (f g : Forest) (root : H) (text : List ℕ)
    → node root ≡ root_number stack.open_elems → g ≡ with_comment node (LastChild root) f text
    → joined s stack g ≡ append_comment_to_html text (joined s stack f)
unfolding append_comment_to_html
comment_to_html-step node s stack f g root text is made = rw (made, is) refl

pub root_attributes-step : (s : State) (stack : Stacked) (f g : Forest) (n : ℕ) (attributes : List Attribute)
    → n ≡ root_number stack.open_elems → g ≡ add_attributes f n attributes
    → joined s stack g ≡ add_attributes_to_root attributes (joined s stack f)
unfolding add_attributes_to_root
root_attributes-step s stack f g n attributes is made = rw (made, is) refl

pub body_attributes-step : (s : State) (stack : Stacked) (f g : Forest) (n : ℕ) (attributes : List Attribute)
    → body_elem stack.open_elems ≡ Some n → g ≡ add_attributes f n attributes
    → joined s stack g ≡ add_attributes_to_body attributes (joined s stack f)
unfolding add_attributes_to_body
body_attributes-step s stack f g n attributes is made = rw (made, is) refl

pub no_body-step : (s : State) (stack : Stacked) (f : Forest) (attributes : List Attribute)
    → body_elem stack.open_elems ≡ None → joined s stack f ≡ add_attributes_to_body attributes (joined s stack f)
unfolding add_attributes_to_body
no_body-step s stack f attributes is = rw is refl
