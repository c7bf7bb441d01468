-- Whether a frameset may come, and the form element pointer, as steps leave them.
use Rattle.std.proofs.Common.{◌≡◌, ◌∙◌, ℕ, Bool, true, List, Option, Some, None, refl}
use Rattle.std.proofs.lemmas.Bool.{and_parts}
use Rattle.markup.specs.Forest.{Forest}
use Rattle.markup.specs.declared.attributes.Attribute.{Attribute}
use Rattle.html_rules.specs.Actions.{frameset_not_ok_unless_white}
use Rattle.html_rules.specs.Adoption.{adopt_from}
use Rattle.html_rules.specs.Formatting.{Listed}
use Rattle.html_rules.specs.Places.{append_text, insert_element, open_element, put_element}
use Rattle.html_rules.specs.Stack.{add_attributes_to, parse_error, remove_if}
use Rattle.html_rules.specs.State.{Open, Entry, State}
use Rattle.html_rules.specs.Tokens.{is_white}
use Rattle.html_rules_laws.proofs.Frames.KeptBySteps.{IsKeptBySteps}

-- a frameset comes only where it might before, and the form element pointer is as it was
pub record IsFramed (s r : State) : Type 0 where
  pub framed : r.frameset_ok ≡ true → s.frameset_ok ≡ true
  pub form : r.form_elem ≡ s.form_elem

pub same : (s : State) → IsFramed s s
same s = record { framed = λ e. e; form = refl }

-- another tree, other open elements, another list
pub other : (s : State) (f : Forest) (xs : List Open) (entries : List Entry) (foster : Bool)
    → IsFramed s (record s { forest = f; open_elems = xs; active_formatting = entries; foster_parenting = foster })
other s f xs entries foster = record { framed = λ e. e; form = refl }

pub after : (s r q : State) → IsFramed s r → IsFramed r q → IsFramed s q
after s r q h k = record { framed = λ e. h.framed (k.framed e); form = k.form ∙ h.form }

from-framed : (fe : Listed) (o : Option Open) (s : State) → IsFramed s (adopt_from fe o s).state
from-framed fe None s = other s _ _ _ _
from-framed fe (Some block) s = other s _ _ _ _

body-framed : (o : Option ℕ) (attributes : List Attribute) (s : State) → IsFramed s (add_attributes_to o attributes s)
body-framed None attributes s = same s
body-framed (Some n) attributes s = other s _ _ _ _

remove_if-framed : (o : Option ℕ) (s : State) → IsFramed s (remove_if o s)
remove_if-framed None s = same s
remove_if-framed (Some n) s = other s _ _ _ _

pub framed_kept : IsKeptBySteps IsFramed
unfolding parse_error append_text put_element insert_element open_element frameset_not_ok_unless_white
framed_kept = record {
  same = same;
  after = after;
  stacks = λ s xs entries foster. other s _ xs entries foster;
  framesets = λ text s. record { framed = λ e. (and_parts s.frameset_ok (is_white text) e).0; form = refl };
  errs = λ s. other s _ _ _ _;
  texts = λ text s. other s _ _ _ _;
  puts = λ namespace name attributes dup s. other s _ _ _ _;
  inserts = λ namespace name attributes dup s. other s _ _ _ _;
  opens = λ namespace name attributes dup s. other s _ _ _ _;
  adopts = from-framed;
  adds = body-framed;
  removes = remove_if-framed;
}
