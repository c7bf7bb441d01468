-- What is known of the fields of a construction by what a contract sees.
use Rattle.std.proofs.Common.{◌≡◌, ℕ, Option, Some, None, refl, ap, ◌∷◌, codes}
use Rattle.std.specs.Prelude.{is_some}
use Rattle.markup.specs.Forest.{Forest}
use Rattle.html_rules.specs.Actions.{push_head_elem}
use Rattle.html_rules.specs.Names.{Html}
use Rattle.html_rules.specs.Reset.{reset_insertion_mode}
use Rattle.html_rules.specs.State.{Answers, Open}
use Rattle.html_stack.specs.Stacks.{Stacked}
use Rattle.html_tree_builder.specs.States.{Building, number_if, state_of}

-- a pointer is set where its handle is
pub is_some-number_if : {H : Type 0} (node : H → ℕ) (handle : Option H) → is_some (number_if node handle) ≡ is_some handle
is_some-number_if node None = refl
is_some-number_if node (Some handle) = refl

-- a construction whose mode is the one that is asked for
pub reset-by : (a : Answers) (b c : Building) (f : Forest)
    → c ≡ record b { mode = (reset_insertion_mode (state_of a b f)).mode } → state_of a c f ≡ reset_insertion_mode (state_of a b f)
unfolding reset_insertion_mode
reset-by a b c f e = ap (λ d. state_of a d f) e

-- what an equation says to be equal to something
abbrev pub left_of : {A : Type 0} {x y : A} → x ≡ y → A
left_of {x = x} e = x

-- the head that is opened again
pub pushed-head : (a : Answers) (b : Building) (f : Forest) (n : ℕ) (x : Open) (stack : Stacked)
    → b.head_elem ≡ Some n → x ≡ record { number = n; namespace = Html; name = codes "head"; rules = b.stack.rules }
    → stack ≡ record b.stack { open_elems = x ∷ b.stack.open_elems }
    → state_of a (record b { stack = stack }) f ≡ push_head_elem (state_of a b f)
unfolding push_head_elem
pushed-head a b f n x stack head is pushed = rw (head, pushed, is) refl
