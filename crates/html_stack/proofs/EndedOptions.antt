-- An end tag in the body makes no node.
use Rattle.std.proofs.Common.{◌≡◌, ◌∙◌, ◌<◌, ℕ, Bool, true, false, List, Option, length, ap, refl, subst, sym}
use Rattle.std.specs.Prelude.{IfSome}
use Rattle.markup.specs.Forest.{Forest, IsNode}
use Rattle.html_rules.specs.Choice.{choose}
use Rattle.html_rules.specs.Stack.{expect_to_close, finds_generic, generate_implied_end_except, parse_error, pop_until}
use Rattle.html_rules.specs.Stack.{process_end_tag_in_body}
use Rattle.html_rules.specs.State.{Open, State, current_is, is_named}
use Rattle.html_stack.specs.Stacks.{Stacked, joined}
use Rattle.html_stack.proofs.States.{some_state}

closed-nodes : (p : Open → Bool) (s : State) → (expect_to_close p s).forest.nodes ≡ s.forest.nodes
unfolding expect_to_close pop_until parse_error
closed-nodes p s = by (current_is p s.open_elems) where
  by : (b : Bool) → (choose b (λ _. pop_until p s) (λ _. pop_until p (parse_error s))).forest.nodes ≡ s.forest.nodes
  by true = refl
  by false = refl

end-tag-nodes : (name : List ℕ) (s : State) → (process_end_tag_in_body name s).forest.nodes ≡ s.forest.nodes
unfolding process_end_tag_in_body generate_implied_end_except parse_error
end-tag-nodes name s = by (finds_generic (is_named name) s.open_elems) where
  by : (b : Bool) → (choose b (λ _. expect_to_close (is_named name) (generate_implied_end_except (is_named name) s))
      (λ _. parse_error s)).forest.nodes ≡ s.forest.nodes
  by true = closed-nodes (is_named name) (generate_implied_end_except (is_named name) s)
  by false = refl

-- what was a node is one after the end tag
pub still-node : {A : Type 0} (number : A → ℕ) (o : Option A) (name : List ℕ) (old new : Stacked) (f g : Forest)
    → ((s : State) → joined s new g ≡ process_end_tag_in_body name (joined s old f))
    → IfSome o (λ x. IsNode f (number x)) → IfSome o (λ x. IsNode g (number x))
still-node number o name old new f g made h =
    let same : g.nodes ≡ f.nodes = ap (λ s. s.forest.nodes) (made (some_state false)) ∙ end-tag-nodes name
    (joined (some_state false) old f) in
    subst (λ ns. IfSome o (λ x. number x < length ns)) (sym same) h
