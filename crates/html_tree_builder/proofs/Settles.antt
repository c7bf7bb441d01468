-- The turns that settle a token, one after the other.
use Rattle.std.proofs.Common.{◌≡◌, ◌∙◌, ℕ, zero, suc, ◌+◌, ◌*◌, ◌<◌, ◌≤◌, Bool, true, false, List, [], ◌∷◌, length, refl, sym}
use Rattle.std.proofs.Common.{ap, subst, arith}
use Rattle.html_tokens.specs.Sink.{Reply}
use Rattle.html_tokens.specs.declared.replies.TokenSinkResult.TheVariants.{Continue}
use Rattle.html_tokens.specs.declared.token.Token.{Token}
use Rattle.html_rules.specs.Rules.{Ending, Finished, Again, Replied, Settled, check_acknowledged, four_for_each, one_more_turn}
use Rattle.html_rules.specs.Rules.{settle, settled_by, turn, turn_of, within}
use Rattle.html_rules.specs.State.{Open, State}
use Rattle.html_rules_laws.specs.Upright.{MayCome}
use Rattle.html_rules_laws.proofs.Bools.{no}
use Rattle.html_rules_laws.proofs.TreePreserved.Turns.{turn-again}
use Rattle.html_tree_builder.specs.Turns.{most_turns}

-- no turn is left
abbrev pub run_out : State → Settled
run_out s = record { state = s; reply = Continue; turns = 0; is_settled = false }

-- what a token comes to in so many turns
abbrev pub leads : ℕ → Token → State → Settled
leads n t s = within n run_out t s

-- so many turns and more
abbrev more : ℕ → ℕ → ℕ
more zero n = n
more (suc k) n = suc (more k n)

abbrev four_turns : List Open → ℕ
four_turns [] = 0
four_turns (x ∷ xs) = more 4 (four_turns xs)

-- sixteen turns, and four for each of these elements
abbrev pub all_turns : List Open → ℕ
all_turns xs = more 16 (four_turns xs)

-- turns after turns are turns

settled-same : (f g : State → Settled) → ((s : State) → f s ≡ g s) → (e : Ending) (t : Token) (s : State)
    → settled_by f e t s ≡ settled_by g e t s
settled-same f g h (Finished acknowledged) t s = refl
settled-same f g h Again t s = ap one_more_turn (h s)
settled-same f g h (Replied reply) t s = refl

within-more : (k n : ℕ) (t : Token) (beyond : State → Settled) → ((s : State) → beyond s ≡ leads n t s)
    → (s : State) → within k beyond t s ≡ leads (more k n) t s
unfolding within
within-more zero n t beyond h s = h s
within-more (suc k) n t beyond h s = settled-same (within k beyond t) (leads (more k n) t)
    (within-more k n t beyond h) (turn t s).ends t (turn t s).state

four-leads : (xs : List Open) (t : Token) (s : State) → four_for_each xs t s ≡ leads (four_turns xs) t s
unfolding four_for_each within
four-leads [] t s = refl
four-leads (x ∷ xs) t s = within-more 4 (four_turns xs) t (four_for_each xs t) (four-leads xs t) s

settle-leads : (t : Token) (s : State) → settle t s ≡ leads (all_turns s.open_elems) t s
unfolding settle
settle-leads t s = within-more 16 (four_turns s.open_elems) t (four_for_each s.open_elems t) (four-leads s.open_elems t) s

-- a turn more changes nothing where a token is settled

longer : (n : ℕ) (t : Token) (s : State) → (leads n t s).is_settled ≡ true → leads (suc n) t s ≡ leads n t s
unfolding within
longer zero t s h = no h
longer (suc n) t s h = by (turn t s).ends h (longer n t (turn t s).state) where
  by : (e : Ending) → (settled_by (leads n t) e t (turn t s).state).is_settled ≡ true
      → ((leads n t (turn t s).state).is_settled ≡ true → leads (suc n) t (turn t s).state ≡ leads n t (turn t s).state)
      → settled_by (leads (suc n) t) e t (turn t s).state ≡ settled_by (leads n t) e t (turn t s).state
  by (Finished acknowledged) h rest = refl
  by Again h rest = ap one_more_turn (rest h)
  by (Replied reply) h rest = refl

-- a state on the way: in so many turns a token comes from it to this end
pub record IsOnWay (n : ℕ) (t : Token) (end : Settled) (s : State) : Type 0 where
  pub settled : (leads n t s).is_settled ≡ true
  pub state : (leads n t s).state ≡ end.state
  pub reply : (leads n t s).reply ≡ end.reply

pub begins : (t : Token) (s : State) → (settle t s).is_settled ≡ true → IsOnWay (all_turns s.open_elems) t (settle t s) s
begins t s h =
    let e = sym (settle-leads t s) in
    record { settled = ap (λ x. x.is_settled) e ∙ h; state = ap (λ x. x.state) e; reply = ap (λ x. x.reply) e }

-- the first of the turns that are left
first-turn : (n : ℕ) (t : Token) (s r : State) (e : Ending) → turn_of r e ≡ turn t s → leads (suc n) t s ≡ settled_by (leads n t) e t r
unfolding within
first-turn n t s r e made = ap (λ made. settled_by (leads n t) made.ends t made.state) (sym made)

-- the token is taken again, with a turn less

again-settled : (n : ℕ) (t : Token) (s r : State) → turn_of r Again ≡ turn t s
    → (leads (suc n) t s).is_settled ≡ true → leads (suc n) t r ≡ leads n t r
again-settled n t s r made h = longer n t r (ap (λ x. x.is_settled) (sym (first-turn n t s r Again made)) ∙ h)

pub goes-on : (n : ℕ) (t : Token) (end : Settled) (s r : State) → IsOnWay n t end s → turn_of r Again ≡ turn t s → IsOnWay n t end r
unfolding within
goes-on zero t end s r on made = no on.settled
goes-on (suc n) t end s r on made =
    let same = again-settled n t s r made on.settled in
    let first = sym (first-turn n t s r Again made) in
    record {
      settled = ap (λ x. x.is_settled) same ∙ ap (λ x. x.is_settled) first ∙ on.settled;
      state = ap (λ x. x.state) same ∙ ap (λ x. x.state) first ∙ on.state;
      reply = ap (λ x. x.reply) same ∙ ap (λ x. x.reply) first ∙ on.reply;
    }

pub one-turn-less : (n : ℕ) (t : Token) (end : Settled) (s r : State) → IsOnWay n t end s
    → turn_of r Again ≡ turn t s → (leads n t s).turns ≡ suc (leads n t r).turns
unfolding within
one-turn-less zero t end s r on made = no on.settled
one-turn-less (suc n) t end s r on made =
    let same : (leads (suc n) t r).turns ≡ (leads n t r).turns = ap (λ x. x.turns) (again-settled n t s r made on.settled) in
    let first : (leads (suc n) t s).turns ≡ suc (leads n t r).turns = ap (λ x. x.turns) (first-turn n t s r Again made) in
    omega (arith, same, first)

pub fewer : (n : ℕ) (t : Token) (end : Settled) (s r : State) → IsOnWay n t end s → turn_of r Again ≡ turn t s
    → (leads n t r).turns < (leads n t s).turns
fewer n t end s r on made = let less = one-turn-less n t end s r on made in omega (arith, less)

-- and may be taken again
pub comes-again : (t : Token) (s r : State) → MayCome t s → turn_of r Again ≡ turn t s → MayCome t r
comes-again t s r may made = subst (MayCome t) (sym (ap (λ x. x.state) made)) (turn-again t s may (sym (ap (λ x. x.ends) made)))

-- the token is done with, and its self-closing flag was looked at
pub finishes : (n : ℕ) (t : Token) (end : Settled) (s r q : State) (acknowledged : Bool) → IsOnWay n t end s
    → turn_of r (Finished acknowledged) ≡ turn t s → q ≡ check_acknowledged acknowledged t r → (q ≡ end.state) × (Continue ≡ end.reply)
unfolding within
finishes zero t end s r q acknowledged on made checked = no on.settled
finishes (suc n) t end s r q acknowledged on made checked =
    let first = sym (first-turn n t s r (Finished acknowledged) made) in
    (checked ∙ (ap (λ x. x.state) first ∙ on.state), ap (λ x. x.reply) first ∙ on.reply)

-- the token is done with, and this is answered
pub replies : (n : ℕ) (t : Token) (end : Settled) (s r : State) (reply : Reply) → IsOnWay n t end s
    → turn_of r (Replied reply) ≡ turn t s → (r ≡ end.state) × (reply ≡ end.reply)
unfolding within
replies zero t end s r reply on made = no on.settled
replies (suc n) t end s r reply on made =
    let first = sym (first-turn n t s r (Replied reply) made) in
    (ap (λ x. x.state) first ∙ on.state, ap (λ x. x.reply) first ∙ on.reply)

-- turns that are counted: those before, and those that are left, come to the same

pub counted-begins : (t : Token) (s : State) (count : ℕ) → count + (leads (all_turns s.open_elems) t s).turns ≡ count + (settle t s).turns
counted-begins t s count = ap (λ x. count + x.turns) (sym (settle-leads t s))

pub counted-again : (n : ℕ) (t : Token) (end : Settled) (s r : State) (all before now : ℕ) → IsOnWay n t end s
    → turn_of r Again ≡ turn t s → before + (leads n t s).turns ≡ all → now ≡ before + 1 → now + (leads n t r).turns ≡ all
counted-again n t end s r all before now on made h one =
    let less = one-turn-less n t end s r on made in
    omega (arith, less, h, one)

last-turn : (n : ℕ) (t : Token) (s : State) → (leads n t s).is_settled ≡ true → 0 < (leads n t s).turns
unfolding within
last-turn zero t s h = no h
last-turn (suc n) t s h = by (turn t s).ends where
  one : 0 < 1
  one = omega arith

  more-than-none : (m : ℕ) → 0 < suc m
  more-than-none m = omega arith

  by : (e : Ending) → 0 < (settled_by (leads n t) e t (turn t s).state).turns
  by (Finished acknowledged) = one
  by Again = more-than-none (leads n t (turn t s).state).turns
  by (Replied reply) = one

-- one turn more is no more than all
pub counted-most : (n : ℕ) (t : Token) (end : Settled) (s : State) (all before now : ℕ) → IsOnWay n t end s
    → before + (leads n t s).turns ≡ all → now ≡ before + 1 → now ≤ all
counted-most n t end s all before now on h one =
    let some = last-turn n t s on.settled in
    omega (arith, some, h, one)

finished-turn : (n : ℕ) (t : Token) (end : Settled) (s r : State) (acknowledged : Bool) → IsOnWay n t end s
    → turn_of r (Finished acknowledged) ≡ turn t s → (leads n t s).turns ≡ 1
unfolding within
finished-turn zero t end s r acknowledged on made = no on.settled
finished-turn (suc n) t end s r acknowledged on made = ap (λ x. x.turns) (first-turn n t s r (Finished acknowledged) made)

replied-turn : (n : ℕ) (t : Token) (end : Settled) (s r : State) (reply : Reply) → IsOnWay n t end s
    → turn_of r (Replied reply) ≡ turn t s → (leads n t s).turns ≡ 1
unfolding within
replied-turn zero t end s r reply on made = no on.settled
replied-turn (suc n) t end s r reply on made = ap (λ x. x.turns) (first-turn n t s r (Replied reply) made)

-- the last turn is counted

pub counted-finishes : (n : ℕ) (t : Token) (end : Settled) (s r : State) (acknowledged : Bool) (all before now : ℕ)
    → IsOnWay n t end s → turn_of r (Finished acknowledged) ≡ turn t s → before + (leads n t s).turns ≡ all → now ≡ before + 1 → now ≡ all
counted-finishes n t end s r acknowledged all before now on made h one =
    let last = finished-turn n t end s r acknowledged on made in
    omega (arith, last, h, one)

pub counted-replies : (n : ℕ) (t : Token) (end : Settled) (s r : State) (reply : Reply) (all before now : ℕ)
    → IsOnWay n t end s → turn_of r (Replied reply) ≡ turn t s → before + (leads n t s).turns ≡ all → now ≡ before + 1 → now ≡ all
counted-replies n t end s r reply all before now on made h one =
    let last = replied-turn n t end s r reply on made in
    omega (arith, last, h, one)

-- no more than sixteen turns, and four for each open element

leads-most : (n : ℕ) (t : Token) (s : State) → (leads n t s).turns ≤ n
unfolding within
leads-most zero t s = none where
  none : 0 ≤ 0
  none = omega arith
leads-most (suc n) t s = by (turn t s).ends (leads-most n t (turn t s).state) where
  one : 1 ≤ suc n
  one = omega arith

  one-more : (m : ℕ) → m ≤ n → suc m ≤ suc n
  one-more m h = omega (arith, h)

  by : (e : Ending) → (leads n t (turn t s).state).turns ≤ n → (settled_by (leads n t) e t (turn t s).state).turns ≤ suc n
  by (Finished acknowledged) h = one
  by Again h = one-more (leads n t (turn t s).state).turns h
  by (Replied reply) h = one

more-adds : (k n : ℕ) → more k n ≡ k + n
more-adds zero n = same where
  same : n ≡ 0 + n
  same = omega arith
more-adds (suc k) n = one-more (more k n) (more-adds k n) where
  one-more : (m : ℕ) → m ≡ k + n → suc m ≡ suc k + n
  one-more m h = omega (arith, h)

four-turns : (xs : List Open) → four_turns xs ≡ 4 * length xs
four-turns [] = refl
four-turns (x ∷ xs) = let adds = more-adds 4 (four_turns xs) in let rest = four-turns xs in omega (arith, adds, rest)

pub settle-most : (t : Token) (s : State) → (settle t s).turns ≤ most_turns s.open_elems
settle-most t s =
    let same = ap (λ x. x.turns) (settle-leads t s) in
    let most = leads-most (all_turns s.open_elems) t s in
    let adds = more-adds 16 (four_turns s.open_elems) in
    let four = four-turns s.open_elems in
    omega (arith, same, most, adds, four)

pub at-most : (t : Token) (s : State) (before now : ℕ) → now ≤ before + (settle t s).turns → now ≤ before + most_turns s.open_elems
at-most t s before now h = let most = settle-most t s in omega (arith, most, h)
