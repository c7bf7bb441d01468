-- Text put at a place in two pieces is as in one.
use Rattle.std.proofs.Common.{◌≡◌, ◌≢◌, ℕ, ◌<◌, ◌==◌, ◌∙◌, zero, suc, refl, sym, ap, arith, true, false, cond, length, List, []}
use Rattle.std.proofs.Common.{◌∷◌, ◌++◌, Option, Some, None, append_assoc, append-nil, set, inl, inr}
use Rattle.std.proofs.lemmas.List.{set-set}
use Rattle.std.proofs.lemmas.Bool.{cases_Bool}
use Rattle.std.proofs.lemmas.Bool.Decides.{nat_tests}
use Rattle.markup.specs.Forest.{Forest, Node, NodeData, IsForest, IsPlace, Place, node_count, data_of, children_of}
use Rattle.markup.specs.Forest.{children_with, data_if, is_among, joined_text, last_of, parent_at, previous_at, previous_in}
use Rattle.markup.specs.Forest.{put_before, put_new, put_text, text_of, those_before, with_data, with_node}
use Rattle.markup.specs.Forest.NodeData.{Text}
use Rattle.markup.specs.Forest.Place.{Last, Before}
use Rattle.markup.proofs.Forests.{IsParent-place}
use Rattle.markup.proofs.Parents.{children_of-past, children_of-with_data, children_of-with_node, data_of-with_data}
use Rattle.markup.proofs.Parents.{data_of-with_node_old, is_among-parent}
use Rattle.markup.proofs.PutTexts.{IsPutNew-put_new, text-IsNode}
use Rattle.markup.specs.TreeLaws.{AreTextsJoined}

set-last : {A : Type 0} (ns : List A) (x z : A) → set (ns ++ x ∷ []) (length ns) z ≡ ns ++ z ∷ []
set-last [] x z = refl
set-last (n ∷ ns) x z = ap (λ (l : List _). n ∷ l) (set-last ns x z)

-- the last item is set, though an earlier one was
set-past : {A : Type 0} (ns : List A) (x z y : A) (p : ℕ) → p < length ns → set (set (ns ++ x ∷ []) p y)
    (length ns) z ≡ set (ns ++ z ∷ []) p y
set-past [] x z y p lt = absurd (omega arith)
set-past (n ∷ ns) x z y zero lt = ap (λ (l : List _). y ∷ l) (set-last ns x z)
set-past (n ∷ ns) x z y (suc p) lt = ap (λ (l : List _). n ∷ l) (set-past ns x z y p (omega arith))

last_of-push : (ns : List ℕ) (m : ℕ) → last_of (ns ++ m ∷ []) ≡ Some m
last_of-push [] m = refl
last_of-push (n ∷ []) m = refl
last_of-push (n ∷ k ∷ ns) m = last_of-push (k ∷ ns) m

-- before a sibling stand those that stood there, and what was put
those_before-put : (m s : ℕ) (ns : List ℕ) → m ≢ s → is_among s ns ≡ true → those_before s (put_before m s ns) ≡ those_before s ns ++ m ∷ []
those_before-put m s [] apart h = absurd (cc)
those_before-put m s (n ∷ ns) apart h =
    elim (cases_Bool (n == s)) [
      | inl same ↦ rw (same, no_match, same) refl
      | inr differs ↦
          let other : (s == n) ≡ false = grind (arith, nat_tests) in
          let later : is_among s ns ≡ true = rw other at h in
          rw (differs, differs) (ap (λ (l : List ℕ). n ∷ l) (those_before-put m s ns apart later))
    ]
  where
    no_match : (m == s) ≡ false
    no_match = grind (arith, nat_tests)

-- what was put at a place stands just before it
previous_in-put : (f : Forest) (place : Place) (m : ℕ) → IsForest f → IsPlace f place → node_count f ≡ m
    → previous_in place (children_with place m (children_of f (parent_at place))) ≡ Some m
previous_in-put f (Last p) m is at e = last_of-push (children_of f p) m
previous_in-put f (Before p s) m is at e =
    let among = is_among-parent f s p at in
    let there = is.in_range p s among in
    ap last_of (those_before-put m s (children_of f p) (λ same. absurd (omega arith)) among)
    ∙ last_of-push (those_before s (children_of f p)) m

nonempty : (c : ℕ) (cs : List ℕ) → (length (c ∷ cs) == 0) ≡ false
nonempty c cs = grind (arith, nat_tests)

some-put : (f : Forest) (place : Place) (c : ℕ) (cs : List ℕ) → put_text f place (c ∷ cs) ≡ joined_text f place
    (c ∷ cs) (previous_at f place) (text_of (data_if f (previous_at f place)))
some-put f place c cs = ap (λ b. cond b f
    (joined_text f place (c ∷ cs) (previous_at f place) (text_of (data_if f (previous_at f place))))) (nonempty c cs)

-- a node's data is set, and then set again
data-twice : (f : Forest) (m : ℕ) (x y : NodeData) → with_data (with_data f m x) m y ≡ with_data f m y
data-twice f m x y =
    ap (λ (cs : List ℕ). record f {
      nodes = set (set f.nodes m (record { about = x; children = children_of f m })) m
          (record { about = y; children = cs });
    }) (children_of-with_data f m x m)
    ∙ ap (λ (ns : List Node). record f { nodes = ns })
    (set-set f.nodes m (record { about = x; children = children_of f m }) (record { about = y; children = children_of f m }))

-- text joins the text that stands just before the place
again : (g : Forest) (place : Place) (b : List ℕ) (m : ℕ) (old : List ℕ) → previous_at g place ≡ Some m → text_of (data_of g m) ≡ Some old
    → joined_text g place b (previous_at g place) (text_of (data_if g (previous_at g place))) ≡ with_data g m (Text (old ++ b))
again g place b m old e h = ap (λ (n : Option ℕ). joined_text g place b n (text_of (data_if g n))) e
    ∙ ap (λ (o : Option (List ℕ)). joined_text g place b (Some m) o) h

-- the first text joined an earlier one
joins-old : (f : Forest) (place : Place) (m : ℕ) (old a b : List ℕ) → previous_at f place ≡ Some m → text_of (data_of f m) ≡ Some old
    → let g = with_data f m (Text (old ++ a)) in joined_text g place b (previous_at g place)
    (text_of (data_if g (previous_at g place))) ≡ with_data f m (Text (old ++ (a ++ b)))
joins-old f place m old a b e h =
    let g = with_data f m (Text (old ++ a)) in
    let there : m < node_count f = text-IsNode f m old h in
    again g place b m (old ++ a)
    (ap (previous_in place) (children_of-with_data f m (Text (old ++ a)) (parent_at place)) ∙ e)
    (ap text_of (data_of-with_data f m (Text (old ++ a)) there))
    ∙ data-twice f m (Text (old ++ a)) (Text ((old ++ a) ++ b))
    ∙ ap (λ (t : List ℕ). with_data f m (Text t)) (append_assoc old a b)

-- the first text became a new node
joins-new : (f : Forest) (place : Place) (a b : List ℕ) → IsForest f → IsPlace f place
    → let g = put_new f place (Text a) in joined_text g place b (previous_at g place)
    (text_of (data_if g (previous_at g place))) ≡ put_new f place (Text (a ++ b))
joins-new f place a b is at =
    let g = put_new f place (Text a) in
    let made = with_node f (Text a) in
    let m = node_count f in
    let p = parent_at place in
    let new = IsPutNew-put_new f place (Text a) is refl at in
    let there = (IsParent-place f place is at).there in
    let apart : m ≢ p = λ e. absurd (omega arith) in
    let alone : children_of g m ≡ [] = new.put.lists m apart ∙ children_of-with_node f (Text a) m ∙ children_of-past f m (omega arith) in
    let listed : children_of g p ≡ children_with place m (children_of f p) = new.put.list
    ∙ ap (children_with place m) (children_of-with_node f (Text a) p) in
    again g place b m a (ap (previous_in place) listed ∙ previous_in-put f place m is at refl)
    (ap text_of (new.put.same_data m ∙ new.made.made))
    ∙ ap (λ (cs : List ℕ). record g { nodes = set g.nodes m (record { about = Text (a ++ b); children = cs }) }) alone
    ∙ ap (λ (ns : List Node). record f { nodes = ns }) (set-past f.nodes (record { about = Text a; children = [] })
    (record { about = Text (a ++ b); children = [] })
    (record { about = data_of made p; children = children_with place m (children_of made p) }) p there)
    ∙ ap (λ (d : NodeData). record f {
      nodes = set (f.nodes ++ record { about = Text (a ++ b); children = [] } ∷ [])
          p (record { about = d; children = children_with place m (children_of made p) });
    })
    (data_of-with_node_old f (Text a) p there ∙ sym (data_of-with_node_old f (Text (a ++ b)) p there))
    ∙ ap (λ (cs : List ℕ). record f {
      nodes = set (f.nodes ++ record { about = Text (a ++ b); children = [] } ∷ [])
          p (record { about = data_of (with_node f (Text (a ++ b))) p; children = children_with place m cs });
    })
    (children_of-with_node f (Text a) p ∙ sym (children_of-with_node f (Text (a ++ b)) p))

joins : (f : Forest) (place : Place) (a b : List ℕ) (n : Option ℕ) (o : Option (List ℕ)) → IsForest f
    → IsPlace f place → previous_at f place ≡ n → text_of (data_if f n) ≡ o
    → let g = joined_text f place a n o in joined_text g place b (previous_at g place)
    (text_of (data_if g (previous_at g place))) ≡ joined_text f place (a ++ b) n o
joins f place a b None o is at e h = joins-new f place a b is at
joins f place a b (Some m) None is at e h = joins-new f place a b is at
joins f place a b (Some m) (Some old) is at e h = joins-old f place m old a b e h

pub put_text-append : AreTextsJoined
put_text-append f place [] b is at = refl
put_text-append f place (c ∷ cs) [] is at = ap (λ (t : List ℕ). put_text f place t) (sym (append-nil (c ∷ cs)))
put_text-append f place (c ∷ cs) (d ∷ ds) is at =
    ap (λ (g : Forest). put_text g place (d ∷ ds)) (some-put f place c cs)
    ∙ some-put _ place d ds
    ∙ joins f place (c ∷ cs) (d ∷ ds) (previous_at f place) (text_of (data_if f (previous_at f place))) is at refl refl
    ∙ sym (some-put f place c (cs ++ (d ∷ ds)))
