-- All children of one node after those of another.
use Rattle.std.proofs.Common.{◌≡◌, ◌≢◌, ◌<◌, ℕ, true, false, List, [], ◌++◌, Some, sym, ap, ◌∙◌, refl, inl, inr, arith, set}
use Rattle.std.proofs.lemmas.List.{set-get_or, set-set}
use Rattle.std.proofs.lemmas.Bool.{cases_eq, cases_Bool}
use Rattle.markup.specs.Forest.{Forest, Node, no_node, node_count, data_of, children_of, is_among, parent_of, is_contents}
use Rattle.markup.specs.Forest.{holds_children, Above, IsForest, IsParent, with_children, reparent_children}
use Rattle.markup.proofs.Children.{is_among-append_left, is_among-append_right, IsDistinct-append}
use Rattle.markup.proofs.Parents.{parent_of-only, parent_of-same, is_among-no_parent, children_of-with_children}
use Rattle.markup.proofs.Parents.{children_of-with_children_other, data_of-with_children, node_count-with_children}
use Rattle.markup.proofs.Parents.{above_of-same}
use Rattle.markup.proofs.Walks.{IsMoved, Above-up, Ends-moved}

-- the children of one node move after those of another
pub record IsReparented (f g : Forest) (from to : ℕ) : Type 0 where
  pub is : IsForest g
  pub moved : IsMoved f g (λ n. is_among n (children_of f from)) to
  pub parent : (n : ℕ) → is_among n (children_of f from) ≡ true → parent_of g n ≡ Some to
  pub parents : (n : ℕ) → is_among n (children_of f from) ≡ false → parent_of g n ≡ parent_of f n
  pub list_from : from ≢ to → children_of g from ≡ []
  pub list_to : from ≢ to → children_of g to ≡ children_of f to ++ children_of f from
  pub lists : (q : ℕ) → q ≢ from → q ≢ to → children_of g q ≡ children_of f q
  pub count : node_count g ≡ node_count f
  pub same_data : (n : ℕ) → data_of g n ≡ data_of f n

-- moved after themselves they stay as they are
pub reparent_children-same : (f : Forest) (n : ℕ) → n < node_count f → reparent_children f n n ≡ f
reparent_children-same f n there =
    ap (λ (cs : List ℕ). with_children (with_children f n []) n cs)
    (ap (λ (cs : List ℕ). cs ++ children_of f n) (children_of-with_children f n [] there))
    ∙ ap (λ (nodes : List Node). record f { nodes = nodes })
    (ap (λ about. set (with_children f n []).nodes n (record { about = about; children = children_of f n }))
    (data_of-with_children f n n [])
    ∙ (set-set f.nodes n (record { about = data_of f n; children = [] }) (record { about = data_of f n; children = children_of f n })
    ∙ set-get_or f.nodes n no_node))

module _ (f : Forest) (from to : ℕ) (is : IsForest f) (there_from : from < node_count f) (at : IsParent f to)
    (apart : (c : ℕ) → is_among c (children_of f from) ≡ true → Above f c to → ⊥) where
  data_same : (n : ℕ) → data_of (reparent_children f from to) n ≡ data_of f n
  data_same n = data_of-with_children (with_children f from []) to n _ ∙ data_of-with_children f from n []

  count_same : node_count (reparent_children f from to) ≡ node_count f
  count_same = node_count-with_children (with_children f from []) to _ ∙ node_count-with_children f from []

  plain_moved : (m : ℕ) → is_among m (children_of f from) ≡ true → is_contents (data_of f m) ≡ false
  plain_moved m h =
      elim (cases_Bool (is_contents (data_of f m))) [
        | inl contents ↦ absurd (let free = is.contents_stay m contents in let stands = is.one_parent from m h in cc)
        | inr plain ↦ plain
      ]

  lists_other : (q : ℕ) → q ≢ from → q ≢ to → children_of (reparent_children f from to) q ≡ children_of f q
  lists_other q a b = children_of-with_children_other (with_children f from []) to q _ b ∙ children_of-with_children_other f from q [] a

  module _ (apart_nodes : from ≢ to) where
    other_node : to ≢ from
    other_node same = apart_nodes (sym same)

    lists_from : children_of (reparent_children f from to) from ≡ []
    lists_from = children_of-with_children_other (with_children f from []) to from _ apart_nodes
        ∙ children_of-with_children f from [] there_from

    lists_to : children_of (reparent_children f from to) to ≡ children_of f to ++ children_of f from
    lists_to =
        children_of-with_children (with_children f from []) to _ (let there = at.there in omega (arith, node_count-with_children f from []))
        ∙ ap (λ ns. ns ++ children_of f from) (children_of-with_children_other f from to [] other_node)

    -- a node that does not move keeps its lists
    stays_among : (n q : ℕ) → is_among n (children_of f from) ≡ false
        → is_among n (children_of (reparent_children f from to) q) ≡ is_among n (children_of f q)
    stays_among n q h =
        elim (cases_eq q from) [
          | inl same ↦ rw (same, lists_from) (sym h)
          | inr a ↦ elim (cases_eq q to) [
            | inl same ↦ rw (same, lists_to) (is_among-append_left n (children_of f to) (children_of f from) h)
            | inr b ↦ ap (is_among n) (lists_other q a b)
          ]
        ]

    stays_parent : (n : ℕ) → is_among n (children_of f from) ≡ false → parent_of (reparent_children f from to) n ≡ parent_of f n
    stays_parent n h = parent_of-same f (reparent_children f from to) n (λ q. stays_among n q h)

    -- a node that moves is in one list
    moves_to : (n q : ℕ) → is_among n (children_of f from) ≡ true → is_among n (children_of (reparent_children f from to) q) ≡ true → q ≡ to
    moves_to n q h found =
        elim (cases_eq q to) [
          | inl same ↦ same
          | inr b ↦ elim (cases_eq q from) [
            | inl same ↦ absurd (let gone : is_among n (children_of (reparent_children f from to) q) ≡ false =
                rw (same, lists_from) refl in cc)
            | inr a ↦
                let old : is_among n (children_of f q) ≡ true = ap (is_among n) (sym (lists_other q a b)) ∙ found in
                absurd (a (let one = is.one_parent q n old in let two = is.one_parent from n h in let e : q ≡ from = cc in e))
          ]
        ]

    moves_parent : (n : ℕ) → is_among n (children_of f from) ≡ true → parent_of (reparent_children f from to) n ≡ Some to
    moves_parent n h =
        parent_of-only (reparent_children f from to) n to
        (ap (is_among n) lists_to ∙ is_among-append_right n (children_of f to) (children_of f from) h) (λ q found. moves_to n q h found)

    moved_edges : IsMoved f (reparent_children f from to) (λ n. is_among n (children_of f from)) to
    moved_edges = record {
      others = λ n h. above_of-same f (reparent_children f from to) n (data_same n) (stays_parent n h);
      edges = λ n h. rw (data_same n, plain_moved n h) (moves_parent n h);
    }

    moved_forest : IsForest (reparent_children f from to)
    moved_forest = record {
      document = rw count_same is.document;
      document_first = data_same 0 ∙ is.document_first;
      one_parent = λ q n h. elim (cases_Bool (is_among n (children_of f from))) [
        | inl moves ↦ rw (moves_to n q moves h) (moves_parent n moves)
        | inr stays ↦ stays_parent n stays ∙ is.one_parent q n (sym (stays_among n q stays) ∙ h)
      ];
      once = λ q. elim (cases_eq q from) [
        | inl same ↦ rw (same, lists_from) tt
        | inr a ↦ elim (cases_eq q to) [
          | inl same ↦ rw (same, lists_to) (IsDistinct-append (children_of f to) (children_of f from) (is.once to) (is.once from)
              (λ n found. elim (cases_Bool (is_among n (children_of f from))) [
                | inl both ↦ absurd (other_node
                    (let one = is.one_parent to n found in let two = is.one_parent from n both in
                    let e : to ≡ from = cc in e))
                | inr absent ↦ absent
              ]))
          | inr b ↦ rw (lists_other q a b) (is.once q)
        ]
      ];
      in_range = λ q n h. rw count_same (elim (cases_Bool (is_among n (children_of f from))) [
        | inl moves ↦ is.in_range from n moves
        | inr stays ↦ is.in_range q n (sym (stays_among n q stays) ∙ h)
      ]);
      holders = λ q n h. ap holds_children (data_same q) ∙ elim (cases_Bool (is_among n (children_of f from))) [
        | inl moves ↦ rw (moves_to n q moves h) at.holds
        | inr stays ↦ is.holders q n (sym (stays_among n q stays) ∙ h)
      ];
      contents_stay = λ n h.
          let contents : is_contents (data_of f n) ≡ true = ap is_contents (sym (data_same n)) ∙ h in
          let free = is.contents_stay n contents in
          stays_parent n (is_among-no_parent f n free from) ∙ free;
      contents_follow = λ n h. is.contents_follow n (ap is_contents (sym (data_same n)) ∙ h);
      ends = λ n. Ends-moved f (reparent_children f from to) (λ m. is_among m (children_of f from)) to moved_edges
          apart (is.ends to) n (is.ends n);
    }

    reparented_apart : IsReparented f (reparent_children f from to) from to
    reparented_apart = record {
      is = moved_forest;
      moved = moved_edges;
      parent = moves_parent;
      parents = stays_parent;
      list_from = λ _. lists_from;
      list_to = λ _. lists_to;
      lists = lists_other;
      count = count_same;
      same_data = data_same;
    }

IsReparented-same : (f : Forest) (n : ℕ) → IsForest f → IsReparented f f n n
IsReparented-same f n is = record {
  is = is;
  moved = record {
    others = λ k h. refl;
    edges = λ k h. elim (cases_Bool (is_contents (data_of f k))) [
      | inl contents ↦ absurd (let free = is.contents_stay k contents in let stands = is.one_parent n k h in cc)
      | inr plain ↦ rw plain (is.one_parent n k h)
    ];
  };
  parent = λ k h. is.one_parent n k h;
  parents = λ k h. refl;
  list_from = λ apart. absurd (apart refl);
  list_to = λ apart. absurd (apart refl);
  lists = λ q a b. refl;
  count = refl;
  same_data = λ k. refl;
}

-- none of the children is above the node that they move into
pub IsReparented-reparent_children : (f : Forest) (from to : ℕ) → IsForest f → from < node_count f → IsParent f to
    → ((c : ℕ) → is_among c (children_of f from) ≡ true → Above f c to → ⊥) → IsReparented f (reparent_children f from to) from to
IsReparented-reparent_children f from to is there at apart =
    elim (cases_eq from to) [
      | inl same ↦ rw (← same) (rw (reparent_children-same f from there) (IsReparented-same f from is))
      | inr differs ↦ reparented_apart f from to is there at apart differs
    ]

-- where one node is not above another one, nor is a child of it
pub not_above-child : (f : Forest) (from to : ℕ) → IsForest f → (Above f from to → ⊥) → (c : ℕ)
    → is_among c (children_of f from) ≡ true → Above f c to → ⊥
not_above-child f from to is apart c h up =
    elim (cases_Bool (is_contents (data_of f c))) [
      | inl contents ↦ absurd (let free = is.contents_stay c contents in let stands = is.one_parent from c h in cc)
      | inr plain ↦ apart (Above-up f c to from (rw plain (is.one_parent from c h)) up)
    ]
