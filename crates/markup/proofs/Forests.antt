-- Each change leaves a forest, and what it does to parents, lists and data.
use Rattle.std.proofs.Common.{◌≡◌, ◌≢◌, ◌+◌, ◌-◌, ◌<◌, ℕ, suc, zero, true, false, List, [], Option, Some, None, sym, ap, ◌∙◌}
use Rattle.std.proofs.Common.{refl, subst, inl, inr, ◌⊎◌, arith}
use Rattle.std.proofs.lemmas.List.{length-set}
use Rattle.std.proofs.lemmas.Bool.{cases_eq, cases_Bool, cases_lt, cond_both}
use Rattle.markup.specs.Forest.{Forest, NodeData, Place, node_count, data_of, children_of, is_among, parent_of, parent_at}
use Rattle.markup.specs.Forest.{children_with, is_contents, holds_children, above_of, Above, Ends, IsForest, IsDistinct}
use Rattle.markup.specs.Forest.{IsLoose, IsParent, IsPlace, with_node, with_children, with_data, put, empty_forest}
use Rattle.markup.specs.Forest.{create_element, without, remove, remove_under}
use Rattle.markup.specs.Forest.NodeData.{Document, Contents, Element}
use Rattle.markup.specs.Forest.Place.{Last, Before}
use Rattle.markup.specs.Forest.Ends.{top}
use Rattle.markup.specs.declared.names.QualName.{QualName}
use Rattle.markup.specs.declared.attributes.Attribute.{Attribute}
use Rattle.markup.specs.declared.flags.ElementFlags.{ElementFlags}
use Rattle.markup.specs.declared.quirks.QuirksMode.{QuirksMode}
use Rattle.markup.proofs.Children.{is_among-push_same, is_among-push_other, is_among-without_same, is_among-without_other}
use Rattle.markup.proofs.Children.{is_among-before_same, is_among-before_other, IsDistinct-push, IsDistinct-without}
use Rattle.markup.proofs.Children.{IsDistinct-before, without-absent}
use Rattle.markup.proofs.Parents.{parent_of-only, parent_of-none, is_among-parent, is_among-no_parent}
use Rattle.markup.proofs.Parents.{children_of-with_children, children_of-with_children_other, data_of-with_children}
use Rattle.markup.proofs.Parents.{node_count-with_children, node_count-with_node, children_of-with_node, parent_of-with_node}
use Rattle.markup.proofs.Parents.{parent_of-past, above_of-same, above_of-with_node_old, among_with_children}
use Rattle.markup.proofs.Parents.{parent_of-with_children, no_parent-from_loose, children_of-with_data, data_of-with_data}
use Rattle.markup.proofs.Parents.{data_of-with_data_other, parent_of-with_data, parent-IsNode, data_of-past, children_of-past}
use Rattle.markup.proofs.Parents.{data_of-with_node_old, data_of-with_node_new}
use Rattle.markup.proofs.Walks.{IsPut, IsLess, IsGrown, Above-grown, Ends-less, Ends-put, not_above-childless}

-- places

pub IsParent-from_child : (f : Forest) (n p : ℕ) → IsForest f → parent_of f n ≡ Some p → IsParent f p
IsParent-from_child f n p is stands = record {
  there = parent-IsNode f n p stands;
  holds = is.holders p n (is_among-parent f n p stands);
}

pub IsParent-place : (f : Forest) (place : Place) → IsForest f → IsPlace f place → IsParent f (parent_at place)
IsParent-place f (Last p) is at = at
IsParent-place f (Before p s) is at = IsParent-from_child f s p is at

-- a list of children with one more
record IsOneMore (ns : List ℕ) (c : ℕ) (cs : List ℕ) : Type 0 where
  has : is_among c cs ≡ true
  keeps : (n : ℕ) → n ≢ c → is_among n cs ≡ is_among n ns
  distinct : IsDistinct cs

IsOneMore-children_with : (f : Forest) (place : Place) (c : ℕ) → IsForest f → IsPlace f place → parent_of f c ≡ None
    → IsOneMore (children_of f (parent_at place)) c (children_with place c (children_of f (parent_at place)))
IsOneMore-children_with f (Last p) c is at free = record {
  has = is_among-push_same c (children_of f p);
  keeps = λ n other. is_among-push_other n c (children_of f p) other;
  distinct = IsDistinct-push c (children_of f p) (is.once p) (is_among-no_parent f c free p);
}
IsOneMore-children_with f (Before p s) c is at free = record {
  has = is_among-before_same c s (children_of f p) (is_among-parent f s p at);
  keeps = λ n other. is_among-before_other n c s (children_of f p) other;
  distinct = IsDistinct-before c s (children_of f p) (is.once p) (is_among-no_parent f c free p);
}

-- a child is put at a place
pub record IsPutAt (f g : Forest) (place : Place) (c : ℕ) : Type 0 where
  pub is : IsForest g
  pub put : IsPut f g (parent_at place) c
  pub parent : parent_of g c ≡ Some (parent_at place)
  pub parents : (n : ℕ) → n ≢ c → parent_of g n ≡ parent_of f n
  pub list : children_of g (parent_at place) ≡ children_with place c (children_of f (parent_at place))
  pub lists : (q : ℕ) → q ≢ parent_at place → children_of g q ≡ children_of f q
  pub count : node_count g ≡ node_count f
  pub same_data : (n : ℕ) → data_of g n ≡ data_of f n

-- whatever p's list becomes, as long as it has c beside what it had
module _ (f : Forest) (p c : ℕ) (cs : List ℕ) (is : IsForest f) (at : IsParent f p) (loose : IsLoose f p c)
    (more : IsOneMore (children_of f p) c cs) where
  put_free : parent_of f c ≡ None
  put_free = (no_parent-from_loose f c loose.no_parent).0

  put_among : (n q : ℕ) → is_among n (children_of (with_children f p cs) q) ≡ true
      → (is_among n (children_of f q) ≡ true) ⊎ ((q ≡ p) × (n ≡ c))
  put_among n q h =
      elim (among_with_children f p cs n q at.there h) [
        | inl w ↦ elim (cases_eq n c) [ inl same ↦ inr (w.0, same) | inr other ↦ inl (rw (w.0) (sym (more.keeps n other) ∙ w.1)) ]
        | inr w ↦ inl w.1
      ]

  put_parent : parent_of (with_children f p cs) c ≡ Some p
  put_parent =
      parent_of-only (with_children f p cs) c p (ap (is_among c) (children_of-with_children f p cs at.there) ∙ more.has)
      (λ q h. elim (put_among c q h) [ inl old ↦ absurd (let absent = is_among-no_parent f c put_free q in cc) | inr w ↦ w.0 ])

  put_parents : (n : ℕ) → n ≢ c → parent_of (with_children f p cs) n ≡ parent_of f n
  put_parents n other = parent_of-with_children f p cs n at.there (more.keeps n other)

  put_edges : IsPut f (with_children f p cs) p c
  put_edges = record {
    others = λ n other. above_of-same f (with_children f p cs) n (data_of-with_children f p n cs) (put_parents n other);
    edge = rw (data_of-with_children f p c cs, (no_parent-from_loose f c loose.no_parent).1) put_parent;
  }

  put_forest : IsForest (with_children f p cs)
  put_forest = record {
    document = rw (node_count-with_children f p cs) is.document;
    document_first = data_of-with_children f p 0 cs ∙ is.document_first;
    one_parent = λ q n h. elim (put_among n q h) [
      | inl old ↦ elim (cases_eq n c) [
        | inl same ↦ absurd (let absent = is_among-no_parent f c put_free q in let old' : is_among c
            (children_of f q) ≡ true = rw (← same) old in cc)
        | inr other ↦ put_parents n other ∙ is.one_parent q n old
      ]
      | inr w ↦ rw (w.0, w.1) put_parent
    ];
    once = λ q. elim (cases_eq q p) [
      | inl same ↦ rw (same, children_of-with_children f p cs at.there) more.distinct
      | inr other ↦ rw (children_of-with_children_other f p q cs other) (is.once q)
    ];
    in_range = λ q n h. rw (node_count-with_children f p cs)
        (elim (put_among n q h) [ inl old ↦ is.in_range q n old | inr w ↦ rw (w.1) loose.there ]);
    holders = λ q n h. ap holds_children (data_of-with_children f p q cs) ∙ elim (put_among n q h)
        [ inl old ↦ is.holders q n old | inr w ↦ rw (w.0) at.holds ];
    contents_stay = λ n h.
        let contents : is_contents (data_of f n) ≡ true = ap is_contents (sym (data_of-with_children f p n cs)) ∙ h in
        let plain = (no_parent-from_loose f c loose.no_parent).1 in
        let other : n ≢ c = λ same. let contents' : is_contents (data_of f c) ≡ true = rw (← same) contents in absurd (cc) in
        put_parents n other ∙ is.contents_stay n contents;
    contents_follow = λ n h. is.contents_follow n (ap is_contents (sym (data_of-with_children f p n cs)) ∙ h);
    ends = λ n. Ends-put f (with_children f p cs) p c put_edges loose.not_above (is.ends p) n (is.ends n);
  }

pub IsPutAt-put : (f : Forest) (place : Place) (c : ℕ) → IsForest f → IsPlace f place
    → IsLoose f (parent_at place) c → IsPutAt f (put f place c) place c
IsPutAt-put f place c is at loose = record {
  is = put_forest f p c cs is parent' loose more;
  put = put_edges f p c cs is parent' loose more;
  parent = put_parent f p c cs is parent' loose more;
  parents = put_parents f p c cs is parent' loose more;
  list = children_of-with_children f p cs parent'.there;
  lists = λ q other. children_of-with_children_other f p q cs other;
  count = node_count-with_children f p cs;
  same_data = λ n. data_of-with_children f p n cs;
}
  where
    p : ℕ
    p = parent_at place

    cs : List ℕ
    cs = children_with place c (children_of f (parent_at place))

    parent' : IsParent f (parent_at place)
    parent' = IsParent-place f place is at

    more : IsOneMore (children_of f (parent_at place)) c (children_with place c (children_of f (parent_at place)))
    more = IsOneMore-children_with f place c is at (no_parent-from_loose f c loose.no_parent).0

-- a node is taken out
pub record IsRemoved (f g : Forest) (n : ℕ) : Type 0 where
  pub is : IsForest g
  pub less : IsLess f g
  -- the contents of a template stay under it
  pub free : is_contents (data_of f n) ≡ false → above_of g n ≡ None
  pub others : (k : ℕ) → k ≢ n → above_of g k ≡ above_of f k
  pub parent : parent_of g n ≡ None
  pub parents : (k : ℕ) → k ≢ n → parent_of g k ≡ parent_of f k
  pub lists : (q : ℕ) → children_of g q ≡ without n (children_of f q)
  pub count : node_count g ≡ node_count f
  pub same_data : (k : ℕ) → data_of g k ≡ data_of f k

module _ (f : Forest) (n p : ℕ) (is : IsForest f) (stands : parent_of f n ≡ Some p) where
  there : p < node_count f
  there = parent-IsNode f n p stands

  among_less : (k q : ℕ) → is_among k (children_of (with_children f p (without n (children_of f p))) q) ≡ true
      → (is_among k (children_of f q) ≡ true) × (k ≢ n)
  among_less k q h =
      elim (among_with_children f p _ k q there h) [
        | inl w ↦
            let apart : k ≢ n = λ same. let none = is_among-without_same n (children_of f p) in let some =
            subst (λ (x : ℕ). is_among x (without n (children_of f p)) ≡ true) same w.1 in absurd (cc) in
            (rw (w.0) (sym (is_among-without_other k n (children_of f p) apart) ∙ w.1), apart)
        | inr w ↦ (
          w.1,
          λ same. let at : is_among n (children_of f q) ≡ true = rw (← same) w.1 in let e =
              is.one_parent q n at in w.0 (let e' : q ≡ p = cc in e'),
        )
      ]

  removed_parent : parent_of (with_children f p (without n (children_of f p))) n ≡ None
  removed_parent =
      parent_of-none (with_children f p (without n (children_of f p))) n
      (λ q. elim (cases_Bool (is_among n (children_of (with_children f p (without n (children_of f p))) q)))
      [ inl found ↦ absurd ((among_less n q found).1 refl) | inr absent ↦ absent ])

  removed_parents : (k : ℕ) → k ≢ n → parent_of (with_children f p (without n (children_of f p))) k ≡ parent_of f k
  removed_parents k other = parent_of-with_children f p _ k there (is_among-without_other k n (children_of f p) other)

  removed_others : (k : ℕ) → k ≢ n → above_of (with_children f p (without n (children_of f p))) k ≡ above_of f k
  removed_others k other = above_of-same f (with_children f p (without n (children_of f p))) k
      (data_of-with_children f p k _) (removed_parents k other)

  -- a node with a parent is no contents
  removed_plain : is_contents (data_of f n) ≡ false
  removed_plain = elim (cases_Bool (is_contents (data_of f n)))
      [ inl contents ↦ absurd (let stays = is.contents_stay n contents in cc) | inr plain ↦ plain ]

  removed_free : above_of (with_children f p (without n (children_of f p))) n ≡ None
  removed_free = rw (data_of-with_children f p n (without n (children_of f p)), removed_plain) removed_parent

  removed_less : IsLess f (with_children f p (without n (children_of f p)))
  removed_less = record {
    less =
        λ k. elim (cases_eq k n) [ inl same ↦ inr (rw same removed_free) | inr other ↦ inl (removed_others k other) ];
  }

  removed_lists : (q : ℕ) → children_of (with_children f p (without n (children_of f p))) q ≡ without n (children_of f q)
  removed_lists q =
      elim (cases_eq q p) [
        | inl same ↦ rw same (children_of-with_children f p (without n (children_of f p)) there)
        | inr other ↦
            children_of-with_children_other f p q (without n (children_of f p)) other
            ∙ sym (without-absent n (children_of f q) (elim (cases_Bool (is_among n (children_of f q))) [
              | inl found ↦ absurd (other (let one = is.one_parent q n found in let e : q ≡ p = cc in e))
              | inr absent ↦ absent
            ]))
      ]

  removed_forest : IsForest (with_children f p (without n (children_of f p)))
  removed_forest = record {
    document = rw (node_count-with_children f p (without n (children_of f p))) is.document;
    document_first = data_of-with_children f p 0 (without n (children_of f p)) ∙ is.document_first;
    one_parent = λ q k h. let w = among_less k q h in removed_parents k w.1 ∙ is.one_parent q k w.0;
    once = λ q. rw (removed_lists q) (IsDistinct-without n (children_of f q) (is.once q));
    in_range = λ q k h. rw (node_count-with_children f p (without n (children_of f p))) (is.in_range q k (among_less k q h).0);
    holders = λ q k h. ap holds_children (data_of-with_children f p q (without n (children_of f p))) ∙ is.holders q k (among_less k q h).0;
    contents_stay = λ k h.
        elim (cases_eq k n) [
          | inl same ↦ rw same removed_parent
          | inr other ↦ removed_parents k other ∙ is.contents_stay k (ap is_contents (sym (data_of-with_children f p k _)) ∙ h)
        ];
    contents_follow = λ k h. is.contents_follow k (ap is_contents (sym (data_of-with_children f p k _)) ∙ h);
    ends = λ k. Ends-less f (with_children f p (without n (children_of f p))) removed_less k (is.ends k);
  }

pub IsRemoved-remove : (f : Forest) (n : ℕ) → IsForest f → IsRemoved f (remove f n) n
IsRemoved-remove f n is = by_parent (parent_of f n) refl where
  by_parent : (o : Option ℕ) → parent_of f n ≡ o → IsRemoved f (remove_under f n o) n
  by_parent None e = record {
    is = is;
    less = record { less = λ k. inl refl };
    free = λ plain. rw plain e;
    others = λ k other. refl;
    parent = e;
    parents = λ k other. refl;
    lists = λ q. sym (without-absent n (children_of f q) (is_among-no_parent f n e q));
    count = refl;
    same_data = λ k. refl;
  }
  by_parent (Some p) e = record {
    is = removed_forest f n p is e;
    less = removed_less f n p is e;
    free = λ plain. removed_free f n p is e;
    others = removed_others f n p is e;
    parent = removed_parent f n p is e;
    parents = removed_parents f n p is e;
    lists = removed_lists f n p is e;
    count = node_count-with_children f p _;
    same_data = λ k. data_of-with_children f p k (without n (children_of f p));
  }

-- nodes are made; the first of them is such a node
pub record IsMade (f g : Forest) (about : NodeData) : Type 0 where
  pub is : IsForest g
  pub grown : IsGrown f g
  pub there : node_count f < node_count g
  pub made : data_of g (node_count f) ≡ about
  pub parents : (n : ℕ) → parent_of g n ≡ parent_of f n
  pub lists : (q : ℕ) → children_of g q ≡ children_of f q
  pub same_data : (n : ℕ) → n < node_count f → data_of g n ≡ data_of f n
  -- it may be put into any older one
  pub loose : (p : ℕ) → p < node_count f → IsLoose g p (node_count f)

IsGrown-with_node : (f : Forest) (about : NodeData) → IsGrown f (with_node f about)
IsGrown-with_node f about = record {
  more = omega (arith, node_count-with_node f about);
  olds = λ n there. above_of-with_node_old f about n there;
}

-- a new node leaves a forest; the contents of a template have to follow it
pub IsForest-with_node : (f : Forest) (about : NodeData) → IsForest f → IsForest (with_node f about)
IsForest-with_node f about is = record {
  document = omega (arith, is.document, node_count-with_node f about);
  document_first = data_of-with_node_old f about 0 is.document ∙ is.document_first;
  one_parent = λ p n h. parent_of-with_node f about n ∙ is.one_parent p n (before p n h);
  once = λ p. rw (children_of-with_node f about p) (is.once p);
  in_range = λ p n h. let old : n < node_count f = is.in_range p n (before p n h) in omega (arith, node_count-with_node f about);
  holders = λ p n h. elim (cases_lt p (node_count f)) [
    | inl old ↦ ap holds_children (data_of-with_node_old f about p old) ∙ is.holders p n (before p n h)
    | inr past ↦ absurd (let none : is_among n (children_of f p) ≡ false =
        ap (is_among n) (children_of-past f p past) in let some = before p n h in cc)
  ];
  contents_stay = λ n h. parent_of-with_node f about n ∙ elim (cases_lt n (node_count f))
      [ inl old ↦ is.contents_stay n (kept n old h) | inr past ↦ parent_of-past f is n past ];
  contents_follow = λ n h. elim (cases_lt n (node_count f))
      [ inl old ↦ is.contents_follow n (kept n old h) | inr past ↦ omega (arith, is.document) ];
  ends = λ n. ended n;
}
  where
    before : (p n : ℕ) → is_among n (children_of (with_node f about) p) ≡ true → is_among n (children_of f p) ≡ true
    before p n h = ap (is_among n) (sym (children_of-with_node f about p)) ∙ h

    kept : (n : ℕ) → n < node_count f → is_contents (data_of (with_node f about) n) ≡ true → is_contents (data_of f n) ≡ true
    kept n old h = ap is_contents (sym (data_of-with_node_old f about n old)) ∙ h

    others : (n : ℕ) → n ≢ node_count f → above_of (with_node f about) n ≡ above_of f n
    others n other =
        above_of-same f (with_node f about) n
        (elim (cases_lt n (node_count f)) [
          | inl old ↦ data_of-with_node_old f about n old
          | inr past ↦ data_of-past (with_node f about) n (omega (arith, node_count-with_node f about)) ∙ sym (data_of-past f n past)
        ])
        (parent_of-with_node f about n)

    no_parent : parent_of (with_node f about) (node_count f) ≡ None
    no_parent = parent_of-with_node f about (node_count f) ∙ parent_of-past f is (node_count f) (omega arith)

    apart : Above f (node_count f) (node_count f - 1) → ⊥
    apart = not_above-childless f is (node_count f) (node_count f - 1)
        (children_of-past f (node_count f) (omega arith))
        (ap is_contents (data_of-past f (node_count f + 1) (omega arith))) (omega (arith, is.document))

    ended : (n : ℕ) → Ends (with_node f about) n
    ended n =
        elim (cases_Bool (is_contents about)) [
          | inl contents ↦ Ends-put f (with_node f about) (node_count f - 1) (node_count f)
              (record { others = others; edge = rw (data_of-with_node_new f about, contents) refl }) apart
              (is.ends (node_count f - 1)) n (is.ends n)
          | inr plain ↦ Ends-less f (with_node f about)
              (record {
                less = λ m. elim (cases_eq m (node_count f)) [
                  | inl same ↦ inr (rw (same, data_of-with_node_new f about, plain) no_parent)
                  | inr other ↦
                      inl (others m other)
                ];
              }) n (is.ends n)
        ]

pub IsMade-with_node : (f : Forest) (about : NodeData) → IsForest f → is_contents about ≡ false → IsMade f (with_node f about) about
IsMade-with_node f about is plain = record {
  is = IsForest-with_node f about is;
  grown = IsGrown-with_node f about;
  there = omega (arith, node_count-with_node f about);
  made = data_of-with_node_new f about;
  parents = parent_of-with_node f about;
  lists = children_of-with_node f about;
  same_data = data_of-with_node_old f about;
  loose = λ p there. record {
    there = omega (arith, node_count-with_node f about);
    no_parent = let plain' : is_contents (data_of (with_node f about) (node_count f)) ≡ false =
        ap is_contents (data_of-with_node_new f about) ∙ plain in
        rw plain' (parent_of-with_node f about (node_count f) ∙ parent_of-past f is (node_count f) (omega arith));
    not_above =
        not_above-childless (with_node f about) (IsForest-with_node f about is) (node_count f) p
        (children_of-with_node f about (node_count f) ∙ children_of-past f (node_count f) (omega arith))
        (ap is_contents (data_of-past (with_node f about) (node_count f + 1) (omega (arith, node_count-with_node f about))))
        (omega arith);
  };
}

-- a node stays loose while others are made
pub IsLoose-grown : (f g : Forest) (p c : ℕ) → IsGrown f g → p < node_count f → IsLoose f p c → IsLoose g p c
IsLoose-grown f g p c grown there loose = record {
  there = omega (arith, loose.there, grown.more);
  no_parent = grown.olds c loose.there ∙ loose.no_parent;
  not_above = λ a. loose.not_above (Above-grown f g grown c p there a);
}

pub IsMade-create_element : (f : Forest) (name : QualName) (attributes : List Attribute) (flags : ElementFlags)
    → IsForest f → IsMade f (create_element f name attributes flags)
    (Element name attributes flags.template flags.mathml_annotation_xml_integration_point)
IsMade-create_element f name attributes flags is =
    cond_both flags.template (with_node g Contents) g (λ (x : Forest). IsMade f x about) (λ e. with_contents) (λ e. alone)
  where
    about : NodeData
    about = Element name attributes flags.template flags.mathml_annotation_xml_integration_point

    g : Forest
    g = with_node f (Element name attributes flags.template flags.mathml_annotation_xml_integration_point)

    alone : IsMade f (with_node f
        (Element name attributes flags.template flags.mathml_annotation_xml_integration_point))
        (Element name attributes flags.template flags.mathml_annotation_xml_integration_point)
    alone = IsMade-with_node f about is refl

    one : node_count (with_node f (Element name attributes flags.template flags.mathml_annotation_xml_integration_point)) ≡ node_count f + 1
    one = node_count-with_node f about

    two : node_count (with_node
        (with_node f (Element name attributes flags.template flags.mathml_annotation_xml_integration_point))
        Contents) ≡ node_count f + 1 + 1
    two = node_count-with_node g Contents ∙ ap (λ (k : ℕ). k + 1) one

    with_contents : IsMade f (with_node
        (with_node f (Element name attributes flags.template flags.mathml_annotation_xml_integration_point))
        Contents) (Element name attributes flags.template flags.mathml_annotation_xml_integration_point)
    with_contents = record {
      is = IsForest-with_node g Contents alone.is;
      grown = record {
        more = omega (arith, two);
        olds = λ n there. above_of-with_node_old g Contents n (omega (arith, one)) ∙ alone.grown.olds n there;
      };
      there = omega (arith, two);
      made = data_of-with_node_old g Contents (node_count f) (omega (arith, one)) ∙ alone.made;
      parents = λ n. parent_of-with_node g Contents n ∙ alone.parents n;
      lists = λ q. children_of-with_node g Contents q ∙ alone.lists q;
      same_data = λ n there. data_of-with_node_old g Contents n (omega (arith, one)) ∙ alone.same_data n there;
      loose = λ p there. IsLoose-grown g (with_node g Contents) p (node_count f) (IsGrown-with_node g Contents)
          (omega (arith, one)) (alone.loose p there);
    }

-- other data of the same kind as that of a node
pub record IsKind (f : Forest) (n : ℕ) (about : NodeData) : Type 0 where
  pub contents : is_contents about ≡ is_contents (data_of f n)
  pub holds : holds_children about ≡ holds_children (data_of f n)
  pub first : n ≡ 0 → about ≡ Document

-- nothing has moved, and only the data of n may have changed
pub record IsInPlace (f g : Forest) (n : ℕ) : Type 0 where
  pub is : IsForest g
  pub aboves : (k : ℕ) → above_of g k ≡ above_of f k
  pub parents : (k : ℕ) → parent_of g k ≡ parent_of f k
  pub lists : (q : ℕ) → children_of g q ≡ children_of f q
  pub count : node_count g ≡ node_count f
  pub same_data : (k : ℕ) → k ≢ n → data_of g k ≡ data_of f k

pub IsInPlace-with_data : (f : Forest) (n : ℕ) (about : NodeData) → IsForest f → n < node_count f → IsKind f n about
    → IsInPlace f (with_data f n about) n
IsInPlace-with_data f n about is there kind = record {
  is = record {
    document = rw count' is.document;
    document_first = elim (cases_eq 0 n) [
      | inl same ↦ rw same (data_of-with_data f n about there) ∙ kind.first (sym same)
      | inr other ↦ data_of-with_data_other f n about 0 other ∙ is.document_first
    ];
    one_parent = λ q k h. parent_of-with_data f n about k ∙ is.one_parent q k (before q k h);
    once = λ q. rw (children_of-with_data f n about q) (is.once q);
    in_range = λ q k h. rw count' (is.in_range q k (before q k h));
    holders = λ q k h. kept_holds q ∙ is.holders q k (before q k h);
    contents_stay = λ k h. parent_of-with_data f n about k ∙ is.contents_stay k (sym (kept k) ∙ h);
    contents_follow = λ k h. is.contents_follow k (sym (kept k) ∙ h);
    ends = λ k. Ends-less f (with_data f n about) (record { less = λ m. inl (same_above m) }) k (is.ends k);
  };
  aboves = same_above;
  parents = parent_of-with_data f n about;
  lists = children_of-with_data f n about;
  count = count';
  same_data = λ k other. data_of-with_data_other f n about k other;
}
  where
    count' : node_count (with_data f n about) ≡ node_count f
    count' = length-set f.nodes n _

    before : (q k : ℕ) → is_among k (children_of (with_data f n about) q) ≡ true → is_among k (children_of f q) ≡ true
    before q k h = ap (is_among k) (sym (children_of-with_data f n about q)) ∙ h

    kept : (k : ℕ) → is_contents (data_of (with_data f n about) k) ≡ is_contents (data_of f k)
    kept k =
        elim (cases_eq k n) [
          | inl e ↦ rw e (ap is_contents (data_of-with_data f n about there) ∙ kind.contents)
          | inr other ↦ ap is_contents (data_of-with_data_other f n about k other)
        ]

    kept_holds : (k : ℕ) → holds_children (data_of (with_data f n about) k) ≡ holds_children (data_of f k)
    kept_holds k =
        elim (cases_eq k n) [
          | inl e ↦ rw e (ap holds_children (data_of-with_data f n about there) ∙ kind.holds)
          | inr other ↦ ap holds_children (data_of-with_data_other f n about k other)
        ]

    same_above : (k : ℕ) → above_of (with_data f n about) k ≡ above_of f k
    same_above k = rw (kept k, parent_of-with_data f n about k) refl

-- the count of errors and the mode are no part of the tree
pub IsForest-same_nodes : (f : Forest) (mode : QuirksMode) (errors : ℕ) → IsForest f
    → IsForest (record { nodes = f.nodes; quirks = mode; errors = errors })
IsForest-same_nodes f mode errors is = record {
  document = is.document;
  document_first = is.document_first;
  one_parent = is.one_parent;
  once = is.once;
  in_range = is.in_range;
  holders = is.holders;
  contents_stay = is.contents_stay;
  contents_follow = is.contents_follow;
  ends = λ n. Ends-less f (record { nodes = f.nodes; quirks = mode; errors = errors }) (record { less = λ m. inl refl }) n (is.ends n);
}

childless_everywhere : (q : ℕ) → children_of empty_forest q ≡ []
childless_everywhere zero = refl
childless_everywhere (suc q) = refl

no_contents_there : (q : ℕ) → is_contents (data_of empty_forest q) ≡ false
no_contents_there zero = refl
no_contents_there (suc q) = refl

pub IsForest-empty : IsForest empty_forest
IsForest-empty = record {
  document = omega arith;
  document_first = refl;
  one_parent = λ p n h. absurd (let absent : is_among n (children_of empty_forest p) ≡ false = rw (childless_everywhere p) refl in cc);
  once = λ p. rw (childless_everywhere p) tt;
  in_range = λ p n h. absurd (let absent : is_among n (children_of empty_forest p) ≡ false = rw (childless_everywhere p) refl in cc);
  holders = λ p n h. absurd (let absent : is_among n (children_of empty_forest p) ≡ false = rw (childless_everywhere p) refl in cc);
  contents_stay = λ n h. absurd (let absent = no_contents_there n in cc);
  contents_follow = λ n h. absurd (let absent = no_contents_there n in cc);
  ends = λ n. top (rw (no_contents_there n) (parent_of-none empty_forest n (λ q. rw (childless_everywhere q) refl)));
}
