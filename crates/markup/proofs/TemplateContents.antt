-- Each change leaves each template followed by the node of its contents.
use Rattle.std.proofs.Common.{◌≡◌, ◌==◌, ◌+◌, ◌-◌, ◌<◌, ℕ, zero, suc, true, false, List, ◌++◌, Option, Some, None, length}
use Rattle.std.proofs.Common.{codes, sym, ap, ◌∙◌, refl, inl, inr, arith}
use Rattle.std.proofs.lemmas.Bool.{cases_eq, cases_lt, cond_both}
use Rattle.markup.specs.Names.{is_html_name}
use Rattle.markup.specs.Named.{HasContents, IsOrdinary}
use Rattle.markup.specs.Forest.{Forest, NodeData, Place, node_count, data_of, is_contents, element_name, template_of, text_of}
use Rattle.markup.specs.Forest.{with_node, with_data, put_new, put_text, joined_text, previous_at, data_if, create_element}
use Rattle.markup.specs.Forest.{empty_forest, add_attributes, with_attributes}
use Rattle.markup.specs.Forest.NodeData.{Document, Contents, Doctype, Comment, ProcessingInstruction, Element, Text}
use Rattle.markup.specs.declared.names.QualName.{QualName}
use Rattle.markup.specs.declared.attributes.Attribute.{Attribute}
use Rattle.markup.specs.declared.flags.ElementFlags.{ElementFlags}
use Rattle.markup.proofs.Parents.{data_of-past, data_of-with_children, data_of-with_data, data_of-with_data_other}
use Rattle.markup.proofs.Parents.{data_of-with_node_new, data_of-with_node_old, node_count-with_node}
use Rattle.markup.proofs.PutTexts.{element_name-with_attributes, is_contents-with_attributes, template_of-with_attributes}
use Rattle.markup.proofs.PutTexts.{text-IsNode, text_of-is}

-- alike as to templates and contents
pub record IsAlike (d e : NodeData) : Type 0 where
  pub contents : is_contents d ≡ is_contents e
  pub template : template_of d ≡ template_of e
  pub name : element_name d ≡ element_name e

pub IsAlike-same : (d e : NodeData) → d ≡ e → IsAlike d e
IsAlike-same d e same = record { contents = ap is_contents same; template = ap template_of same; name = ap element_name same }

is_contents-is : (d : NodeData) → is_contents d ≡ true → d ≡ Contents
is_contents-is Document e = absurd (cc)
is_contents-is Contents e = refl
is_contents-is (Doctype a b c) e = absurd (cc)
is_contents-is (Text a) e = absurd (cc)
is_contents-is (Comment a) e = absurd (cc)
is_contents-is (ProcessingInstruction a b) e = absurd (cc)
is_contents-is (Element a b c d) e = absurd (cc)

pub HasContents-alike : (f g : Forest) → HasContents f → ((n : ℕ) → IsAlike (data_of g n) (data_of f n)) → HasContents g
HasContents-alike f g has alike = record {
  templates = λ n. (alike n).template ∙ (has.templates n ∙ ap (λ o. is_html_name o (codes "template")) (sym (alike n).name));
  follow = λ n h. is_contents-is (data_of g (n + 1))
      ((alike (n + 1)).contents ∙ ap is_contents (has.follow n (sym (alike n).template ∙ h)));
  belong = λ n h. (alike (n - 1)).template ∙ has.belong n (sym (alike n).contents ∙ h);
}

-- where no data changed
pub HasContents-same_data : (f g : Forest) → HasContents f → ((n : ℕ) → data_of g n ≡ data_of f n) → HasContents g
HasContents-same_data f g has same = HasContents-alike f g has (λ n. IsAlike-same (data_of g n) (data_of f n) (same n))

pub HasContents-with_data : (f : Forest) (n : ℕ) (about : NodeData) → n < node_count f → HasContents f
    → IsAlike about (data_of f n) → HasContents (with_data f n about)
HasContents-with_data f n about there has alike =
    HasContents-alike f (with_data f n about) has
    (λ k. elim (cases_eq k n) [
      | inl same ↦ rw same (rw (data_of-with_data f n about there) alike)
      | inr other ↦ IsAlike-same (data_of (with_data f n about) k) (data_of f k) (data_of-with_data_other f n about k other)
    ])

pub HasContents-with_node : (f : Forest) (about : NodeData) → HasContents f → IsOrdinary about → HasContents (with_node f about)
HasContents-with_node f about has plain =
    HasContents-by_data f (with_node f about) about has (data_of-with_node_old f about) (data_of-with_node_new f about)
    (λ n past. data_of-past (with_node f about) n (omega (arith, node_count-with_node f about)))
    plain
  where
    HasContents-by_data : (f g : Forest) (about : NodeData) → HasContents f
        → ((n : ℕ) → n < node_count f → data_of g n ≡ data_of f n) → data_of g (node_count f) ≡ about
        → ((n : ℕ) → node_count f < n → data_of g n ≡ Document) → IsOrdinary about → HasContents g
    HasContents-by_data f g about has old new past plain = record {
      templates = λ n. elim (cases_lt n (node_count f)) [
        | inl less ↦ rw (old n less) (has.templates n)
        | inr after ↦ elim (cases_eq n (node_count f)) [
          | inl same ↦ rw (same, new) (plain.template ∙ sym plain.name)
          | inr other ↦ rw (past n (omega arith)) refl
        ]
      ];
      follow = λ n h. elim (cases_lt n (node_count f)) [
        | inl less ↦
            let contents : data_of f (n + 1) ≡ Contents = has.follow n (ap template_of (sym (old n less)) ∙ h) in
            old (n + 1) (elim (cases_lt (n + 1) (node_count f)) [
              | inl there ↦ there
              | inr beyond ↦
                  absurd (let none : data_of f (n + 1) ≡ Document = data_of-past f (n + 1) beyond in cc)
            ]) ∙ contents
        | inr after ↦ elim (cases_eq n (node_count f)) [
          | inl same ↦ absurd (let none : template_of (data_of g n) ≡ false = rw (same, new) plain.template in cc)
          | inr other ↦ absurd (let none : template_of (data_of g n) ≡ false = ap template_of (past n (omega arith)) in cc)
        ]
      ];
      belong = λ n h. elim (cases_lt n (node_count f)) [
        | inl less ↦ ap template_of (old (n - 1) (omega arith)) ∙ has.belong n (ap is_contents (sym (old n less)) ∙ h)
        | inr after ↦ elim (cases_eq n (node_count f)) [
          | inl same ↦ absurd (let none : is_contents (data_of g n) ≡ false = rw (same, new) plain.contents in cc)
          | inr other ↦ absurd (let none : is_contents (data_of g n) ≡ false = ap is_contents (past n (omega arith)) in cc)
        ]
      ];
    }

pub HasContents-with_template : (f : Forest) (about : NodeData) → HasContents f → template_of about ≡ true
    → is_contents about ≡ false → is_html_name (element_name about) (codes "template") ≡ true
    → HasContents (with_node (with_node f about) Contents)
HasContents-with_template f about has template plain name = record {
  templates = λ n. elim (cases_lt n (node_count f)) [
    | inl less ↦ rw (old n less) (has.templates n)
    | inr after ↦ elim (cases_eq n (node_count f)) [
      | inl same ↦ rw (same, new) (template ∙ sym name)
      | inr other ↦ elim (cases_eq n (node_count f + 1)) [
        | inl same ↦ rw (same, last) refl
        | inr beyond ↦ rw (past n (omega arith)) refl
      ]
    ]
  ];
  follow = λ n h. elim (cases_lt n (node_count f)) [
    | inl less ↦
        let contents : data_of f (n + 1) ≡ Contents = has.follow n (ap template_of (sym (old n less)) ∙ h) in
        old (n + 1) (elim (cases_lt (n + 1) (node_count f)) [
          | inl there ↦ there
          | inr beyond ↦
              absurd (let none : data_of f (n + 1) ≡ Document = data_of-past f (n + 1) beyond in cc)
        ]) ∙ contents
    | inr after ↦ elim (cases_eq n (node_count f)) [
      | inl same ↦ rw same last
      | inr other ↦ elim (cases_eq n (node_count f + 1)) [
        | inl same ↦ absurd (let none : template_of (data_of g n) ≡ false = rw (same, last) refl in cc)
        | inr beyond ↦ absurd (let none : template_of (data_of g n) ≡ false = ap template_of (past n (omega arith)) in cc)
      ]
    ]
  ];
  belong = λ n h. elim (cases_lt n (node_count f)) [
    | inl less ↦ ap template_of (old (n - 1) (omega arith)) ∙ has.belong n (ap is_contents (sym (old n less)) ∙ h)
    | inr after ↦ elim (cases_eq n (node_count f)) [
      | inl same ↦ absurd (let none : is_contents (data_of g n) ≡ false = rw (same, new) plain in cc)
      | inr other ↦ elim (cases_eq n (node_count f + 1)) [
        | inl same ↦ let before : n - 1 ≡ node_count f = omega arith in rw (before, new) template
        | inr beyond ↦ absurd (let none : is_contents (data_of g n) ≡ false = ap is_contents (past n (omega arith)) in cc)
      ]
    ]
  ];
}
  where
    g : Forest
    g = with_node (with_node f about) Contents

    one : node_count (with_node f about) ≡ node_count f + 1
    one = node_count-with_node f about

    old : (n : ℕ) → n < node_count f → data_of (with_node (with_node f about) Contents) n ≡ data_of f n
    old n less = data_of-with_node_old (with_node f about) Contents n (omega (arith, one)) ∙ data_of-with_node_old f about n less

    new : data_of (with_node (with_node f about) Contents) (node_count f) ≡ about
    new = data_of-with_node_old (with_node f about) Contents (node_count f) (omega (arith, one)) ∙ data_of-with_node_new f about

    last : data_of (with_node (with_node f about) Contents) (node_count f + 1) ≡ Contents
    last = ap (λ (k : ℕ). data_of (with_node (with_node f about) Contents) k) (sym one) ∙ data_of-with_node_new (with_node f about) Contents

    past : (n : ℕ) → node_count f + 1 < n → data_of (with_node (with_node f about) Contents) n ≡ Document
    past n beyond = data_of-past (with_node (with_node f about) Contents) n
        (omega (arith, one, node_count-with_node (with_node f about) Contents))

-- the flag for templates is set for HTML's `template` alone
pub HasContents-create_element : (f : Forest) (name : QualName) (attributes : List Attribute) (flags : ElementFlags)
    → HasContents f → flags.template ≡ is_html_name (Some name) (codes "template") → HasContents (create_element f name attributes flags)
HasContents-create_element f name attributes flags has flagged =
    cond_both flags.template (with_node (with_node f about) Contents) (with_node f about) (λ (x : Forest). HasContents x)
    (λ e. HasContents-with_template f about has e refl (sym flagged ∙ e))
    (λ e. HasContents-with_node f about has (record { contents = refl; template = e; name = sym flagged ∙ e }))
  where
    about : NodeData
    about = Element name attributes flags.template flags.mathml_annotation_xml_integration_point

pub HasContents-put_new : (f : Forest) (place : Place) (about : NodeData) → HasContents f → IsOrdinary about
    → HasContents (put_new f place about)
HasContents-put_new f place about has plain =
    HasContents-same_data (with_node f about) (put_new f place about) (HasContents-with_node f about has plain)
    (λ n. data_of-with_children (with_node f about) _ n _)

pub HasContents-put_text : (f : Forest) (place : Place) (characters : List ℕ) → HasContents f → HasContents (put_text f place characters)
HasContents-put_text f place characters has =
    cond_both (length characters == 0) f
    (joined_text f place characters (previous_at f place) (text_of (data_if f (previous_at f place)))) (λ (x : Forest). HasContents x)
    (λ e. has)
    (λ e. by_previous (previous_at f place))
  where
    new : HasContents (put_new f place (Text characters))
    new = HasContents-put_new f place (Text characters) has (record { contents = refl; template = refl; name = refl })

    by_text : (n : ℕ) (o : Option (List ℕ)) → text_of (data_of f n) ≡ o → HasContents (joined_text f place characters (Some n) o)
    by_text n None e = new
    by_text n (Some earlier) e =
        HasContents-with_data f n (Text (earlier ++ characters)) (text-IsNode f n earlier e) has
        (let is = text_of-is (data_of f n) earlier e in record {
          contents = ap is_contents (sym is);
          template = ap template_of (sym is);
          name = ap element_name (sym is);
        })

    by_previous : (o : Option ℕ) → HasContents (joined_text f place characters o (text_of (data_if f o)))
    by_previous None = new
    by_previous (Some n) = by_text n (text_of (data_of f n)) refl

pub IsAlike-with_attributes : (d : NodeData) (others : List Attribute) → IsAlike (with_attributes d others) d
IsAlike-with_attributes d others = record {
  contents = is_contents-with_attributes d others;
  template = template_of-with_attributes d others;
  name = element_name-with_attributes d others;
}

pub HasContents-add_attributes : (f : Forest) (n : ℕ) (others : List Attribute) → n < node_count f → HasContents f
    → HasContents (add_attributes f n others)
HasContents-add_attributes f n others there has =
    HasContents-with_data f n (with_attributes (data_of f n) others) there has (IsAlike-with_attributes (data_of f n) others)

document_everywhere : (n : ℕ) → data_of empty_forest n ≡ Document
document_everywhere zero = refl
document_everywhere (suc n) = refl

pub HasContents-empty : HasContents empty_forest
HasContents-empty = record {
  templates = λ n. rw (document_everywhere n) refl;
  follow = λ n h. absurd (let none : template_of (data_of empty_forest n) ≡ false = ap template_of (document_everywhere n) in cc);
  belong = λ n h. absurd (let none : is_contents (data_of empty_forest n) ≡ false = ap is_contents (document_everywhere n) in cc);
}
