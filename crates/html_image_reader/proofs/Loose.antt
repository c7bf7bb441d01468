-- An empty node that stands under nothing may be put into another one.
use Rattle.std.proofs.Common.{◌≡◌, ◌≢◌, ◌∙◌, ◌+◌, ◌-◌, ℕ, true, false, [], Some, ap, sym, refl, inl, inr, ◌⊎◌, arith}
use Rattle.std.proofs.lemmas.Bool.{cases_Bool}
use Rattle.markup.specs.Forest.{Above, Forest, IsForest, IsLoose, NodeData, above_of, children_of, data_of, is_among, is_contents}
use Rattle.markup.specs.Forest.{parent_of, template_of}
use Rattle.markup.specs.Forest.Above.{here, further}
use Rattle.markup.specs.Forest.NodeData.{Document, Contents, Doctype, Text, Comment, ProcessingInstruction, Element}
use Rattle.markup.specs.Named.{HasContents}
use Rattle.markup.proofs.Parents.{is_among-parent}
use Rattle.markup.proofs.Walks.{not_above-childless}
use Rattle.html_image_reader.specs.Placing.{IsEmpty, IsTop}

-- what is under a childless node is its contents
under-contents : (f : Forest) → IsForest f → (c : ℕ) → children_of f c ≡ [] → (m : ℕ) → above_of f m ≡ Some c → m ≡ c + 1
under-contents f is c childless m e =
    elim (cases_Bool (is_contents (data_of f m))) [
      | inl contents ↦
          let follow = is.contents_follow m contents in
          let above : above_of f m ≡ Some (m - 1) = rw contents refl in
          let before : m - 1 ≡ c = cc in
          omega arith
      | inr plain ↦
          let above : above_of f m ≡ parent_of f m = rw plain refl in
          let among : is_among m (children_of f c) ≡ true = is_among-parent f m c (sym above ∙ e) in
          let absent : is_among m (children_of f c) ≡ false = rw childless refl in
          absurd (cc)
    ]

through : (f : Forest) → IsForest f → (c p : ℕ) → children_of f c ≡ [] → Above f c p → (p ≡ c) ⊎ Above f (c + 1) p
through f is c p childless here = inl refl
through f is c p childless (further {n} {m} e r) =
    elim (through f is c m childless r) [
      | inl same ↦ inr (let next : n ≡ c + 1 = under-contents f is c childless n (e ∙ ap Some same) in rw next here)
      | inr up ↦ inr (further e up)
    ]

contents-no_template : (about : NodeData) → is_contents about ≡ true → template_of about ≡ false
contents-no_template Contents h = refl
contents-no_template Document h = refl
contents-no_template (Doctype name public_id system_id) h = refl
contents-no_template (Text text) h = refl
contents-no_template (Comment text) h = refl
contents-no_template (ProcessingInstruction target text) h = refl
contents-no_template (Element name attributes template integration_point) h = absurd (cc)

pub not-above : (f : Forest) → IsForest f → HasContents f → (c p : ℕ) → IsEmpty f c → p ≢ c
    → (template_of (data_of f c) ≡ true → p ≢ c + 1) → Above f c p → ⊥
not-above f is has c p empty other apart a =
    elim (cases_Bool (is_contents (data_of f (c + 1)))) [
      | inl contents ↦
          let template : template_of (data_of f c) ≡ true = owner c contents in
          elim (through f is c p empty.childless a) [
            | inl same ↦ other same
            | inr up ↦ not_above-childless f is (c + 1) p (empty.empty_contents template) (after contents) (apart template) up
          ]
      | inr plain ↦ not_above-childless f is c p empty.childless plain other a
    ]
  where
    owner : (n : ℕ) → is_contents (data_of f (n + 1)) ≡ true → template_of (data_of f n) ≡ true
    owner n contents =
        let back : n + 1 - 1 ≡ n = omega arith in
        ap (λ (k : ℕ). template_of (data_of f k)) (sym back) ∙ has.belong (n + 1) contents

    after : is_contents (data_of f (c + 1)) ≡ true → is_contents (data_of f (c + 1 + 1)) ≡ false
    after contents = elim (cases_Bool (is_contents (data_of f (c + 1 + 1)))) [
      | inl next ↦
          let one : template_of (data_of f (c + 1)) ≡ true = owner (c + 1) next in
          let none : template_of (data_of f (c + 1)) ≡ false = contents-no_template (data_of f (c + 1)) contents in
          absurd (cc)
      | inr plain ↦ plain
    ]

pub loose : (f : Forest) → IsForest f → HasContents f → (c p : ℕ) → IsTop f c → IsEmpty f c → p ≢ c
    → (template_of (data_of f c) ≡ true → p ≢ c + 1) → IsLoose f p c
loose f is has c p top empty other apart = record {
  there = top.there;
  no_parent = top.top;
  not_above = not-above f is has c p empty other apart;
}
