-- The root is made.
use Rattle.std.proofs.Common.{◌≡◌, ℕ, false, List, [], None, refl, sym, subst, codes, inl, inr}
use Rattle.markup.specs.Forest.{Above, Forest, Last, above_of, node_count, put}
use Rattle.markup.specs.Named.{IsTree}
use Rattle.markup.specs.declared.attributes.Attribute.{Attribute}
use Rattle.markup.proofs.Forests.{IsMade-create_element, IsPutAt-put}
use Rattle.markup.proofs.PutTexts.{IsParent-document}
use Rattle.markup.proofs.Walks.{Above-put}
use Rattle.html_rules.specs.Names.{Html, element_name_of, flags_of}
use Rattle.html_rules.specs.Places.{create_root, with_element}
use Rattle.html_rules.specs.State.{State}
use Rattle.html_rules.specs.declared.rules.Rules.TheVariants.{Html5ever}
use Rattle.html_rules_laws.specs.Upright.{AreRooted, IsRooted, Upright}
use Rattle.html_rules_laws.proofs.TreePreserved.Standing.{above-top, stays-top}
use Rattle.html_rules_laws.proofs.TreePreserved.StandingSteps.{create_root-Standing}
use Rattle.html_rules_laws.proofs.TreePreserved.StandingTrees.{made-Made, put-Made}
use Rattle.html_rules_laws.proofs.TreePreserved.Poised.{named-kept}

only-itself : (f : Forest) (a n : ℕ) → above_of f n ≡ None → Above f a n → a ≡ n
only-itself f a n e Above.here = refl
only-itself f a n e (Above.further is up) = absurd (cc)

-- the document alone is above the new root
root-rooted : (f : Forest) (attributes : List Attribute) → IsTree f → above_of f 0 ≡ None
    → IsRooted (put (with_element f Html (codes "html") attributes false) (Last 0) (node_count f)) (node_count f)
root-rooted f attributes tree top a up =
    let flags = flags_of Html (codes "html") attributes false in
    let made : Forest = with_element f Html (codes "html") attributes false in
    let is = IsMade-create_element f (element_name_of Html (codes "html")) attributes flags tree.forest in
    let new = made-Made Html5ever f Html (codes "html") attributes false [] tree tt tt in
    let there = (IsParent-document f tree.forest).there in
    let loose = is.loose 0 there in
    let at = IsPutAt-put made (Last 0) (node_count f) is.is (IsParent-document made new.stays.tree.forest) loose in
    elim (Above-put made (put made (Last 0) (node_count f)) 0 (node_count f) at.put a (node_count f) up) [
      | inl old ↦ inl (only-itself made a (node_count f) loose.no_parent old)
      | inr under ↦ inr (above-top made a (stays-top f made tree new.stays top) under)
    ]

pub rooted-Upright : (attributes : List Attribute) (s : State) → s.open_elems ≡ [] → Upright s → Upright (create_root attributes s)
unfolding create_root
rooted-Upright attributes s e h =
    let f : Forest = s.forest in
    let at = IsParent-document f h.standing.tree.forest in
    let made = made-Made s.opts.rules f Html (codes "html") attributes false s.open_elems h.standing.tree tt h.standing.opened in
    let whole = put-Made s.opts.rules f Html (codes "html") attributes false s.open_elems (Last 0) h.standing.tree tt
    h.standing.opened at (IsParent-document _ made.stays.tree.forest) in
    record {
      standing = create_root-Standing attributes s h.standing;
      rooted = (
        λ _. (e, root-rooted f attributes h.standing.tree h.standing.top),
        subst (λ xs. AreRooted (put (with_element f Html (codes "html") attributes false) (Last 0) (node_count f)) xs) (sym e) tt,
      );
      head = named-kept s.head_elem f (put (with_element f Html (codes "html") attributes false) (Last 0)
          (node_count f)) whole.stays.names.names h.head;
      context = h.context;
    }
