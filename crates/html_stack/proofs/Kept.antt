-- What the steps of formatting elements keep, and how they are put together.
use Rattle.std.proofs.Common.{◌≡◌, ◌∙◌, Bool, List, [], ◌∷◌, refl, sym, ap, subst}
use Rattle.std.specs.Prelude.{◌&&◌, nat_eq, nat_le}
use Rattle.markup.specs.Forest.{Forest, node_count}
use Rattle.html_tokens.specs.declared.tags.Tag.{Tag}
use Rattle.html_rules.specs.Formatting.{count_equal, create_formatting_element_for, is_equiv_modulo_attr_order, with_room, without_earliest}
use Rattle.html_rules.specs.Places.{insert_element, insert_element_for}
use Rattle.html_rules.specs.State.{Entry, Element, Marker, Open, State}
use Rattle.html_rules_laws.specs.Soundness.{AreListed, IsStanding}
use Rattle.html_rules_laws.proofs.TreePreserved.AdoptionWalk.{choose-listed}
use Rattle.html_rules_laws.proofs.TreePreserved.StandingSteps.{formatting-Standing}
use Rattle.html_stack.specs.Stacks.{Stacked, joined}
use Rattle.html_stack.proofs.States.{some_state}

earliest-listed : (f : Forest) (tag : Tag) (entries : List Entry) → AreListed f entries → AreListed f (without_earliest tag entries)
earliest-listed f tag [] h = tt
earliest-listed f tag (Marker ∷ entries) h = h
earliest-listed f tag (Element n other ∷ entries) h =
    choose-listed f (is_equiv_modulo_attr_order tag other && nat_eq (count_equal tag entries) 0) entries
    (Element n other ∷ without_earliest tag entries) h.1 (h.0, earliest-listed f tag entries h.1)

pub with_entries : (f : Forest) (xs : List Open) (entries others : List Entry) → IsStanding f xs entries
    → AreListed f others → IsStanding f xs others
with_entries f xs entries others is h = record { tree = is.tree; opened = is.opened; apart = is.apart; listed = h; top = is.top }

pub room-kept : (f : Forest) (tag : Tag) (xs : List Open) (entries : List Entry) → IsStanding f xs entries
    → IsStanding f xs (with_room tag entries)
room-kept f tag xs entries is = with_entries f xs entries (with_room tag entries) is
    (choose-listed f (nat_le 3 (count_equal tag entries)) (without_earliest tag entries) entries
    (earliest-listed f tag entries is.listed) is.listed)

-- an element is inserted for a tag, and listed
pub created-step : (tag : Tag) (s : State) (old mid new : Stacked) (f g : Forest)
    → joined s mid g ≡ insert_element_for tag (joined s (record old { active_formatting = with_room tag old.active_formatting }) f)
    → new ≡ record mid { active_formatting = Element (node_count f) tag ∷ mid.active_formatting }
    → joined s new g ≡ create_formatting_element_for tag (joined s old f)
unfolding create_formatting_element_for insert_element
created-step tag s old mid new f g inserted listed =
    ap (λ v. joined s v g) listed
    ∙ ap (λ (t : State). record t { active_formatting = Element (node_count f) tag ∷ t.active_formatting }) inserted

pub created-kept : (tag : Tag) (foster : Bool) (old new : Stacked) (f g : Forest) → IsStanding f old.open_elems old.active_formatting
    → ((s : State) → s.foster_parenting ≡ foster → joined s new g ≡ create_formatting_element_for tag
    (joined s old f)) → IsStanding g new.open_elems new.active_formatting
created-kept tag foster old new f g is step =
    let s : State = some_state foster in
    subst (λ (t : State). IsStanding t.forest t.open_elems t.active_formatting) (sym (step s refl))
    (formatting-Standing tag (joined s old f) is)
