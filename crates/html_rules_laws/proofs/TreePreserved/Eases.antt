-- Changes under which an open `html` stays the root.
use Rattle.std.proofs.Common.{◌≡◌, ◌∙◌, ℕ, ◌<◌, Bool, true, false, List, [], ◌∷◌, Some, refl, sym, subst, true≢false}
use Rattle.markup.specs.Forest.{Above, Forest, data_of, element_name, node_count}
use Rattle.markup.specs.Named.{IsTree}
use Rattle.markup.specs.declared.names.QualName.{QualName}
use Rattle.markup.proofs.PutTexts.{element-IsNode}
use Rattle.html_rules.specs.Choice.{choose}
use Rattle.html_rules.specs.Names.{element_name_of}
use Rattle.html_rules.specs.State.{Open, State, is_in}
use Rattle.html_rules.specs.declared.tag_set.TagSet.TheVariants as set
use Rattle.html_rules_laws.specs.Soundness.{AreOpened}
use Rattle.html_rules_laws.specs.Upright.{AreRooted}
use Rattle.html_rules_laws.proofs.TreePreserved.Standing.{IsPart, Stays, gone, kept, none}
use Rattle.html_rules_laws.proofs.TreePreserved.StandingTrees.{Made, stays-nodes}

-- elements keep their names, and an open `html` stays the root
pub record Eases (s r : State) : Type 0 where
  pub names : (n : ℕ) (name : QualName) → element_name (data_of s.forest n) ≡ Some name → element_name (data_of r.forest n) ≡ Some name
  pub rooted : AreRooted s.forest s.open_elems → AreRooted r.forest r.open_elems

pub eased-same : (s : State) → Eases s s
eased-same s = record { names = λ n name e. e; rooted = λ h. h }

pub eased-after : (s r q : State) → Eases s r → Eases r q → Eases s q
eased-after s r q h k = record { names = λ n name e. k.names n name (h.names n name e); rooted = λ a. k.rooted (h.rooted a) }

pub eased-either : (b : Bool) (s x y : State) → Eases s x → Eases s y → Eases s (choose b (λ _. x) (λ _. y))
eased-either true s x y h k = h
eased-either false s x y h k = k

empty-part : (ys xs : List Open) → IsPart ys xs → xs ≡ [] → ys ≡ []
empty-part ys xs none e = refl
empty-part ys xs (kept x xs' ys' part) e = absurd (cc)
empty-part ys xs (gone x xs' ys' part) e = absurd (cc)

pub rooted-part : (f : Forest) (xs ys : List Open) → IsPart ys xs → AreRooted f xs → AreRooted f ys
rooted-part f xs ys none h = h
rooted-part f xs ys (kept x xs' ys' part) h = (
  λ e. let own = h.0 e in (empty-part ys' xs' part own.0, own.1),
  rooted-part f xs' ys' part h.1,
)
rooted-part f xs ys (gone x xs' ys' part) h = rooted-part f xs' ys' part h.1

pub rooted-stays : (f g : Forest) (xs : List Open) → ((a n : ℕ) → n < node_count f → Above g a n → Above f a n)
    → AreOpened f xs → AreRooted f xs → AreRooted g xs
rooted-stays f g [] above h r = tt
rooted-stays f g (x ∷ xs) above h r = (
  λ e. let own = r.0 e in (
    own.0,
    λ a up. own.1 a (above a x.number
        (element-IsNode f x.number (element_name_of x.namespace x.name) h.0.named) up),
  ),
  rooted-stays f g xs above h.1 r.1,
)

-- some elements leave, and the older nodes have nothing new above them
pub eased-part : (s r : State) → AreOpened s.forest s.open_elems → Stays s.forest r.forest → IsPart r.open_elems s.open_elems → Eases s r
eased-part s r opened stays part = record {
  names = stays.names.names;
  rooted = λ h. rooted-part r.forest s.open_elems r.open_elems part (rooted-stays s.forest r.forest s.open_elems stays.above opened h);
}

pub stays-same : (f : Forest) → IsTree f → Stays f f
stays-same f tree = stays-nodes f f.quirks f.errors tree

-- an element comes that is no `html`
pub eased-made : (s r : State) (x : Open) → AreOpened s.forest s.open_elems → Made s.forest r.forest s.open_elems x
    → r.open_elems ≡ x ∷ s.open_elems → is_in set.Html x ≡ false → Eases s r
eased-made s r x opened made e no_html = record {
  names = made.stays.names.names;
  rooted = λ h. subst (λ xs. AreRooted r.forest xs) (sym e) (
    λ html. absurd (true≢false (sym html ∙ no_html)),
    rooted-stays s.forest r.forest s.open_elems made.stays.above opened h,
  );
}
