-- What a serializer is told, kept call by call.
use Rattle.std.specs.Prelude.{◌≡◌, ℕ, ◌==◌, ◌&&◌, Bool, List, [], ◌∷◌, ◌++◌, None, Ok, nat_eq, refl}
use Rattle.std.proofs.Common.{ap, sym}
use Rattle.std.specs.Bool.{Decides, one_answer}
use Rattle.std.specs.Cmp.{IsEquivalence}
use Rattle.std.specs.Cmp.Lexicographic.{pointwise}
use Rattle.std.proofs.lemmas.Bool.{eq-eqb, eqb-true}
use Rattle.markup.specs.Equality.{and-Decides, attribute_eq, attribute_lists_by_value, names_by_value, texts_by_value}
use Rattle.markup.specs.Names.{same_name}
use Rattle.markup.specs.Calls.{Call, Step}
use Rattle.markup.specs.Calls.Call.{StartElem, EndElem, WriteText, WriteComment, WriteDoctype, WriteProcessingInstruction}
use Rattle.markup.specs.declared.attributes.Attribute.{Attribute}
use Rattle.markup.specs.declared.names.QualName.{QualName}
use Rattle.html_nodes.specs.declared.alike.SeenCall.{SeenCall}

abbrev pub no_name : QualName
no_name = record { prefix = None; ns = []; local = [] }

abbrev pub told : ℕ → QualName → List Attribute → List ℕ → List ℕ → SeenCall
told kind name attributes text more = record { kind = kind; name = name; attributes = attributes; text = text; more = more }

-- a call, as it is kept
abbrev pub told_of : Call → SeenCall
told_of (StartElem name attributes) = told 0 name attributes [] []
told_of (EndElem name) = told 1 name [] [] []
told_of (WriteText text) = told 2 no_name [] text []
told_of (WriteComment text) = told 3 no_name [] text []
told_of (WriteDoctype name) = told 4 no_name [] name []
told_of (WriteProcessingInstruction target text) = told 5 no_name [] target text

abbrev pub all_told : List Call → List SeenCall
all_told [] = []
all_told (call ∷ calls) = told_of call ∷ all_told calls

-- a call more, as who keeps them all takes it
abbrev pub kept : Step (List SeenCall)
kept calls call = Ok (calls ++ told_of call ∷ [])

-- EQUALITY

abbrev pub same_told : SeenCall → SeenCall → Bool
same_told a b =
    a.kind == b.kind && (same_name a.name b.name
    && (pointwise attribute_eq a.attributes b.attributes && (pointwise nat_eq a.text b.text && pointwise nat_eq a.more b.more)))

numbers_by_value : (a b : ℕ) → Decides (a == b) (a ≡ b)
numbers_by_value a b = (eqb-true a b, eq-eqb a b)

pub told_by_value : (a b : SeenCall) → Decides (same_told a b) (a ≡ b)
told_by_value a b =
    let texts = and-Decides _ _ (texts_by_value a.text b.text) (texts_by_value a.more b.more) in
    let d = and-Decides _ _ (numbers_by_value a.kind b.kind)
    (and-Decides _ _ (names_by_value a.name b.name) (and-Decides _ _ (attribute_lists_by_value a.attributes b.attributes) texts)) in (
      λ e. let h = d.0 e in λ i. record { kind = h.0 i; name = h.1.0 i; attributes = h.1.1.0 i; text = h.1.1.1.0 i; more = h.1.1.1.1 i },
      λ e. d.1 (ap (λ t. t.kind) e, (ap (λ t. t.name) e, (ap (λ t. t.attributes) e, (ap (λ t. t.text) e, ap (λ t. t.more) e)))),
    )

pub told_equivalence : IsEquivalence same_told
told_equivalence = record {
  refl = λ a. (told_by_value a a).1 refl;
  symm = λ a b. one_answer (same_told a b) (same_told b a) (told_by_value a b) (
    λ h. sym ((told_by_value b a).0 h),
    λ e. (told_by_value b a).1 (sym e),
  );
  congr = λ a b c h. ap (λ k. same_told k c) ((told_by_value a b).0 h);
}
