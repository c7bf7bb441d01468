-- What actions do, by what they are.
use Rattle.std.proofs.Common.{◌≡◌, ◌∙◌, ◌∷◌, Bool, true, false, ap, sym, is_some, true≢false}
use Rattle.std.specs.Prelude.{Option, Some, None, is_none, not}
use Rattle.html_tokens.specs.declared.token.Token.{Token}
use Rattle.html_modes.specs.Tables.{action_of}
use Rattle.html_modes.specs.declared.table.Action.{Action}
use Rattle.html_faithful.specs.Harmless.{Made, does, provided}
use Rattle.html_rules.specs.Actions.{without_first}
use Rattle.html_rules.specs.declared.insertion_mode.InsertionMode.{InsertionMode}
use Rattle.html_faithful.specs.Harmless.{with_template_modes}
use Rattle.html_faithful_judge.specs.Mades.{is_alone}

pub does-as : (a b : Action) (t : Token) (m : Made) (r : Option Made) → a ≡ b → does (action_of b) t m ≡ r → does (action_of a) t m ≡ r
does-as a b t m r e h = ap (λ a. does (action_of a) t m) e ∙ h

pub provided-as : (a b : Bool) (m : Made) → b ≡ a → provided a m ≡ provided b m
provided-as a b m e = ap (λ b. provided b m) (sym e)

-- none is not some
pub none-some : {A : Type 0} (o : Option A) (b : Bool) → b ≡ is_some o → not b ≡ is_none o
none-some None b e = ap not e
none-some (Some x) b e = ap not e

-- an action that has others in it is not alone
pub not-alone : (a b : Action) → a ≡ b → is_alone (action_of a) ≡ true → is_alone (action_of b) ≡ false → ⊥
not-alone a b e h k = true≢false (sym h ∙ (ap (λ a. is_alone (action_of a)) e ∙ k))

the : {A : Type 0} (a b : A) → Some a ≡ Some b → a ≡ b
the a b h = cc

-- the current template insertion mode is changed where it leaves and another is pushed
pub set-as : (mode : InsertionMode) (old mid : Made) (r : Option Made)
    → Some (with_template_modes (without_first old.spot.template_modes) old) ≡ Some mid
    → Some (with_template_modes (mode ∷ mid.spot.template_modes) mid) ≡ r
    → Some (with_template_modes (mode ∷ without_first old.spot.template_modes) old) ≡ r
set-as mode old mid r popped pushed =
    ap (λ (m : Made). Some (with_template_modes (mode ∷ m.spot.template_modes) m))
    (the (with_template_modes (without_first old.spot.template_modes) old) mid popped) ∙ pushed
