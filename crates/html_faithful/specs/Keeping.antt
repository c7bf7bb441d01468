-- What is asked of a state at a spot holds again after each token that is settled so.
use Rattle.std.specs.Prelude.{◌≡◌, true, false, length, List, [], ◌∷◌, IfSome}
use Rattle.html_tokens.specs.declared.token.Token.{Token}
use Rattle.html_rules.specs.Rules.{is_self_closing, settle}
use Rattle.html_rules.specs.Stack.{has_open}
use Rattle.html_rules.specs.State.{Open, State}
use Rattle.html_rules.specs.declared.tag_set.TagSet.TheVariants as set
use Rattle.html_faithful.specs.Checks.{is_kept_so}
use Rattle.html_faithful.specs.Faces.{Looks}
use Rattle.html_faithful.specs.Harmless.{made_of}
use Rattle.html_faithful.specs.Listing.{Lists}
use Rattle.html_faithful.specs.Numbers.{AreNumbered}
use Rattle.html_faithful.specs.Spots.{Spot, form_of}
use Rattle.html_faithful.specs.Steps.{tag_in}
use Rattle.html_faithful.specs.Turns.{IsDone}
use Rattle.html_faithful.specs.Ways.{path_by}

-- the elements of a path are numbered by how many they stand in
abbrev pub IsCounted : List Open → Type 0
IsCounted [] = Unit {0}
IsCounted (x ∷ xs) = (x.number ≡ length xs) × IsCounted xs

-- a state stands at a spot between tokens
pub record IsAt (s : State) (p : Spot) : Type 0 where
  pub looks : Looks s p
  -- the list and the form element pointer are those of what is open
  pub lists : Lists s.open_elems s.active_formatting
  pub form : s.form_elem ≡ form_of s.open_elems
  pub numbered : AreNumbered s
  pub counted : IsCounted p.path
  -- no element is open of which a sink is asked whether HTML may stand in it
  pub unasked : has_open set.AnnotationXml p.path ≡ false
  -- no text waits in a table
  pub no_text : s.pending_table_text ≡ []

-- A token that keeps the list and the pointer those of the path is settled as was made of it, and the state stands at the new spot, where
-- as much is asked of it again. The path has one element more, one less, or is as before.
abbrev pub AreSpotsKept : Type 0
AreSpotsKept = (t : Token) (p : Spot) (s : State) → IsAt s p → is_self_closing t ≡ false
    → IfSome (made_of t p) (λ made. is_kept_so (tag_in t).name p made ≡ true
    → IsDone t s (settle t s) made × IsAt (settle t s).state made.spot × (made.spot.path ≡ path_by made.spot.rules made.put made.closed p.path))
