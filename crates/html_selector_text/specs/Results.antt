-- What reading a text gives: a value, or the first fault with its place; and how a function's result is compared with it.
use Rattle.std.specs.Prelude.{◌≡◌, ℕ, List, Result, Ok, Err}
use Rattle.html_selector_text.specs.Characters.{place_of}
use Rattle.html_selector_text.specs.declared.fault.SyntaxFault.{SyntaxFault}
use Rattle.html_selector_text.specs.declared.fault.SelectorError.{SelectorError}
use Rattle.html_selector_text.specs.declared.fault.SelectorError.TheVariants as errors

-- what is wrong, and where
pub record Wrong : Type 0 where
  pub fault : SyntaxFault
  pub at : ℕ

infixl 10 ◌>>=◌
abbrev pub ◌>>=◌ : {A B : Type 0} → Result A Wrong → (A → Result B Wrong) → Result B Wrong
(Ok x) >>= f = f x
(Err e) >>= f = Err e

abbrev pub Fails : {Y : Type 0} → SelectorError → Result Y Wrong → Type 0
Fails errors.Memory read = Unit {0}
Fails (errors.Syntax fault at) read = read ≡ Err (record { fault = fault; at = at })

-- a result, seen by `view`, is what reading gives, unless memory ran out
abbrev pub Gives : {X Y : Type 0} → (X → Y) → Result X SelectorError → Result Y Wrong → Type 0
Gives view (Ok x) read = read ≡ Ok (view x)
Gives view (Err e) read = Fails e read

-- an error told at another place; want of memory has none
abbrev pub MovedTo : ℕ → SelectorError → SelectorError → Type 0
MovedTo at errors.Memory told = told ≡ errors.Memory
MovedTo at (errors.Syntax fault before) told = told ≡ errors.Syntax fault at

-- an error told at its place in the text as it was given
abbrev pub PlacedIn : List ℕ → SelectorError → SelectorError → Type 0
PlacedIn text errors.Memory told = told ≡ errors.Memory
PlacedIn text (errors.Syntax fault at) told = told ≡ errors.Syntax fault (place_of at text)
