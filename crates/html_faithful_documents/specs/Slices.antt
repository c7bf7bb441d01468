-- What it means that a slice of a text is read as one token, whatever is wrong with it.
use Rattle.std.specs.Prelude.{◌≡◌, ℕ, Bool, List, ◌∷◌, ◌++◌, length, Option, Some, None}
use Rattle.html_tokens.specs.Item.{Item, Stand}
use Rattle.html_tokens.specs.Items.{item}
use Rattle.html_tokens.specs.Table.{Row}
use Rattle.html_tokens.specs.declared.token.Token.{Token}

-- what an item tells, how long it is, and where the reading stands after it
pub record IsItem (i : Item) (token : Option Token) (len : ℕ) (next : Stand) : Type 0 where
  pub gives : i.token ≡ token
  pub takes : i.len ≡ len
  pub leaves : i.next ≡ next

-- A slice, with a text after it: items that tell nothing, and then one that tells the token. The CDATA question is answered so.
pub data Tells (rows : List Row) (cdata : Bool) (t : List ℕ) : Stand → List ℕ → Token → Stand → Type 0 where
  Last : {st next : Stand} {token : Token} (c : ℕ) (cs : List ℕ)
      → IsItem (item rows cdata st c (cs ++ t)) (Some token) (length (c ∷ cs)) next → Tells rows cdata t st (c ∷ cs) token next
  More : {st next : Stand} {token : Token} (mid : Stand) (c : ℕ) (cs b : List ℕ)
      → IsItem (item rows cdata st c (cs ++ (b ++ t))) None (length (c ∷ cs)) mid → Tells rows cdata t mid b token next
      → Tells rows cdata t st ((c ∷ cs) ++ b) token next

-- whatever follows it, and however the question is answered
abbrev pub IsTold : List Row → Stand → List ℕ → Token → Stand → Type 0
IsTold rows st slice token next = (cdata : Bool) (t : List ℕ) → Tells rows cdata t st slice token next
