-- The words after "<!" and after a doctype's name, and what was read of one (HTML Standard, sections 13.2.5.42 and 13.2.5.56).
use Rattle.std.specs.Prelude.{◌≡◌, ℕ, Bool, true, false, ◌&&◌, ◌||◌, nat_eq, List, [], ◌∷◌, ◌++◌, codes}
use Rattle.std.specs.Char.{to_ascii_lowercase}
use Rattle.html_tokens.specs.Characters.{begins, begins_any_case}
use Rattle.html_tokenizer_parts.specs.declared.keyword.Word.{Word}
use Rattle.html_tokenizer_parts.specs.declared.keyword.Word.TheVariants.{Dashes, Doctype, Cdata, Public, System}

abbrev pub spelling : Word → List ℕ
spelling Dashes = codes "--"
spelling Doctype = codes "doctype"
spelling Cdata = codes "[CDATA["
spelling Public = codes "public"
spelling System = codes "system"

-- whether a word is read in any case
abbrev pub is_any_case : Word → Bool
is_any_case Dashes = false
is_any_case Doctype = true
is_any_case Cdata = false
is_any_case Public = true
is_any_case System = true

-- a character as it is compared
abbrev pub letter : Bool → ℕ → ℕ
letter true c = to_ascii_lowercase c
letter false c = c

-- whether the characters cs spell the whole word
abbrev pub is_spelt : Bool → List ℕ → List ℕ → Bool
is_spelt any [] [] = true
is_spelt any [] (c ∷ cs) = false
is_spelt any (w ∷ ws) [] = false
is_spelt any (w ∷ ws) (c ∷ cs) = nat_eq w (letter any c) && is_spelt any ws cs

-- whether they spell its beginning, and not all of it
abbrev pub is_begun : Bool → List ℕ → List ℕ → Bool
is_begun any [] cs = false
is_begun any (w ∷ ws) [] = true
is_begun any (w ∷ ws) (c ∷ cs) = nat_eq w (letter any c) && is_begun any ws cs

-- whether the word begins with these characters
abbrev pub has_front : Bool → List ℕ → List ℕ → Bool
has_front any ws [] = true
has_front any [] (c ∷ cs) = false
has_front any (w ∷ ws) (c ∷ cs) = nat_eq w (letter any c) && has_front any ws cs

-- the same of the words: their beginning or the whole, the whole, or their beginning alone
abbrev pub leads : Word → List ℕ → Bool
leads word cs = has_front (is_any_case word) (spelling word) cs

abbrev pub becomes : Word → List ℕ → Bool
becomes word cs = is_spelt (is_any_case word) (spelling word) cs

abbrev pub may_become : Word → List ℕ → Bool
may_become word cs = is_begun (is_any_case word) (spelling word) cs

-- characters that are the beginning of some word
pub record IsPart (cs : List ℕ) : Type 0 where
  pub word : Word
  pub begun : may_become word cs ≡ true

-- whether the characters cs and then c are the beginning of a word after "<!"
abbrev pub may_declare : List ℕ → ℕ → Bool
may_declare cs c = may_become Dashes (cs ++ c ∷ []) || may_become Doctype (cs ++ c ∷ []) || may_become Cdata (cs ++ c ∷ [])

-- Whatever follows the characters cs and then c, they open a bogus comment after "<!".
pub record OpensNothing (asks : Bool) (cs : List ℕ) (c : ℕ) : Type 0 where
  pub dashes : (t : List ℕ) → begins (codes "--") (cs ++ c ∷ t) ≡ false
  pub doctype : (t : List ℕ) → begins_any_case (codes "doctype") (cs ++ c ∷ t) ≡ false
  pub cdata : (t : List ℕ) → (asks && begins (codes "[CDATA[") (cs ++ c ∷ t)) ≡ false

-- After the characters cs, c makes none of the words after "<!" whole.
pub record MakesNoWord (cs : List ℕ) (c : ℕ) : Type 0 where
  pub dashes : becomes Dashes (cs ++ c ∷ []) ≡ false
  pub doctype : becomes Doctype (cs ++ c ∷ []) ≡ false
  pub cdata : becomes Cdata (cs ++ c ∷ []) ≡ false

-- whether the characters cs and then c are the beginning of a word after a doctype's name
abbrev pub may_identify : List ℕ → ℕ → Bool
may_identify cs c = may_become Public (cs ++ c ∷ []) || may_become System (cs ++ c ∷ [])

-- After the characters cs, c makes neither word after a doctype's name whole.
pub record MakesNoIdentifier (cs : List ℕ) (c : ℕ) : Type 0 where
  pub public_word : becomes Public (cs ++ c ∷ []) ≡ false
  pub system_word : becomes System (cs ++ c ∷ []) ≡ false

-- the first of the characters cs and then c
abbrev pub front_of : List ℕ → ℕ → ℕ
front_of [] c = c
front_of (x ∷ cs) c = x
