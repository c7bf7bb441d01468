-- Doctypes (HTML Standard, sections 13.2.5.53 to 13.2.5.68).
use Rattle.std.specs.Prelude.{ℕ, Bool, true, false, ◌||◌, not, nat_eq, List, [], ◌∷◌, ◌++◌, take, drop, codes, Some, None, if◌then◌else◌}
use Rattle.html_tokens.specs.declared.token.Doctype.{Doctype}
use Rattle.html_tokens.specs.declared.token.Token.TheVariants.{DoctypeToken}
use Rattle.html_tokens.specs.Characters.{shown, has_null, all_lowered, ends_word, run, white, begins_any_case}
use Rattle.html_tokens.specs.Item.{Stand, Item, grave_if, longer, longer_by, marked, token_item}

-- a doctype of which nothing was read
abbrev pub no_doctype : Doctype
no_doctype = record { name = None; public_id = None; system_id = None; force_quirks = false }

abbrev pub forced : Doctype → Doctype
forced d = record d { force_quirks = true }

-- a doctype that sets quirks is faulty
abbrev pub given : Stand → Doctype → ℕ → Item
given st d n = token_item (grave_if d.force_quirks) (DoctypeToken d) n st

-- the same of a doctype with more than a name, of which errors may be told
abbrev pub given_more : Stand → Doctype → ℕ → Item
given_more st d n = marked true (given st d n)

abbrev pub junk_by : Bool → Stand → Doctype → (Unit {0} → Item) → Item
junk_by true st d go = given_more st d 1
junk_by false st d go = longer (go tt)

-- what is dropped up to ">" or the end of input (section 13.2.5.68)
abbrev pub junk_after : Stand → Doctype → List ℕ → Item
junk_after st d [] = given_more st d 0
junk_after st d (c ∷ t) = junk_by (nat_eq c 62) st d (λ _. junk_after st d t)

-- after a system identifier: junk here sets nothing (section 13.2.5.67)
abbrev pub doctype_end_at : Stand → Doctype → List ℕ → Item
doctype_end_at st d [] = given st (forced d) 0
doctype_end_at st d (c ∷ t) = junk_after st d (c ∷ t)

abbrev pub after_system : Stand → Doctype → List ℕ → Item
after_system st d t = longer_by (white t) (doctype_end_at st d (drop (white t) t))

-- how an identifier ends: by its quote, by a ">" or with the input (sections 13.2.5.59, 13.2.5.60, 13.2.5.65 and 13.2.5.66)
abbrev pub closed_by : Bool → Stand → Doctype → List ℕ → (Doctype → List ℕ → Item) → Item
closed_by true st d t go = longer (go d t)
closed_by false st d t go = given st (forced d) 1

abbrev pub identifier_end : ℕ → Stand → Doctype → List ℕ → (Doctype → List ℕ → Item) → Item
identifier_end quote st d [] go = given st (forced d) 0
identifier_end quote st d (c ∷ t) go = closed_by (nat_eq c quote) st d t go

-- how many characters an identifier has
abbrev pub identifier : ℕ → List ℕ → ℕ
identifier quote t = run (λ c. nat_eq c quote || nat_eq c 62) t

abbrev pub shown_all : List ℕ → List ℕ
shown_all [] = []
shown_all (c ∷ cs) = shown c ∷ shown_all cs

-- the rest of a system identifier
abbrev pub system_after : ℕ → Stand → Doctype → List ℕ → List ℕ → Item
system_after quote st d front t =
    let n = identifier quote t in
    longer_by n (identifier_end quote st (record d { system_id = Some (front ++ shown_all (take n t)) }) (drop n t) (after_system st))

-- a quote opens an identifier, ">" ends the doctype, all else is junk
pub data Opening : Type 0 where
  Quote : Opening
  Close : Opening
  Junk : Opening

abbrev pub opening : ℕ → Opening
opening c = if nat_eq c 34 || nat_eq c 39 then Quote else if nat_eq c 62 then Close else Junk

abbrev pub system_by : Opening → Stand → Doctype → ℕ → List ℕ → Item
system_by Quote st d c t = longer (system_after c st d [] t)
system_by Close st d c t = given st (forced d) 1
system_by Junk st d c t = junk_after st (forced d) (c ∷ t)

-- after SYSTEM and white space (sections 13.2.5.63 and 13.2.5.64)
abbrev pub system_at : Stand → Doctype → List ℕ → Item
system_at st d [] = given st (forced d) 0
system_at st d (c ∷ t) = system_by (opening c) st d c t

abbrev pub second_by : Opening → Stand → Doctype → ℕ → List ℕ → Item
second_by Quote st d c t = longer (system_after c st d [] t)
second_by Close st d c t = given_more st d 1
second_by Junk st d c t = junk_after st (forced d) (c ∷ t)

-- after a public identifier and white space (sections 13.2.5.61 and 13.2.5.62)
abbrev pub second_identifier_at : Stand → Doctype → List ℕ → Item
second_identifier_at st d [] = given st (forced d) 0
second_identifier_at st d (c ∷ t) = second_by (opening c) st d c t

abbrev pub after_public : Stand → Doctype → List ℕ → Item
after_public st d t = longer_by (white t) (second_identifier_at st d (drop (white t) t))

-- the rest of a public identifier
abbrev pub public_after : ℕ → Stand → Doctype → List ℕ → List ℕ → Item
public_after quote st d front t =
    let n = identifier quote t in
    longer_by n (identifier_end quote st (record d { public_id = Some (front ++ shown_all (take n t)) }) (drop n t) (after_public st))

abbrev pub public_by : Opening → Stand → Doctype → ℕ → List ℕ → Item
public_by Quote st d c t = longer (public_after c st d [] t)
public_by Close st d c t = given st (forced d) 1
public_by Junk st d c t = junk_after st (forced d) (c ∷ t)

-- after PUBLIC and white space (sections 13.2.5.57 and 13.2.5.58)
abbrev pub public_at : Stand → Doctype → List ℕ → Item
public_at st d [] = given st (forced d) 0
public_at st d (c ∷ t) = public_by (opening c) st d c t

abbrev pub after_public_keyword : Stand → Doctype → List ℕ → Item
after_public_keyword st d t = longer_by (white t) (public_at st d (drop (white t) t))

abbrev pub after_system_keyword : Stand → Doctype → List ℕ → Item
after_system_keyword st d t = longer_by (white t) (system_at st d (drop (white t) t))

abbrev pub keyword_by : Bool → Bool → Bool → Stand → Doctype → List ℕ → Item
keyword_by true p s st d t = given st d 1
keyword_by false true s st d t = longer_by 6 (after_public_keyword st d (drop 6 t))
keyword_by false false true st d t = longer_by 6 (after_system_keyword st d (drop 6 t))
keyword_by false false false st d t = junk_after st (forced d) t

-- after the name and white space (section 13.2.5.56)
abbrev pub keyword_at : Stand → Doctype → List ℕ → Item
keyword_at st d [] = given st (forced d) 0
keyword_at st d (c ∷ t) = keyword_by (nat_eq c 62) (begins_any_case (codes "public") (c ∷ t))
    (begins_any_case (codes "system") (c ∷ t)) st d (c ∷ t)

abbrev pub after_name : Stand → Doctype → List ℕ → Item
after_name st d t = longer_by (white t) (keyword_at st d (drop (white t) t))

-- the rest of the name (section 13.2.5.55)
abbrev pub doctype_name_after : Stand → List ℕ → List ℕ → Item
doctype_name_after st front t =
    let n = run ends_word t in
    marked (has_null (take n t))
    (longer_by n (after_name st (record no_doctype { name = Some (front ++ all_lowered (take n t)) }) (drop n t)))

abbrev pub name_by : Bool → Stand → List ℕ → Item
name_by true st t = given st (forced no_doctype) 1
name_by false st t = doctype_name_after st [] t

abbrev pub doctype_name_at : Stand → List ℕ → Item
doctype_name_at st [] = given st (forced no_doctype) 0
doctype_name_at st (c ∷ t) = name_by (nat_eq c 62) st (c ∷ t)

-- after "<!doctype" and what white space was read (section 13.2.5.54)
abbrev pub doctype_after : Stand → List ℕ → Item
doctype_after st t = longer_by (white t) (doctype_name_at st (drop (white t) t))

-- whether a character stands at the front that ends no word
abbrev pub goes_on : List ℕ → Bool
goes_on [] = false
goes_on (c ∷ t) = not (ends_word c)

-- after "<!doctype": white space is to stand here (section 13.2.5.53)
abbrev pub doctype_at : Stand → List ℕ → Item
doctype_at st t = marked (goes_on t) (doctype_after st t)
