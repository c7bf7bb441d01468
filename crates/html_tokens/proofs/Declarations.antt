-- What holds of every comment and every doctype holds of each item of a declaration (HTML Standard, sections 13.2.5.41 to 13.2.5.68).
use Rattle.std.proofs.Common.{ℕ, zero, suc, Bool, true, false, nat_eq, List, [], ◌∷◌, ◌++◌, take, drop, Option, Some, None}
use Rattle.std.specs.Prelude.{codes}
use Rattle.html_tokens.specs.declared.token.Doctype.{Doctype}
use Rattle.html_tokens.specs.declared.token.Token.{Token}
use Rattle.html_tokens.specs.declared.token.Token.TheVariants.{CommentToken, DoctypeToken}
use Rattle.html_tokens.specs.Characters
use Rattle.html_tokens.specs.Comments
use Rattle.html_tokens.specs.Doctypes
use Rattle.html_tokens.specs.Item.{Stand, Item, longer_by}

-- what holds of an item's token and of where the reading stands after it
abbrev pub Holds : (Option Token → Stand → Type 0) → Item → Type 0
Holds P i = P i.token i.next

-- it holds of the item after n characters more
pub all : (P : Option Token → Stand → Type 0) (n : ℕ) (i : Item) → Holds P i → Holds P (longer_by n i)
all P zero i h = h
all P (suc n) i h = all P n i h

module _ (P : Option Token → Stand → Type 0) (Q : Stand → Type 0) (comment : (st : Stand) (text : List ℕ) → Q st
    → P (Some (CommentToken text)) st) (doctype : (st : Stand) (d : Doctype) → Q st → P (Some (DoctypeToken d)) st) where
  -- COMMENTS

  comment_by : (o : Option ℕ) (faulty odd : Bool) (st : Stand) (front : List ℕ) (go : Unit {0} → Item) → Q st
      → Holds P (go tt) → Holds P (Comments.comment_by o faulty odd st front go)
  comment_by (Some n) faulty odd st front go p h = comment st _ p
  comment_by None faulty odd st front go p h = h

  comment_after : (st : Stand) (p : Q st) (t front : List ℕ) → Holds P (Comments.comment_after st front t)
  comment_after st p [] front = comment st _ p
  comment_after st p (c ∷ t) front = comment_by (Comments.comment_end (c ∷ t)) _ _ st front
      (λ _. Comments.comment_after st (front ++ Characters.shown c ∷ []) t) p (comment_after st p t (front ++ Characters.shown c ∷ []))

  pub empty_by : (a b : Bool) (st : Stand) (t : List ℕ) → Q st → Holds P (Comments.empty_by a b st t)
  empty_by true b st t p = comment st _ p
  empty_by false true st t p = comment st _ p
  empty_by false false st t p = comment_after st p t []

  bogus_by : (b : Bool) (st : Stand) (front : List ℕ) (go : Unit {0} → Item) → Q st → Holds P (go tt)
      → Holds P (Comments.bogus_by b st front go)
  bogus_by true st front go p h = comment st _ p
  bogus_by false st front go p h = h

  pub bogus : (st : Stand) (p : Q st) (t front : List ℕ) → Holds P (Comments.bogus_comment_after st front t)
  bogus st p [] front = comment st _ p
  bogus st p (c ∷ t) front = bogus_by (nat_eq c 62) st front
      (λ _. Comments.bogus_comment_after st (front ++ Characters.shown c ∷ []) t) p (bogus st p t (front ++ Characters.shown c ∷ []))

  -- DOCTYPES

  junk_by : (b : Bool) (st : Stand) (d : Doctype) (go : Unit {0} → Item) → Q st → Holds P (go tt) → Holds P (Doctypes.junk_by b st d go)
  junk_by true st d go p h = doctype st _ p
  junk_by false st d go p h = h

  junk : (st : Stand) (p : Q st) (d : Doctype) (t : List ℕ) → Holds P (Doctypes.junk_after st d t)
  junk st p d [] = doctype st _ p
  junk st p d (c ∷ t) = junk_by (nat_eq c 62) st d (λ _. Doctypes.junk_after st d t) p (junk st p d t)

  doctype_end_at : (st : Stand) (p : Q st) (d : Doctype) (t : List ℕ) → Holds P (Doctypes.doctype_end_at st d t)
  doctype_end_at st p d [] = doctype st _ p
  doctype_end_at st p d (c ∷ t) = junk st p d (c ∷ t)

  after_system : (st : Stand) (p : Q st) (d : Doctype) (t : List ℕ) → Holds P (Doctypes.after_system st d t)
  after_system st p d t = all P (Characters.white t) (Doctypes.doctype_end_at st d (drop (Characters.white t) t))
      (doctype_end_at st p d (drop (Characters.white t) t))

  closed_by : (b : Bool) (st : Stand) (d : Doctype) (t : List ℕ) (go : Doctype → List ℕ → Item) → Q st
      → Holds P (go d t) → Holds P (Doctypes.closed_by b st d t go)
  closed_by true st d t go p h = h
  closed_by false st d t go p h = doctype st _ p

  identifier_end : (q : ℕ) (st : Stand) (p : Q st) (d : Doctype) (t : List ℕ) (go : Doctype → List ℕ → Item)
      → ((d : Doctype) (t : List ℕ) → Holds P (go d t)) → Holds P (Doctypes.identifier_end q st d t go)
  identifier_end q st p d [] go h = doctype st _ p
  identifier_end q st p d (c ∷ t) go h = closed_by (nat_eq c q) st d t go p (h d t)

  system_after : (q : ℕ) (st : Stand) (p : Q st) (d : Doctype) (t : List ℕ) → Holds P (Doctypes.system_after q st d [] t)
  system_after q st p d t =
      let n = Doctypes.identifier q t in
      let d' : Doctype = record d { system_id = Some (Doctypes.shown_all (take n t)) } in
      all P n (Doctypes.identifier_end q st d' (drop n t) (Doctypes.after_system st))
      (identifier_end q st p d' (drop n t) (Doctypes.after_system st) (after_system st p))

  system_by : (o : Doctypes.Opening) (st : Stand) (p : Q st) (d : Doctype) (c : ℕ) (t : List ℕ) → Holds P (Doctypes.system_by o st d c t)
  system_by Doctypes.Quote st p d c t = system_after c st p d t
  system_by Doctypes.Close st p d c t = doctype st _ p
  system_by Doctypes.Junk st p d c t = junk st p (Doctypes.forced d) (c ∷ t)

  system_at : (st : Stand) (p : Q st) (d : Doctype) (t : List ℕ) → Holds P (Doctypes.system_at st d t)
  system_at st p d [] = doctype st _ p
  system_at st p d (c ∷ t) = system_by (Doctypes.opening c) st p d c t

  second_by : (o : Doctypes.Opening) (st : Stand) (p : Q st) (d : Doctype) (c : ℕ) (t : List ℕ) → Holds P (Doctypes.second_by o st d c t)
  second_by Doctypes.Quote st p d c t = system_after c st p d t
  second_by Doctypes.Close st p d c t = doctype st _ p
  second_by Doctypes.Junk st p d c t = junk st p (Doctypes.forced d) (c ∷ t)

  second_identifier_at : (st : Stand) (p : Q st) (d : Doctype) (t : List ℕ) → Holds P (Doctypes.second_identifier_at st d t)
  second_identifier_at st p d [] = doctype st _ p
  second_identifier_at st p d (c ∷ t) = second_by (Doctypes.opening c) st p d c t

  after_public : (st : Stand) (p : Q st) (d : Doctype) (t : List ℕ) → Holds P (Doctypes.after_public st d t)
  after_public st p d t = all P (Characters.white t)
      (Doctypes.second_identifier_at st d (drop (Characters.white t) t)) (second_identifier_at st p d (drop (Characters.white t) t))

  public_after : (q : ℕ) (st : Stand) (p : Q st) (d : Doctype) (t : List ℕ) → Holds P (Doctypes.public_after q st d [] t)
  public_after q st p d t =
      let n = Doctypes.identifier q t in
      let d' : Doctype = record d { public_id = Some (Doctypes.shown_all (take n t)) } in
      all P n (Doctypes.identifier_end q st d' (drop n t) (Doctypes.after_public st))
      (identifier_end q st p d' (drop n t) (Doctypes.after_public st) (after_public st p))

  public_by : (o : Doctypes.Opening) (st : Stand) (p : Q st) (d : Doctype) (c : ℕ) (t : List ℕ) → Holds P (Doctypes.public_by o st d c t)
  public_by Doctypes.Quote st p d c t = public_after c st p d t
  public_by Doctypes.Close st p d c t = doctype st _ p
  public_by Doctypes.Junk st p d c t = junk st p (Doctypes.forced d) (c ∷ t)

  public_at : (st : Stand) (p : Q st) (d : Doctype) (t : List ℕ) → Holds P (Doctypes.public_at st d t)
  public_at st p d [] = doctype st _ p
  public_at st p d (c ∷ t) = public_by (Doctypes.opening c) st p d c t

  keyword_by : (a b e : Bool) (st : Stand) (p : Q st) (d : Doctype) (t : List ℕ) → Holds P (Doctypes.keyword_by a b e st d t)
  keyword_by true b e st p d t = doctype st _ p
  keyword_by false true e st p d t =
      let u = drop 6 t in
      all P 6 (Doctypes.after_public_keyword st d u)
      (all P (Characters.white u) (Doctypes.public_at st d (drop (Characters.white u) u))
      (public_at st p d (drop (Characters.white u) u)))
  keyword_by false false true st p d t =
      let u = drop 6 t in
      all P 6 (Doctypes.after_system_keyword st d u)
      (all P (Characters.white u) (Doctypes.system_at st d (drop (Characters.white u) u))
      (system_at st p d (drop (Characters.white u) u)))
  keyword_by false false false st p d t = junk st p (Doctypes.forced d) t

  keyword_at : (st : Stand) (p : Q st) (d : Doctype) (t : List ℕ) → Holds P (Doctypes.keyword_at st d t)
  keyword_at st p d [] = doctype st _ p
  keyword_at st p d (c ∷ t) = keyword_by (nat_eq c 62) (Characters.begins_any_case (codes "public") (c ∷ t))
      (Characters.begins_any_case (codes "system") (c ∷ t)) st p d (c ∷ t)

  after_name : (st : Stand) (p : Q st) (d : Doctype) (t : List ℕ) → Holds P (Doctypes.after_name st d t)
  after_name st p d t = all P (Characters.white t) (Doctypes.keyword_at st d (drop (Characters.white t) t))
      (keyword_at st p d (drop (Characters.white t) t))

  doctype_name : (st : Stand) (p : Q st) (t : List ℕ) → Holds P (Doctypes.doctype_name_after st [] t)
  doctype_name st p t =
      let n = Characters.run Characters.ends_word t in
      let d : Doctype = record Doctypes.no_doctype { name = Some (Characters.all_lowered (take n t)) } in
      all P n (Doctypes.after_name st d (drop n t)) (after_name st p d (drop n t))

  name_by : (b : Bool) (st : Stand) (p : Q st) (t : List ℕ) → Holds P (Doctypes.name_by b st t)
  name_by true st p t = doctype st _ p
  name_by false st p t = doctype_name st p t

  doctype_name_at : (st : Stand) (p : Q st) (t : List ℕ) → Holds P (Doctypes.doctype_name_at st t)
  doctype_name_at st p [] = doctype st _ p
  doctype_name_at st p (c ∷ t) = name_by (nat_eq c 62) st p (c ∷ t)

  pub doctype_at : (st : Stand) (p : Q st) (t : List ℕ) → Holds P (Doctypes.doctype_at st t)
  doctype_at st p t = all P (Characters.white t) (Doctypes.doctype_name_at st (drop (Characters.white t) t))
      (doctype_name_at st p (drop (Characters.white t) t))
