-- Kinds of tokens, and what a row's class takes of one.
use Rattle.std.proofs.Common.{◌≡◌, ◌∙◌, ℕ, Bool, true, false, List, [], ◌∷◌, refl, sym, true≢false}
use Rattle.std.specs.Prelude.{◌||◌, ◌&&◌, not}
use Rattle.std.proofs.lemmas.Bool.{and_parts}
use Rattle.std.specs.Str.{bytes_eq}
use Rattle.std.proofs.lemmas.Slice.Eq.{bytes_eq-Decides}
use Rattle.html_tokens.specs.declared.tags.Tag.{Tag}
use Rattle.html_tokens.specs.declared.tags.TagKind.{TagKind}
use Rattle.html_tokens.specs.declared.tags.TagKind.TheVariants.{StartTag, EndTag}
use Rattle.html_tokens.specs.declared.token.Token.{Token}
use Rattle.html_tokens.specs.declared.token.Token.TheVariants.{DoctypeToken, TagToken, CommentToken, CharacterTokens}
use Rattle.html_tokens.specs.declared.token.Token.TheVariants.{NullCharacterToken, EOFToken, ParseError}
use Rattle.html_rules.specs.Choice.{choose}
use Rattle.html_rules.specs.ForeignContent.{is_start_tag, is_end_tag}
use Rattle.html_rules.specs.Sets.{is_among, names_of}
use Rattle.html_rules.specs.Table.{Class, StartTags, EndTags, AnyStartTag, AnyEndTag, WhiteSpace, Character, Null, Comment}
use Rattle.html_rules.specs.Table.{EndOfFile, AnythingElse}
use Rattle.html_rules.specs.Tokens.{class_fits, is_white}
use Rattle.html_rules_laws.proofs.Bools.{both, no, not_true}

-- start tags with one of these names, or with none of them; end tags; characters, of white space alone; U+0000; the end; comments; any
-- other token that is no tag
pub data Kind : Type 0 where
  Starts : (names : List (List ℕ)) → Kind
  StartsBut : (names : List (List ℕ)) → Kind
  Ends : (names : List (List ℕ)) → Kind
  EndsBut : (names : List (List ℕ)) → Kind
  Texts : Kind
  Whites : Kind
  Nulls : Kind
  TheEnd : Kind
  Comments : Kind
  Others : Kind

abbrev pub is_of : Kind → Token → Bool
is_of (Starts names) (TagToken tag) = is_start_tag tag.kind && is_among tag.name names
is_of (StartsBut names) (TagToken tag) = is_start_tag tag.kind && not (is_among tag.name names)
is_of (Ends names) (TagToken tag) = is_end_tag tag.kind && is_among tag.name names
is_of (EndsBut names) (TagToken tag) = is_end_tag tag.kind && not (is_among tag.name names)
is_of Texts (CharacterTokens text) = true
is_of Whites (CharacterTokens text) = is_white text
is_of Nulls NullCharacterToken = true
is_of TheEnd EOFToken = true
is_of Comments (CommentToken text) = true
is_of Others (CommentToken text) = true
is_of Others (DoctypeToken d) = true
is_of Others (ParseError message) = true
is_of kind t = false

-- no token at all
abbrev pub no_token : Kind
no_token = Starts []

abbrev pub is_none : Kind → Bool
is_none (Starts []) = true
is_none (Ends []) = true
is_none kind = false

-- the names that stand in both lists; those that stand in the first alone
abbrev pub common : List (List ℕ) → List (List ℕ) → List (List ℕ)
common [] names = []
common (x ∷ xs) names = choose (is_among x names) (λ _. x ∷ common xs names) (λ _. common xs names)

abbrev pub minus : List (List ℕ) → List (List ℕ) → List (List ℕ)
minus [] names = []
minus (x ∷ xs) names = choose (is_among x names) (λ _. minus xs names) (λ _. x ∷ minus xs names)

-- what a class takes of a kind
abbrev pub hit : Kind → Class → Kind
hit (Starts names) (StartTags set) = Starts (common names (names_of set))
hit (StartsBut names) (StartTags set) = Starts (minus (names_of set) names)
hit (Ends names) (EndTags set) = Ends (common names (names_of set))
hit (EndsBut names) (EndTags set) = Ends (minus (names_of set) names)
hit (Starts names) AnyStartTag = Starts names
hit (StartsBut names) AnyStartTag = StartsBut names
hit (Ends names) AnyEndTag = Ends names
hit (EndsBut names) AnyEndTag = EndsBut names
hit Texts WhiteSpace = Whites
hit Whites WhiteSpace = Whites
hit Whites Character = Whites
hit Texts Character = Texts
hit Nulls Null = Nulls
hit Others Comment = Comments
hit Comments Comment = Comments
hit TheEnd EndOfFile = TheEnd
hit kind AnythingElse = kind
hit kind class = no_token

-- what it leaves
abbrev pub left : Kind → Class → Kind
left (Starts names) (StartTags set) = Starts (minus names (names_of set))
left (Ends names) (EndTags set) = Ends (minus names (names_of set))
left (Starts names) AnyStartTag = no_token
left (StartsBut names) AnyStartTag = no_token
left (Ends names) AnyEndTag = no_token
left (EndsBut names) AnyEndTag = no_token
left Texts Character = no_token
left Whites Character = no_token
left Whites WhiteSpace = no_token
left Nulls Null = no_token
left TheEnd EndOfFile = no_token
left Comments Comment = no_token
left kind AnythingElse = no_token
left kind class = kind

-- names

among-common : (name : List ℕ) (xs names : List (List ℕ)) → is_among name xs ≡ true → is_among name names ≡ true
    → is_among name (common xs names) ≡ true
among-common name [] names h k = h
among-common name (x ∷ xs) names h k = by (bytes_eq name x) (is_among x names) refl refl h (λ h. among-common name xs names h k) where
  same : bytes_eq name x ≡ true → is_among x names ≡ true
  same e = rw (← (bytes_eq-Decides name x).0 e) k

  by : (a b : Bool) → bytes_eq name x ≡ a → is_among x names ≡ b → (a || is_among name xs) ≡ true
      → (is_among name xs ≡ true → is_among name (common xs names) ≡ true)
      → is_among name (choose b (λ _. x ∷ common xs names) (λ _. common xs names)) ≡ true
  by true true e f h rest = rw e refl
  by true false e f h rest = absurd (true≢false (sym (same e) ∙ f))
  by false true e f h rest = rw e (rest h)
  by false false e f h rest = rest h

among-minus : (name : List ℕ) (xs names : List (List ℕ)) → is_among name xs ≡ true → is_among name names ≡ false
    → is_among name (minus xs names) ≡ true
among-minus name [] names h k = h
among-minus name (x ∷ xs) names h k = by (bytes_eq name x) (is_among x names) refl refl h (λ h. among-minus name xs names h k) where
  same : bytes_eq name x ≡ true → is_among x names ≡ false
  same e = rw (← (bytes_eq-Decides name x).0 e) k

  by : (a b : Bool) → bytes_eq name x ≡ a → is_among x names ≡ b → (a || is_among name xs) ≡ true
      → (is_among name xs ≡ true → is_among name (minus xs names) ≡ true)
      → is_among name (choose b (λ _. minus xs names) (λ _. x ∷ minus xs names)) ≡ true
  by true true e f h rest = absurd (true≢false (sym f ∙ same e))
  by true false e f h rest = rw e refl
  by false true e f h rest = rest h
  by false false e f h rest = rw e (rest h)

one_kind : (kind : TagKind) → is_start_tag kind ≡ true → is_end_tag kind ≡ true → ⊥
one_kind StartTag h k = true≢false (sym k)
one_kind EndTag h k = true≢false (sym h)

-- a class takes of a kind what it is said to

tag-hit : (kind : Kind) (c : Class) (tag : Tag) → is_of kind (TagToken tag) ≡ true
    → class_fits c (TagToken tag) ≡ true → is_of (hit kind c) (TagToken tag) ≡ true
tag-hit (Starts names) (StartTags set) tag h k =
    let a = and_parts (is_start_tag tag.kind) (is_among tag.name names) h in
    let b = and_parts (is_start_tag tag.kind) (is_among tag.name (names_of set)) k in
    both (is_start_tag tag.kind) _ a.0 (among-common tag.name names (names_of set) a.1 b.1)
tag-hit (StartsBut names) (StartTags set) tag h k =
    let a = and_parts (is_start_tag tag.kind) (not (is_among tag.name names)) h in
    let b = and_parts (is_start_tag tag.kind) (is_among tag.name (names_of set)) k in
    both (is_start_tag tag.kind) _ a.0 (among-minus tag.name (names_of set) names b.1 (not_true _ a.1))
tag-hit (Ends names) (EndTags set) tag h k =
    let a = and_parts (is_end_tag tag.kind) (is_among tag.name names) h in
    let b = and_parts (is_end_tag tag.kind) (is_among tag.name (names_of set)) k in
    both (is_end_tag tag.kind) _ a.0 (among-common tag.name names (names_of set) a.1 b.1)
tag-hit (EndsBut names) (EndTags set) tag h k =
    let a = and_parts (is_end_tag tag.kind) (not (is_among tag.name names)) h in
    let b = and_parts (is_end_tag tag.kind) (is_among tag.name (names_of set)) k in
    both (is_end_tag tag.kind) _ a.0 (among-minus tag.name (names_of set) names b.1 (not_true _ a.1))
tag-hit (Starts names) (EndTags set) tag h k =
    absurd (one_kind tag.kind (and_parts (is_start_tag tag.kind) _ h).0 (and_parts (is_end_tag tag.kind) _ k).0)
tag-hit (StartsBut names) (EndTags set) tag h k =
    absurd (one_kind tag.kind (and_parts (is_start_tag tag.kind) _ h).0 (and_parts (is_end_tag tag.kind) _ k).0)
tag-hit (Ends names) (StartTags set) tag h k =
    absurd (one_kind tag.kind (and_parts (is_start_tag tag.kind) _ k).0 (and_parts (is_end_tag tag.kind) _ h).0)
tag-hit (EndsBut names) (StartTags set) tag h k =
    absurd (one_kind tag.kind (and_parts (is_start_tag tag.kind) _ k).0 (and_parts (is_end_tag tag.kind) _ h).0)
tag-hit (Starts names) AnyEndTag tag h k = absurd (one_kind tag.kind (and_parts (is_start_tag tag.kind) _ h).0 k)
tag-hit (StartsBut names) AnyEndTag tag h k = absurd (one_kind tag.kind (and_parts (is_start_tag tag.kind) _ h).0 k)
tag-hit (Ends names) AnyStartTag tag h k = absurd (one_kind tag.kind k (and_parts (is_end_tag tag.kind) _ h).0)
tag-hit (EndsBut names) AnyStartTag tag h k = absurd (one_kind tag.kind k (and_parts (is_end_tag tag.kind) _ h).0)
tag-hit (Starts names) AnyStartTag tag h k = h
tag-hit (StartsBut names) AnyStartTag tag h k = h
tag-hit (Ends names) AnyEndTag tag h k = h
tag-hit (EndsBut names) AnyEndTag tag h k = h
tag-hit Texts c tag h k = no h
tag-hit Whites c tag h k = no h
tag-hit Nulls c tag h k = no h
tag-hit TheEnd c tag h k = no h
tag-hit Comments c tag h k = no h
tag-hit Others c tag h k = no h
tag-hit kind AnythingElse tag h k = h
tag-hit kind c tag h k = no k

text-hit : (kind : Kind) (c : Class) (text : List ℕ) → is_of kind (CharacterTokens text) ≡ true
    → class_fits c (CharacterTokens text) ≡ true → is_of (hit kind c) (CharacterTokens text) ≡ true
text-hit Texts WhiteSpace text h k = k
text-hit Whites WhiteSpace text h k = h
text-hit Whites Character text h k = h
text-hit Whites AnythingElse text h k = h
text-hit Whites c text h k = no k
text-hit Texts Character text h k = refl
text-hit Texts AnythingElse text h k = refl
text-hit Texts c text h k = no k
text-hit kind c text h k = no h

other-hit : (c : Class) (t : Token) → is_of Others t ≡ true → class_fits c t ≡ true → is_of (hit Others c) t ≡ true
other-hit Comment (CommentToken text) h k = refl
other-hit Comment t h k = no k
other-hit AnythingElse t h k = h
other-hit c (CommentToken text) h k = no k
other-hit c (DoctypeToken d) h k = no k
other-hit c (ParseError message) h k = no k
other-hit c t h k = no h

comment-hit : (c : Class) (text : List ℕ) → class_fits c (CommentToken text) ≡ true → is_of (hit Comments c) (CommentToken text) ≡ true
comment-hit Comment text k = refl
comment-hit AnythingElse text k = refl
comment-hit c text k = no k

null-hit : (c : Class) → class_fits c NullCharacterToken ≡ true → is_of (hit Nulls c) NullCharacterToken ≡ true
null-hit Null k = refl
null-hit AnythingElse k = refl
null-hit c k = no k

end-hit : (c : Class) → class_fits c EOFToken ≡ true → is_of (hit TheEnd c) EOFToken ≡ true
end-hit EndOfFile k = refl
end-hit AnythingElse k = refl
end-hit c k = no k

pub hit-is : (kind : Kind) (c : Class) (t : Token) → is_of kind t ≡ true → class_fits c t ≡ true → is_of (hit kind c) t ≡ true
hit-is kind c (TagToken tag) h k = tag-hit kind c tag h k
hit-is kind c (CharacterTokens text) h k = text-hit kind c text h k
hit-is Nulls c NullCharacterToken h k = null-hit c k
hit-is TheEnd c EOFToken h k = end-hit c k
hit-is Comments c (CommentToken text) h k = comment-hit c text k
hit-is Others c t h k = other-hit c t h k
hit-is kind c t h k = no h

-- what a class leaves of a kind

and_false : (a b : Bool) → (a && b) ≡ false → a ≡ true → b ≡ false
and_false true b h e = h
and_false false b h e = no e

tag-left : (kind : Kind) (c : Class) (tag : Tag) → is_of kind (TagToken tag) ≡ true
    → class_fits c (TagToken tag) ≡ false → is_of (left kind c) (TagToken tag) ≡ true
tag-left (Starts names) (StartTags set) tag h k =
    let a = and_parts (is_start_tag tag.kind) (is_among tag.name names) h in
    both (is_start_tag tag.kind) _ a.0 (among-minus tag.name names (names_of set) a.1 (and_false _ _ k a.0))
tag-left (Ends names) (EndTags set) tag h k =
    let a = and_parts (is_end_tag tag.kind) (is_among tag.name names) h in
    both (is_end_tag tag.kind) _ a.0 (among-minus tag.name names (names_of set) a.1 (and_false _ _ k a.0))
tag-left (Starts names) AnyStartTag tag h k = no (sym k ∙ (and_parts (is_start_tag tag.kind) _ h).0)
tag-left (StartsBut names) AnyStartTag tag h k = no (sym k ∙ (and_parts (is_start_tag tag.kind) _ h).0)
tag-left (Ends names) AnyEndTag tag h k = no (sym k ∙ (and_parts (is_end_tag tag.kind) _ h).0)
tag-left (EndsBut names) AnyEndTag tag h k = no (sym k ∙ (and_parts (is_end_tag tag.kind) _ h).0)
tag-left Texts c tag h k = no h
tag-left Whites c tag h k = no h
tag-left Nulls c tag h k = no h
tag-left TheEnd c tag h k = no h
tag-left Comments c tag h k = no h
tag-left Others c tag h k = no h
tag-left kind AnythingElse tag h k = absurd (true≢false k)
tag-left kind c tag h k = h

text-left : (kind : Kind) (c : Class) (text : List ℕ) → is_of kind (CharacterTokens text) ≡ true
    → class_fits c (CharacterTokens text) ≡ false → is_of (left kind c) (CharacterTokens text) ≡ true
text-left Texts Character text h k = absurd (true≢false k)
text-left Whites Character text h k = absurd (true≢false k)
text-left Whites AnythingElse text h k = absurd (true≢false k)
text-left Whites WhiteSpace text h k = no (sym k ∙ h)
text-left Whites c text h k = h
text-left Texts AnythingElse text h k = absurd (true≢false k)
text-left Texts c text h k = refl
text-left kind c text h k = no h

other-left : (c : Class) (t : Token) → is_of Others t ≡ true → class_fits c t ≡ false → is_of (left Others c) t ≡ true
other-left AnythingElse t h k = absurd (true≢false k)
other-left c t h k = h

comment-left : (c : Class) (text : List ℕ) → class_fits c (CommentToken text) ≡ false → is_of (left Comments c) (CommentToken text) ≡ true
comment-left Comment text k = absurd (true≢false k)
comment-left AnythingElse text k = absurd (true≢false k)
comment-left c text k = refl

null-left : (c : Class) → class_fits c NullCharacterToken ≡ false → is_of (left Nulls c) NullCharacterToken ≡ true
null-left Null k = absurd (true≢false k)
null-left AnythingElse k = absurd (true≢false k)
null-left c k = refl

end-left : (c : Class) → class_fits c EOFToken ≡ false → is_of (left TheEnd c) EOFToken ≡ true
end-left EndOfFile k = absurd (true≢false k)
end-left AnythingElse k = absurd (true≢false k)
end-left c k = refl

pub left-is : (kind : Kind) (c : Class) (t : Token) → is_of kind t ≡ true → class_fits c t ≡ false → is_of (left kind c) t ≡ true
left-is kind c (TagToken tag) h k = tag-left kind c tag h k
left-is kind c (CharacterTokens text) h k = text-left kind c text h k
left-is Nulls c NullCharacterToken h k = null-left c k
left-is TheEnd c EOFToken h k = end-left c k
left-is Comments c (CommentToken text) h k = comment-left c text k
left-is Others c t h k = other-left c t h k
left-is kind c t h k = no h

-- no token is of no kind
pub none-of : (kind : Kind) (t : Token) → is_none kind ≡ true → is_of kind t ≡ true → ⊥
none-of (Starts []) (TagToken tag) e h = true≢false (sym (and_parts (is_start_tag tag.kind) false h).1)
none-of (Ends []) (TagToken tag) e h = true≢false (sym (and_parts (is_end_tag tag.kind) false h).1)
none-of (Starts (x ∷ xs)) t e h = true≢false (sym e)
none-of (Ends (x ∷ xs)) t e h = true≢false (sym e)
none-of (Starts []) t e h = true≢false (sym h)
none-of (Ends []) t e h = true≢false (sym h)
none-of kind t e h = true≢false (sym e)
