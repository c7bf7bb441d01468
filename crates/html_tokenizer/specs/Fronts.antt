-- What is taken of tags and references from the front of a text at once.
use Rattle.std.specs.Prelude.{◌≡◌, ℕ, true, false, nat_eq, List, [], ◌∷◌, ◌++◌, All, Some, Result, Ok, Err, map}
use Rattle.std.specs.Char.{is_ascii_alphabetic, to_ascii_lowercase}
use Rattle.std.specs.List.{list_all}
use Rattle.std.specs.Str.{IsUtf8, chars}
use Rattle.markup.specs.declared.fault.ParseFault.{ParseFault}
use Rattle.html_queue.specs.Queue.{Queue}
use Rattle.html_queue.specs.Set.{has}
use Rattle.html_queue.specs.declared.set.SmallCharSet.{SmallCharSet}
use Rattle.html_tokens.specs.declared.replies.ProcessResult.{ProcessResult}
use Rattle.html_tokens.specs.declared.replies.ProcessResult.TheVariants as flow
use Rattle.html_tokens.specs.declared.sink.TokenSink.{Ghosts}
use Rattle.html_tokens.specs.declared.states.AttrValueKind.{AttrValueKind}
use Rattle.html_tokens.specs.declared.states.AttrValueKind.TheVariants as value
use Rattle.html_tokens.specs.declared.states.State.{State}
use Rattle.html_tokens.specs.declared.states.State.TheVariants as state
use Rattle.html_tokens.specs.declared.tags.TagKind.{TagKind}
use Rattle.html_tokens.specs.declared.tags.TagKind.TheVariants.{StartTag, EndTag}
use Rattle.html_tokens.specs.Tags.{named, with_attribute}
use Rattle.html_tokenizer.specs.Calls.{Moves, TookRun}
use Rattle.html_references.specs.References.{IsCheckedTable}
use Rattle.html_tokens.specs.Reference.{reference_at}
use Rattle.html_tokens.specs.Table.{Row}
use Rattle.html_tokenizer_parts.specs.CharRefs.{IsWhole, ends_in_semicolon, is_held, is_held_front, may_go_on}
use Rattle.html_tokenizer_parts.specs.declared.numbers.Found.{Found}
use Rattle.html_tokenizer.specs.declared.tokenizer.Tokenizer.{Tokenizer}
use Rattle.html_tokenizer.specs.Steps.{FailsOver, IsAt, Read}
use Rattle.html_tokenizer.specs.Stops.{with_breaks}
pub use Rattle.html_tokenizer.specs.Stops.{attribute_stops}
use Rattle.html_tokenizer.specs.Stops.{value_stops}
use Rattle.html_tokenizer.specs.Quotes.{quote_of}
use Rattle.html_tokenizer_parts.specs.Input.{IsUnbroken, counted}

-- the characters at which a tag's name is taken no further at once
abbrev pub name_stops : SmallCharSet
name_stops = with_breaks (9 ∷ 12 ∷ 32 ∷ 47 ∷ 62 ∷ [])

-- the characters at which a value without quotes is taken no further at once
abbrev pub plain_stops : SmallCharSet
plain_stops = with_breaks (9 ∷ 12 ∷ 32 ∷ 34 ∷ 38 ∷ 39 ∷ 60 ∷ 61 ∷ 62 ∷ [])

-- the characters before which no name of a reference goes on
abbrev pub reference_stops : SmallCharSet
reference_stops = with_breaks (9 ∷ 12 ∷ 32 ∷ 38 ∷ 59 ∷ 60 ∷ [])

-- no character of a text is in a set
abbrev pub Lacks : SmallCharSet → List ℕ → Type 0
Lacks set cs = All (λ c. has set.bits c ≡ false) cs

-- a letter stands at the front of a text
pub record BeginsWithLetter (cs : List ℕ) : Type 0 where
  pub first : ℕ
  pub more : List ℕ
  pub split : cs ≡ first ∷ more
  pub letter : is_ascii_alphabetic first ≡ true

-- a character stands at the front of a text
pub record IsFilled (cs : List ℕ) : Type 0 where
  pub first : ℕ
  pub more : List ℕ
  pub split : cs ≡ first ∷ more

-- a tag's name that is taken at once
pub record IsTagName (name : List ℕ) : Type 0 where
  pub begins : BeginsWithLetter name
  pub lacking : Lacks name_stops name

-- what stands before the name of a tag of this kind
abbrev pub mark : TagKind → List ℕ
mark StartTag = 60 ∷ []
mark EndTag = 60 ∷ 47 ∷ []

-- the bytes of a text are those of a tag's name, and what follows them
pub record IsNamed (name rest text : List ℕ) : Type 0 where
  pub whole : text ≡ name ++ rest
  pub utf8 : IsUtf8 name
  pub named : IsTagName (chars name)

-- the same after what stands before the name
abbrev pub IsOpening : TagKind → List ℕ → List ℕ → List ℕ → Type 0
IsOpening kind name rest text = (text ≡ mark kind ++ (name ++ rest)) × IsUtf8 name × IsTagName (chars name)

-- the bytes of a text are those of a space and an attribute's name, and what follows them
pub record IsNameAt (name rest text : List ℕ) : Type 0 where
  pub whole : text ≡ 32 ∷ (name ++ rest)
  pub utf8 : IsUtf8 name
  pub filled : IsFilled (chars name)
  pub lacking : Lacks attribute_stops (chars name)

-- the bytes of a text are those of a value in quotes of this kind, of which each character stands for itself, and what follows it
pub record IsValueIn (kind : AttrValueKind) (quote : ℕ) (value rest text : List ℕ) : Type 0 where
  pub whole : text ≡ quote ∷ (value ++ (quote ∷ rest))
  pub utf8 : IsUtf8 value
  pub lacking : Lacks (value_stops kind) (chars value)

-- the same after "="
pub record IsWholeValue (value rest text : List ℕ) : Type 0 where
  pub kind : AttrValueKind
  pub quote : ℕ
  pub quotes : quote_of kind ≡ Some quote
  pub inner : List ℕ
  pub equals : text ≡ 61 ∷ inner
  pub within : IsValueIn kind quote value rest inner

-- the bytes of a text are those of "&", a name with ";" at its end, and what follows them
pub record IsReferenceAt (name rest text : List ℕ) : Type 0 where
  pub whole : text ≡ 38 ∷ (name ++ rest)
  pub utf8 : IsUtf8 name
  pub ends : ends_in_semicolon (chars name) ≡ true

-- a name of the table with its ";": a reference that no character after it lengthens
pub record IsWholeName (rows : List Row) (cs : List ℕ) : Type 0 where
  pub checked : IsCheckedTable rows
  pub front : is_held_front rows cs ≡ true
  pub held : list_all is_held cs ≡ true
  pub ends : (c : ℕ) → may_go_on rows cs c ≡ false
  pub same : (t : List ℕ) → reference_at true rows (cs ++ t) ≡ reference_at true rows cs

-- the same, and what it stands for
pub record StandsFor (rows : List Row) (cs : List ℕ) (found : Found) : Type 0 where
  pub name : IsWholeName rows cs
  pub is : IsWhole rows cs found
  pub ends : ends_in_semicolon cs ≡ true

-- the bytes of a text are those of "&" and a name that stands for this, and what follows them
pub record IsFoundAt (rows : List Row) (found : Found) (rest text : List ℕ) : Type 0 where
  pub name : List ℕ
  pub at : IsReferenceAt name rest text
  pub stands : StandsFor rows (chars name) found

-- the machine in a tag of this name
abbrev pub opened_tag : {K : Type 0} → Tokenizer K → TagKind → List ℕ → Tokenizer K
opened_tag k kind name = record k { tag = named kind (map to_ascii_lowercase name); state = state.TagName }

-- the machine in an attribute's name of which this was read
abbrev pub naming : {K : Type 0} → Tokenizer K → List ℕ → Tokenizer K
naming k name = record k { attribute_name = map to_ascii_lowercase name; state = state.AttributeName }

-- the machine with an attribute of this value in its tag
abbrev pub with_value : {K : Type 0} → Tokenizer K → List ℕ → Tokenizer K
with_value k value = record k { tag = with_attribute k.tag k.attribute_name value; attribute_name = []; attribute_value = [] }

-- the machine with an attribute of this name and value in its tag, after the last quote of the value
abbrev pub attributed : {K : Type 0} → Tokenizer K → List ℕ → List ℕ → Tokenizer K
attributed k name value = record k
    { tag = with_attribute k.tag (map to_ascii_lowercase name) value; state = state.AfterAttributeValueQuoted }

-- the machine with the attribute in its tag that it reads in this state, if it reads one
abbrev pub ended_in : {K : Type 0} → State → Tokenizer K → Tokenizer K
ended_in state.AttributeName k = with_value k []
ended_in (state.AttributeValue kind) k = with_value k k.attribute_value
ended_in _ k = k

abbrev pub ended : {K : Type 0} → Tokenizer K → Tokenizer K
ended k = ended_in k.state k

-- the machine stands after a tag's name or a value in quotes, or in an attribute's name or a value without quotes
pub data IsInTag {K : Type 0} (k : Tokenizer K) : Type 0 where
  after_name : IsAt k state.TagName → IsInTag k
  after_value : IsAt k state.AfterAttributeValueQuoted → IsInTag k
  in_name : IsAt k state.AttributeName → IsInTag k
  in_value : IsAt k (state.AttributeValue value.Unquoted) → IsInTag k

-- the machine is in this state and holds nothing, no byte order mark may come, and errors of single characters are not told
pub record ReadsAhead {K : Type 0} (k : Tokenizer K) (st : State) : Type 0 where
  pub at : IsAt k st
  pub plain : k.stream.exact_errors ≡ false
  pub unmarked : k.stream.discard_bom ≡ false

-- the same in data
abbrev pub ReadsTags : {K : Type 0} → Tokenizer K → Type 0
ReadsTags k = ReadsAhead k state.Data

-- a character of data that stands for itself: any but NUL, a carriage return, "&" and "<"
abbrev pub IsOfLine : ℕ → Type 0
IsOfLine c = (nat_eq c 0 ≡ false) × (nat_eq c 13 ≡ false) × (nat_eq c 38 ≡ false) × (nat_eq c 60 ≡ false)

-- a text of such characters, line feeds among them
abbrev pub AreLines : List ℕ → Type 0
AreLines cs = All IsOfLine cs

-- a number of line breaks after the characters of a text
abbrev pub counted_all : ℕ → List ℕ → ℕ
counted_all breaks [] = breaks
counted_all breaks (c ∷ t) = counted_all (counted breaks c) t

-- the bytes of a text are those of lines, and what follows them; after the lines so many line breaks were read, and so many before
pub record HasLines (text rest : List ℕ) (before after : ℕ) : Type 0 where
  pub front : List ℕ
  pub whole : text ≡ front ++ rest
  pub utf8 : IsUtf8 front
  pub lines : AreLines (chars front)
  pub counts : after ≡ counted_all before (chars front)

module _ {K H : Type 0} (Sink : Ghosts K H) where
  -- Lines were told, and their line breaks counted.
  abbrev pub KeepsLines : Tokenizer K → Tokenizer K → List ℕ → Result (Unit {0}) ParseFault → Type 0
  KeepsLines old new lines (Ok x) = Read Sink lines (λ owed. owed) new.stream.breaks
      (record old.stream { breaks = counted_all old.stream.breaks lines }) old new flow.Continue
  KeepsLines old new lines (Err fault) = FailsOver Sink lines old new.sink fault

  -- A step that ends where this one begins is, with this one, a step that ends as this one does.
  abbrev pub MovesOn : Tokenizer K → Tokenizer K → Queue → Queue → Result (ProcessResult H) ParseFault → Type 0
  MovesOn old new from to result = (before : Tokenizer K) (start : Queue) → Moves Sink before old start from (Ok flow.Continue)
      → Moves Sink before new start to result

  -- Of a text's bytes a front was taken, with no line end in it.
  pub record TakesFront (old new : Tokenizer K) (text rest : List ℕ) : Type 0 where
    pub front : List ℕ
    pub whole : text ≡ front ++ rest
    pub utf8 : IsUtf8 front
    pub unbroken : IsUnbroken (chars front)
    pub took : TookRun Sink old new (chars front)
