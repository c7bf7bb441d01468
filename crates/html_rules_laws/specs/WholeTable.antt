-- What holds of the rows of all modes.
use Rattle.std.specs.Prelude.{◌≡◌, ℕ, suc, Bool, true, false, ◌&&◌, not, map, List, [], ◌∷◌, codes, None}
use Rattle.std.specs.List.{list_any}
use Rattle.html_tokens.specs.Tags.{named}
use Rattle.html_tokens.specs.declared.tags.TagKind.{TagKind}
use Rattle.html_tokens.specs.declared.tags.TagKind.TheVariants.{StartTag, EndTag}
use Rattle.html_tokens.specs.declared.token.Token.{Token}
use Rattle.html_tokens.specs.declared.token.Token.TheVariants.{DoctypeToken, TagToken, CommentToken, CharacterTokens}
use Rattle.html_tokens.specs.declared.token.Token.TheVariants.{NullCharacterToken, EOFToken}
use Rattle.html_rules.specs.Modes.Foreign.{in_foreign_content}
use Rattle.html_rules.specs.Rules.{fits, most_modes, rows, using_rules_for}
use Rattle.html_rules.specs.Sets.{names_of}
use Rattle.html_rules.specs.State.{State}
use Rattle.html_rules.specs.Table.{Row, Class, StartTags, EndTags, AnyStartTag, AnyEndTag, WhiteSpace, Character, Null, Comment}
use Rattle.html_rules.specs.Table.{EndOfFile, AnythingElse, Condition, Always}
use Rattle.html_rules.specs.Tokens.{class_fits}
use Rattle.html_rules.specs.declared.insertion_mode.InsertionMode.{InsertionMode}

-- for every token some row is there
abbrev pub TakesEachToken : List Row → Type 0
TakesEachToken rs = (t : Token) (s : State) → list_any (λ r. fits r t s) rs ≡ true

-- in each mode, and in foreign content
abbrev pub IsEachTokenTaken : Type 0
IsEachTokenTaken = ((m : InsertionMode) → TakesEachToken (rows m)) × TakesEachToken in_foreign_content

abbrev pub is_always : Condition → Bool
is_always Always = true
is_always condition = false

abbrev pub tag_named : TagKind → List ℕ → Token
tag_named kind name = TagToken (named kind name)

-- a name that no set has
abbrev pub other_name : List ℕ
other_name = codes "x-y"

-- a token of each kind
abbrev pub each_kind : List Token
each_kind =
    tag_named StartTag other_name ∷ tag_named EndTag other_name ∷ CharacterTokens (codes " ") ∷
    CharacterTokens (codes "x") ∷ NullCharacterToken ∷ CommentToken [] ∷ EOFToken
    ∷ DoctypeToken (record { name = None; public_id = None; system_id = None; force_quirks = false })
    ∷ []

-- tokens that a class has: of tags by their names, all of these
abbrev pub samples : Class → List Token
samples (StartTags set) = map (tag_named StartTag) (names_of set)
samples (EndTags set) = map (tag_named EndTag) (names_of set)
samples AnyStartTag = tag_named StartTag other_name ∷ []
samples AnyEndTag = tag_named EndTag other_name ∷ []
samples WhiteSpace = CharacterTokens (codes " ") ∷ []
samples Character = CharacterTokens (codes "x") ∷ []
samples Null = NullCharacterToken ∷ []
samples Comment = CommentToken [] ∷ []
samples EndOfFile = EOFToken ∷ []
samples AnythingElse = each_kind

-- whether these rows take a token whatever the state is
abbrev pub always_take : List Row → Token → Bool
always_take rs t = list_any (λ r. is_always r.when && class_fits r.on t) rs

-- whether a row after these takes a token that none of them takes in every state
abbrev pub is_reached : List Row → Row → Bool
is_reached earlier r = list_any (λ t. not (always_take earlier t)) (samples r.on)

abbrev pub are_reached : List Row → List Row → Bool
are_reached earlier [] = true
are_reached earlier (r ∷ rs) = is_reached earlier r && are_reached (r ∷ earlier) rs

-- no row stands after rows that take all that it takes
abbrev pub IsEachRowReached : Type 0
IsEachRowReached = ((m : InsertionMode) → are_reached [] (rows m) ≡ true) × (are_reached [] in_foreign_content ≡ true)

-- the rules of a mode use those of others, and these those of others, but no further than `most_modes` allows
abbrev pub IsEachUseEnding : Type 0
IsEachUseEnding = (n : ℕ) (m : InsertionMode) (t : Token) (s : State) → using_rules_for (suc (suc (suc (suc n)))) m
    t s ≡ using_rules_for most_modes m t s
