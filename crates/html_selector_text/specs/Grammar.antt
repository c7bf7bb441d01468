-- Tokens to selectors (Selectors Level 4, sections 3.1, 4 and 18). `inner` reads the lists of selectors in parentheses.
use Rattle.std.specs.Prelude.{ℕ, zero, suc, Bool, true, false, cond, not, ◌&&◌, ◌||◌, ◌==◌, ◌-◌, nat_lt, Option, Some, None}
use Rattle.std.specs.Prelude.{is_some, unwrap_or}
use Rattle.std.specs.Prelude.{Result, Ok, Err, List, [], ◌∷◌, ◌++◌, drop, take, length, slice_index}
use Rattle.selectors.specs.declared.selector.Combinator.{Combinator}
use Rattle.selectors.specs.declared.selector.Combinator.TheVariants.{Descendant, Child, NextSibling, SubsequentSibling}
use Rattle.selectors.specs.declared.selector.Simple.{Simple}
use Rattle.html_selector_text.specs.declared.fault.SyntaxFault.{SyntaxFault}
use Rattle.html_selector_text.specs.declared.fault.SyntaxFault.TheVariants.{NoSelector, Unexpected, TooDeep, TooManyParts, TooManyPartsWritten}
use Rattle.html_selector_text.specs.declared.simples.ListKind.{ListKind}
use Rattle.html_selector_text.specs.declared.simples.ListKind.TheVariants.{Plain, Forgiving, Relative}
use Rattle.html_selector_text.specs.declared.simples.Meaning.{Meaning}
use Rattle.html_selector_text.specs.declared.simples.Part.{Part}
use Rattle.html_selector_text.specs.declared.simples.Part.TheVariants.{Nothing, One, Two, List as Argument, Stands}
use Rattle.html_selector_text.specs.declared.simples.Test.{Test}
use Rattle.html_selector_text.specs.declared.simples.Test.TheVariants.{Is, Not, NthOf}
use Rattle.html_selector_text.specs.declared.tokens.Token.{Token}
use Rattle.html_selector_text.specs.declared.tokens.TokenKind.{TokenKind}
use Rattle.html_selector_text.specs.declared.tokens.TokenKind.TheVariants.{Function, Delim}
use Rattle.html_selector_text.specs.Characters.{preprocessed, place_of}
use Rattle.html_selector_text.specs.Meanings.{meaning_tokens}
use Rattle.html_selector_text.specs.Reading.{wrong, place, is_end, is_end_kind, is_delim, is_delim_kind, past_spaces, past_close, ends}
use Rattle.html_selector_text.specs.Results.{Wrong, ◌>>=◌}
use Rattle.html_selector_text.specs.Scanning.{tokens}
use Rattle.html_selector_text.specs.Simples.{type_selector, next_part}
use Rattle.html_selector_text.specs.Trees.{ListTree, NoSelectors, OrSelector, ComplexTree, AloneTree, BesideTree}
use Rattle.html_selector_text.specs.Trees.{RelativeTree, ToTree, TestsTree, NoTests, IsTest, NotTest, HasTest, NthOfTest, CompoundTree}
use Rattle.html_selector_text.specs.Trees.{LeftTree, joined}
use Rattle.html_selector_text.specs.Parts.{beyond_limit}
use Rattle.html_selector_text.specs.Written.{written}

-- COMBINATORS (section 15)

abbrev pub written_combinator : List Token → Option Combinator
written_combinator tokens =
    cond (is_delim 62 tokens) (Some Child)
    (cond (is_delim 43 tokens) (Some NextSibling) (cond (is_delim 126 tokens) (Some SubsequentSibling) None))

abbrev pub past_written : List Token → List Token
past_written tokens = cond (is_some (written_combinator tokens)) (past_spaces (drop 1 tokens)) tokens

-- white space is a combinator where another compound selector follows
abbrev pub combinator_or_spaces : Option Combinator → List Token → Option Combinator
combinator_or_spaces (Some combinator) tokens = Some combinator
combinator_or_spaces None tokens =
    cond (nat_lt (length (past_spaces tokens)) (length tokens) && not (ends (past_spaces tokens))) (Some Descendant) None

unfoldable pub combinator_of : List Token → Option Combinator
combinator_of tokens = combinator_or_spaces (written_combinator (past_spaces tokens)) tokens

unfoldable pub past_combinator : List Token → List Token
past_combinator tokens = past_written (past_spaces tokens)

-- COMPOUND SELECTORS

abbrev pub ListRead : Type 0
ListRead = Result (ListTree × List Token) Wrong

abbrev pub CompoundRead : Type 0
CompoundRead = Result (CompoundTree × List Token) Wrong

-- within `:has()` or not, a list of a kind
abbrev pub Inner : Type 0
Inner = Bool → ListKind → List Token → ListRead

abbrev pub is_relative : ListKind → Bool
is_relative Relative = true
is_relative _ = false

abbrev pub with_test : Test → ListTree → TestsTree → TestsTree
with_test Is list others = IsTest list others
with_test Not list others = NotTest list others
with_test (NthOf nth) list others = NthOfTest nth list others

abbrev pub no_parts : List Simple → CompoundTree
no_parts simples = record { simples = simples; tests = NoTests }

abbrev pub with_simple : CompoundTree → Simple → CompoundTree
with_simple so_far simple = record so_far { simples = so_far.simples ++ simple ∷ [] }

-- the test that is read last stands first
abbrev pub tested : Test → ListTree → CompoundTree → CompoundTree
tested test list so_far = record so_far { tests = with_test test list so_far.tests }

-- a pseudo-class that stands for a selector of other parts; what is wrong with it is wrong where it stands
abbrev pub told_at : {A : Type 0} → ℕ → Result A Wrong → Result A Wrong
told_at at (Ok x) = Ok x
told_at at (Err e) = Err (record { fault = e.fault; at = at })

unfoldable pub meant : Inner → Bool → ℕ → Meaning → Result ListTree Wrong
meant inner in_has at meaning = do
  list ← told_at at (inner in_has Plain (meaning_tokens meaning))
  Ok list.0

-- a compound selector with one part more, if there is one
pub record Turn : Type 0 where
  pub goes_on : Bool
  pub compound : CompoundTree
  pub rest : List Token

abbrev pub TurnRead : Type 0
TurnRead = Result Turn Wrong

abbrev pub turned : Bool → CompoundTree → List Token → TurnRead
turned goes_on compound rest = Ok (record { goes_on = goes_on; compound = compound; rest = rest })

abbrev pub with_part : Inner → Bool → CompoundTree → ℕ → Part → List Token → TurnRead
with_part inner in_has so_far at Nothing rest = turned false so_far rest
with_part inner in_has so_far at (One simple) rest = turned true (with_simple so_far simple) rest
with_part inner in_has so_far at (Two simple other) rest = turned true (with_simple (with_simple so_far simple) other) rest
with_part inner in_has so_far at (Argument test kind) rest = do
  list ← inner (in_has || is_relative kind) kind rest
  turned true (tested test list.0 so_far) (past_close list.1)
with_part inner in_has so_far at (Stands meaning) rest = do
  list ← meant inner in_has at meaning
  turned true (tested Is list so_far) rest

unfoldable pub turn : Inner → Bool → CompoundTree → List Token → TurnRead
turn inner in_has so_far tokens = do
  p ← next_part in_has tokens
  with_part inner in_has so_far (place (drop 1 tokens)) p.0 p.1

-- at most so many parts
abbrev pub parts : Inner → Bool → ℕ → CompoundTree → List Token → CompoundRead
parts inner in_has zero so_far tokens = Ok (so_far, tokens)
parts inner in_has (suc left) so_far tokens = turn inner in_has so_far tokens
    >>= λ t. cond t.goes_on (parts inner in_has left t.compound t.rest) (Ok (t.compound, t.rest))

abbrev pub missing : List Token → SyntaxFault
missing tokens = cond (ends tokens) NoSelector Unexpected

abbrev pub some_of : CompoundTree → List Token → List Token → CompoundRead
some_of compound rest tokens = cond (nat_lt (length rest) (length tokens)) (Ok (compound, rest)) (Err (wrong (missing tokens) tokens))

-- <compound-selector>; each part takes a token at least, so there are not more of them than tokens
unfoldable pub compound : Inner → Bool → List Token → CompoundRead
compound inner in_has tokens = do
  t ← type_selector tokens
  c ← parts inner in_has (length tokens) (no_parts t.0) t.1
  some_of c.0 c.1 tokens

-- COMPLEX SELECTORS

abbrev pub ComplexRead : Type 0
ComplexRead = Result (ComplexTree × List Token) Wrong

-- what stands behind a selector, with at most so many combinators
abbrev pub beside : Inner → Bool → ℕ → ComplexTree → List Token → ComplexRead
beside inner in_has zero so_far tokens = Ok (so_far, tokens)
beside inner in_has (suc left) so_far tokens = elim (combinator_of tokens) as (λ _. ComplexRead) [
  | None ↦ Ok (so_far, past_spaces tokens)
  | Some combinator ↦ compound inner in_has (past_combinator tokens)
      >>= λ c. beside inner in_has left (BesideTree so_far combinator c.0.simples c.0.tests) c.1
]

-- <complex-selector>, with the white space around it
unfoldable pub complex : Inner → Bool → List Token → ComplexRead
complex inner in_has tokens = do
  c ← compound inner in_has (past_spaces tokens)
  beside inner in_has (length tokens) (AloneTree c.0.simples c.0.tests) c.1

-- RELATIVE SELECTORS

abbrev pub RelativeRead : Type 0
RelativeRead = Result (RelativeTree × List Token) Wrong

abbrev pub behind : Combinator → CompoundTree → LeftTree
behind combinator compound = record { combinator = combinator; compound = compound }

-- behind the first combinator, with at most so many compound selectors, after those so far
abbrev pub relative_to : Inner → Bool → ℕ → List LeftTree → Combinator → List Token → RelativeRead
relative_to inner in_has zero so_far first tokens = Err (wrong Unexpected tokens)
relative_to inner in_has (suc left) so_far first tokens = compound inner in_has tokens
    >>= λ c. elim (combinator_of c.1) as (λ _. RelativeRead) [
      | None ↦ Ok (joined so_far (ToTree first c.0.simples c.0.tests), past_spaces c.1)
      | Some combinator ↦ relative_to inner in_has left (so_far ++ behind first c.0 ∷ []) combinator (past_combinator c.1)
    ]

-- <relative-selector>: without a combinator in front it is about descendants
unfoldable pub relative : Inner → Bool → List Token → RelativeRead
relative inner in_has tokens =
    relative_to inner in_has (length tokens) [] (unwrap_or (written_combinator (past_spaces tokens)) Descendant) (past_combinator tokens)

-- LISTS

-- the brackets that a token opens, by what closes them
abbrev pub closers : TokenKind → List ℕ
closers (Function name) = 41 ∷ []
closers (Delim c) = cond (c == 40) (41 ∷ []) (cond (c == 91) (93 ∷ []) (cond (c == 123) (125 ∷ []) []))
closers _ = []

-- open brackets, the last opened at the end, after one token more
abbrev pub brackets_after : List ℕ → TokenKind → List ℕ
brackets_after opened kind =
    cond (not (length opened == 0) && is_delim_kind (slice_index opened (length opened - 1)) kind) (take (length opened - 1) opened)
    (opened ++ closers kind)

-- what follows a selector that was not understood: its component values (section 5.4.7 of CSS Syntax) are passed over
abbrev pub past_values : List ℕ → List Token → List Token
past_values opened [] = []
past_values opened (t ∷ ts) =
    cond (is_end_kind t.kind || ((length opened == 0) && ends (t ∷ ts))) (t ∷ ts) (past_values (brackets_after opened t.kind) ts)

-- no list forgives that there is too much of something
abbrev pub is_final : SyntaxFault → Bool
is_final TooDeep = true
is_final TooManyParts = true
is_final _ = false

-- a selector of a list, if one is kept, and what is left
abbrev pub ItemRead : Type 0
ItemRead = Result (Option ComplexTree × List Token) Wrong

-- a list that forgives leaves out what is no selector (section 18.1)
abbrev pub forgiven : ComplexRead → List Token → ItemRead
forgiven (Ok x) tokens = cond (ends x.1) (Ok (Some x.0, x.1)) (Ok (None, past_values [] tokens))
forgiven (Err e) tokens = cond (is_final e.fault) (Err e) (Ok (None, past_values [] tokens))

abbrev pub kept : ComplexRead → ItemRead
kept read = read >>= λ c. Ok (Some c.0, c.1)

-- a relative selector is asked by a compound selector of `:has()` alone
abbrev pub has_alone : RelativeTree → ComplexTree
has_alone relative = AloneTree [] (HasTest relative NoTests)

abbrev pub kept_relative : RelativeRead → ItemRead
kept_relative read = read >>= λ r. Ok (Some (has_alone r.0), r.1)

abbrev pub item_of : Inner → Bool → ListKind → List Token → ItemRead
item_of inner in_has Plain tokens = kept (complex inner in_has tokens)
item_of inner in_has Forgiving tokens = forgiven (complex inner in_has tokens) tokens
item_of inner in_has Relative tokens = kept_relative (relative inner in_has tokens)

unfoldable pub item : Inner → Bool → ListKind → List Token → ItemRead
item inner in_has kind tokens = item_of inner in_has kind tokens

abbrev pub in_front : Option ComplexTree → ListTree → ListTree
in_front None others = others
in_front (Some one) others = OrSelector one others

abbrev pub finished : ListTree → List Token → ListRead
finished list rest = cond (ends rest) (Ok (list, rest)) (Err (wrong Unexpected rest))

-- at most so many selectors with commas between them, before those so far: the one that is read last stands first
abbrev pub items : Inner → Bool → ListKind → ℕ → ListTree → List Token → ListRead
items inner in_has kind zero so_far tokens = Err (wrong Unexpected tokens)
items inner in_has kind (suc left) so_far tokens = item inner in_has kind tokens
    >>= λ one. cond (is_delim 44 one.1) (items inner in_has kind left (in_front one.0 so_far) (drop 1 one.1))
    (finished (in_front one.0 so_far) one.1)

-- a list in which so many parentheses less one may be opened in one another
unfoldable pub list_at : ℕ → Bool → ListKind → List Token → ListRead
list_at zero in_has kind tokens = Err (wrong TooDeep tokens)
list_at (suc depth) in_has kind tokens =
    items (λ in_has kind tokens. list_at depth in_has kind tokens) in_has kind (length tokens) NoSelectors tokens

-- TEXTS

-- <selector-list>, up to the end, with at most 32 parentheses in one another
unfoldable pub selector_list : List Token → Result ListTree Wrong
selector_list tokens = list_at 33 false Plain tokens
    >>= λ list. cond (is_end list.1) (Ok list.0) (Err (wrong Unexpected list.1))

-- selectors whose text has at most 4,096 parts; if it has more, no place in the text that was given is at fault
abbrev pub short : ListTree → Result ListTree Wrong
short list = cond (length (beyond_limit (tokens (written list))) == 0) (Ok list) (Err (record { fault = TooManyPartsWritten; at = 0 }))

-- the same limit for the text that was given and for the text of its selectors
unfoldable pub limited : List Token → Result ListTree Wrong
limited tokens = cond (length (beyond_limit tokens) == 0) (selector_list tokens >>= short) (Err (wrong TooManyParts (beyond_limit tokens)))

-- places are told as characters of the text as it was given
abbrev pub placed_in : {A : Type 0} → List ℕ → Result A Wrong → Result A Wrong
placed_in text (Ok x) = Ok x
placed_in text (Err e) = Err (record { fault = e.fault; at = place_of e.at text })

-- the selectors that a text is, or the first fault
unfoldable pub parsed : List ℕ → Result ListTree Wrong
parsed text = placed_in text (limited (tokens (preprocessed text)))
