-- White space that waits in a table (HTML Standard, section 13.2.6.4.10).
use Rattle.std.specs.Prelude.{◌≡◌, ℕ, Bool, true, false, ◌&&◌, List, [], None}
use Rattle.markup.specs.Forest.{put_text}
use Rattle.markup.specs.Trees.{Trees, Element}
use Rattle.markup.specs.declared.quirks.QuirksMode.TheVariants.{Quirks}
use Rattle.html_tokens.specs.declared.token.Token.{Token}
use Rattle.html_tokens.specs.declared.token.Token.TheVariants.{TagToken, CharacterTokens, CommentToken}
use Rattle.html_rules.specs.Actions.{restore_mode, set_mode, set_quirks_mode, without_pending_text}
use Rattle.html_rules.specs.Conditions.{is_nonempty}
use Rattle.html_rules.specs.Places.{append_text}
use Rattle.html_rules.specs.Rules.{Settled, is_self_closing, settle}
use Rattle.html_rules.specs.Stack.{parse_error}
use Rattle.html_rules.specs.State.{State, current_is, is_in}
use Rattle.html_rules.specs.Step.{taken}
use Rattle.html_rules.specs.Tokens.{is_white}
use Rattle.html_rules.specs.declared.insertion_mode.InsertionMode.TheVariants as mode
use Rattle.html_rules.specs.declared.tag_set.TagSet.TheVariants as set
use Rattle.html_faithful.specs.Keeping.{IsAt}
use Rattle.html_faithful.specs.Spots.{Spot}
use Rattle.html_faithful.specs.Texts.{place_in}
use Rattle.html_faithful.specs.Turns.{IsDoneAt}
use Rattle.html_faithful.specs.Walk.{begins_with_line_feed, waits_at}

-- white space waits, in a part of a table
pub record Waits (s : State) : Type 0 where
  pub mode : s.mode ≡ mode.InTableText
  pub white : is_white s.pending_table_text ≡ true
  pub in_table : current_is (is_in set.FosterTarget) s.open_elems ≡ true
  pub no_context : s.context_elem ≡ None

-- the state once it was put
abbrev pub flushed : State → State
flushed s = restore_mode (without_pending_text (append_text s.pending_table_text s))

-- before the root of a document without a doctype (section 13.2.6.4.1)
pub record IsInitial (s : State) : Type 0 where
  pub mode : s.mode ≡ mode.Initial
  pub none_open : s.open_elems ≡ []
  pub no_context : s.context_elem ≡ None
  pub no_srcdoc : s.opts.iframe_srcdoc ≡ false

-- the state once the doctype was missed: that is an error, and the document is in quirks mode
abbrev pub untyped : State → State
untyped s = set_mode mode.BeforeHtml (set_quirks_mode Quirks (parse_error s))

-- what is still to be done before the next tag: nothing, white space is put, or the doctype is missed
pub data Pause : Type 0 where
  Still : Pause
  Waiting : Pause
  Untyped : Pause

abbrev pub is_waiting : Pause → Bool
is_waiting Waiting = true
is_waiting pause = false

abbrev pub is_untyped : Pause → Bool
is_untyped Untyped = true
is_untyped pause = false

-- between tokens: the second state is the first one, or is it once that was done
abbrev pub IsBetween : Pause → State → State → Type 0
IsBetween Still s r = r ≡ s
IsBetween Waiting s r = Waits s × (r ≡ flushed s)
IsBetween Untyped s r = IsInitial s × (r ≡ untyped s)

-- tags, and comments where a doctype is not missed
abbrev pub comes_after : Pause → Token → Bool
comes_after pause (TagToken tag) = true
comes_after Untyped (CommentToken text) = false
comes_after pause (CommentToken text) = true
comes_after pause t = false

-- a doctype is missed before the root alone
abbrev pub comes_first : Pause → Trees → Bool
comes_first Untyped (Element name attributes template kids rest) = true
comes_first Untyped trees = false
comes_first pause trees = true

-- The text waits, and is put in the current node when the next tag or comment comes; all else is as it was.
pub record IsTextWaiting (text : List ℕ) (s : State) (left : Settled) (after : Spot) : Type 0 where
  pub is_done : left.is_settled ≡ true
  pub waits : Waits left.state
  pub keeps_line_feeds : left.state.ignore_lf ≡ false
  pub now : IsAt (flushed left.state) after
  pub tree : (flushed left.state).forest ≡ put_text s.forest (place_in s.open_elems) text
  pub stack : (flushed left.state).open_elems ≡ s.open_elems

pub record DoesWhiteSpaceWait : Type 0 where
  -- white space in a part of a table
  pub texts : (text : List ℕ) (drops : Bool) (p : Spot) (s : State) → IsAt s p → s.ignore_lf ≡ drops
      → (drops && begins_with_line_feed text) ≡ false → is_nonempty text ≡ true → is_white text ≡ true → waits_at p ≡ true
      → IsTextWaiting text s (taken (CharacterTokens text) s) (record p { orig_mode = None })
  -- what is made of the next tag or comment is done as if that had been done before
  pub tokens : (pause : Pause) (s r : State) → IsBetween pause s r → (p : Spot) → IsAt r p → (t : Token) → comes_after pause t ≡ true
      → is_self_closing t ≡ false → IsDoneAt t p r (settle t s)
