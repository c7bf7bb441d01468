-- What is untold where a piece of the input ends, besides a reference that may go on (HTML Standard, section 13.2.5).
use Rattle.std.specs.Prelude.{◌≡◌, ℕ, ◌<◌, Bool, true, false, ◌&&◌, List, [], ◌∷◌, ◌++◌, length, Option, Some, None}
use Rattle.html_tokens.specs.declared.states.RawKind.{RawKind}
use Rattle.html_tokens.specs.declared.states.State.{State}
use Rattle.html_tokens.specs.declared.token.Token.{Token}
use Rattle.html_tokens.specs.declared.token.Token.TheVariants.{TagToken, CommentToken, DoctypeToken}
use Rattle.html_tokens.specs.Item.{TextPlace, InRaw, InTag, Item}
use Rattle.html_tokens.specs.RawText.{is_letters, ends_at_tag}
use Rattle.html_tokenizer.specs.declared.tokenizer.Tokenizer.{Tokenizer}
use Rattle.html_tokenizer.specs.Rest.{read_at, played, held_at}
use Rattle.html_tokenizer_parts.specs.Words.{BeginsEnd}
use Rattle.html_tokenizer.specs.Listeners.{Listener}

-- text of any kind
abbrev pub is_text_place : TextPlace → Bool
is_text_place (InTag tag) = false
is_text_place _ = true

-- a tag, a comment, a doctype, or no token
abbrev pub is_markup : Option Token → Bool
is_markup None = true
is_markup (Some (TagToken tag)) = true
is_markup (Some (CommentToken comment)) = true
is_markup (Some (DoctypeToken doctype)) = true
is_markup (Some _) = false

-- whether some end tag ends raw text of this kind, where this is the last start tag's name
abbrev pub has_end : RawKind → Option (List ℕ) → Bool
has_end kind None = false
has_end kind (Some name) = ends_at_tag kind && is_letters name

-- nothing, or "/" and letters with which that name begins
abbrev pub BeginsEndTag : Option (List ℕ) → List ℕ → Type 0
BeginsEndTag last [] = Unit {0}
BeginsEndTag last (c ∷ cs) = (c ≡ 47) × BeginsEnd last cs

-- in this state, whatever takes the tokens
module _ (T : Type 0) {K : Type 0} (st : State) (k : Tokenizer K) where
  -- Nothing is held: what follows is read as text, of a kind that it may still decide.
  pub record IsAllTold : Type 0 where
    pub place : List ℕ → TextPlace
    pub in_text : (t : List ℕ) → is_text_place (place t) ≡ true
    pub same : (to : Listener T) (b : ℕ) (s : T) (t : List ℕ) → held_at to st k b s t ≡ read_at to (place t) k b s t

  -- The front of one item is held, which is no text: this text after it makes the item whole, whatever follows.
  pub record IsFront : Type 0 where
    pub more : List ℕ
    pub item : Item
    pub some : 0 < length more
    pub whole : item.len ≡ length more
    pub markup : is_markup item.token ≡ true
    pub same : (to : Listener T) (b : ℕ) (s : T) (t : List ℕ) → held_at to st k b s (more ++ t) ≡ played to item k b s (more ++ t)

  -- "<" and the front of an end tag are held, in raw text that no end tag ends.
  pub record IsUnended : Type 0 where
    pub kind : RawKind
    pub front : List ℕ
    pub begins : BeginsEndTag k.raw_end.name front
    pub endless : has_end kind k.raw_end.name ≡ false
    pub same : (to : Listener T) (b : ℕ) (s : T) (t : List ℕ) → held_at to st k b s t ≡ read_at to (InRaw kind) k b s (60 ∷ (front ++ t))

  -- So much is held, and no more.
  pub data Untold : Type 0 where
    Nothing : IsAllTold → Untold
    Front : IsFront → Untold
    Unended : IsUnended → Untold
