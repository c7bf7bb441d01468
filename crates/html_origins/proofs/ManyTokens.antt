-- What kept tags give has an origin, token by token.
use Rattle.std.proofs.Common.{◌≡◌, inl, inr, ℕ, Bool, true, false, List, [], ◌∷◌, Option, Some, None, Result, Ok, Err, refl, sym, subst}
use Rattle.std.proofs.Common.{true≢false, codes, ◌∙◌}
use Rattle.std.proofs.lemmas.Slice.Eq.{bytes_eq-Decides}
use Rattle.std.proofs.Math.Nat.{le_refl}
use Rattle.std.specs.Prelude.{IfSome, IfOk, ◌||◌}
use Rattle.std.specs.Str.{bytes_eq}
use Rattle.markup.specs.Forest.{NodeData, data_of, node_count, with_missing}
use Rattle.markup.specs.Forest.NodeData.{Document, Contents, Doctype, Text, Comment, ProcessingInstruction, Element as ElementNode}
use Rattle.markup.specs.declared.attributes.Attribute.{Attribute}
use Rattle.markup.specs.declared.names.QualName.{QualName}
use Rattle.html_tokens.specs.Reading.{◌>>=◌}
use Rattle.html_tokens.specs.Sink.{Refusal, Reply}
use Rattle.html_tokens.specs.declared.tags.Tag.{Tag}
use Rattle.html_tokens.specs.declared.tags.TagKind.{TagKind}
use Rattle.html_tokens.specs.declared.tags.TagKind.TheVariants.{StartTag, EndTag}
use Rattle.html_tokens.specs.declared.token.Token.{Token}
use Rattle.html_tokens.specs.declared.token.Token.TheVariants.{TagToken, DoctypeToken, CommentToken, CharacterTokens, NullCharacterToken}
use Rattle.html_tokens.specs.declared.token.Token.TheVariants.{EOFToken, ParseError as ErrorToken}
use Rattle.html_rules.specs.Names.{Html, Namespace, element_name_of}
use Rattle.html_rules.specs.Sets.{is_among}
use Rattle.html_rules.specs.State.{Entry, Element, Marker, Open, State}
use Rattle.html_rules.specs.Step.{step}
use Rattle.html_origins.specs.Origin.{IsListed, IsOpenIn}
use Rattle.html_origins.specs.Allowed.{IsStateAllowed, AreEntriesAllowed, AreOpenAllowed, MayCreate, AreRootsAllowed, IsAllowed}
use Rattle.html_origins.specs.Allowed.{IsEndAllowed, IsTokenAllowed, IsStartAllowed, IsTagAllowed, root_and_body}
use Rattle.html_origins.specs.KeptTokens.{AreKeptTokens, IsEachKeptOriginKnown, KeptOrigin, KeepsHtmlOnly, IsNamespaceOf, IsTagKept}
use Rattle.html_origins.specs.KeptTokens.{IsKeptToken, KeptTags, after_tokens, renamed_tags, with_kept_origin}
use Rattle.html_rules_laws.specs.Usable.{Usable}
use Rattle.html_origins.proofs.Turns.{step-from}
use Rattle.html_rules_laws.proofs.Progress.UsableTokens.{states-usable}
use Rattle.html_origins.proofs.UsableStates.{fitting-usable, holds-usable}

one-of : (b : Bool) → (b || false) ≡ true → b ≡ true
one-of true h = refl
one-of false h = absurd (true≢false (sym h))

-- a name that is the one of a list
only : (name other : List ℕ) → is_among name (other ∷ []) ≡ true → name ≡ other
only name other h = (bytes_eq-Decides name other).0 (one-of (bytes_eq name other) h)

module _ (kept : KeptTags) (alone : KeepsHtmlOnly kept) (s : State) where
  pub roots : AreRootsAllowed (with_kept_origin kept s)
  roots = record {
    namespace = IsNamespaceOf.Own;
    html = λ m new. KeptOrigin.Implied m new (codes "html") refl;
    head = λ m new. KeptOrigin.Implied m new (codes "head") refl;
    body = λ m new. KeptOrigin.Implied m new (codes "body") refl;
  }

  stood : (n : ℕ) (about : NodeData) → data_of s.forest n ≡ about → IsAllowed (with_kept_origin kept s) n about
  stood n (ElementNode name attributes template integration_point) e = KeptOrigin.Old n template integration_point e
  stood n Document e = tt
  stood n Contents e = tt
  stood n (Doctype name public_id system_id) e = tt
  stood n (Text text) e = tt
  stood n (Comment text) e = tt
  stood n (ProcessingInstruction target text) e = tt

  listed : (es : List Entry) → ((tag : Tag) → IsListed tag es → IsListed tag s.active_formatting)
      → AreEntriesAllowed (with_kept_origin kept s) es
  listed [] h = tt
  listed (Marker ∷ es) h = listed es h
  listed (Element n tag ∷ es) h = (λ m new. KeptOrigin.Listed m new tag (h tag (inl refl)), listed es (λ other k. h other (inr k)))

  opened : (xs : List Open) → ((namespace : Namespace) → IsOpenIn namespace xs → IsOpenIn namespace s.open_elems)
      → AreOpenAllowed (with_kept_origin kept s) xs
  opened [] h = tt
  opened (x ∷ xs) h = (IsNamespaceOf.Opened x.namespace (h x.namespace (inl refl)), opened xs (λ namespace k. h namespace (inr k)))

  context : (o : Option Open) → s.context_elem ≡ o → IfSome o (λ x. IsNamespaceOf s x.namespace)
  context None e = tt
  context (Some x) e = IsNamespaceOf.Context x e

  pub state : IsStateAllowed (with_kept_origin kept s) s
  state = record {
    elements = record { each = λ n. stood n (data_of s.forest n) refl; count = le_refl (node_count s.forest) };
    listed = listed s.active_formatting (λ tag k. k);
    opened = opened s.open_elems (λ namespace k. k);
    context = context s.context_elem refl;
  }

  -- a kept tag has none of these names
  never : {P : Type 0} (name other : List ℕ) (attributes : List Attribute) → kept name attributes ≡ true
      → is_among other renamed_tags ≡ true
      → is_among name (other ∷ []) ≡ true → P
  never name other attributes k r n = absurd (true≢false
      (sym (subst (λ x. is_among x renamed_tags ≡ true) (sym (only name other n)) r) ∙ alone name attributes k))

  added : (tag : Tag) (m : ℕ) (attributes : List Attribute) (name : QualName) → name ≡ element_name_of Html tag.name
      → is_among tag.name root_and_body ≡ true → kept tag.name tag.attrs ≡ true → KeptOrigin kept s m name attributes
      → KeptOrigin kept s m name (with_missing attributes tag.attrs)
  added tag m attributes name same n k h = subst (λ x. KeptOrigin kept s m x (with_missing attributes tag.attrs)) (sym same)
      (KeptOrigin.WithAdded m tag.name attributes tag.attrs n k (subst (λ x. KeptOrigin kept s m x attributes) same h))

  start : (tag : Tag) → kept tag.name tag.attrs ≡ true → IsStartAllowed (with_kept_origin kept s) tag
  start tag k = record {
    html = λ m new. KeptOrigin.Own m new tag.name tag.attrs k;
    foreign = λ namespace h m new. KeptOrigin.Foreign m new namespace tag.name tag.attrs k h;
    math = λ n. never tag.name (codes "math") tag.attrs k refl n;
    svg = λ n. never tag.name (codes "svg") tag.attrs k refl n;
    image = λ n. never tag.name (codes "image") tag.attrs k refl n;
    added = λ n m name attributes same h. added tag m attributes name same n k h;
    colgroup = λ n m new. KeptOrigin.Implied m new (codes "colgroup") refl;
    tbody = λ n m new. KeptOrigin.Implied m new (codes "tbody") refl;
    tr = λ n m new. KeptOrigin.Implied m new (codes "tr") refl;
  }

  own : (name other : List ℕ) → kept name [] ≡ true → is_among name (other ∷ []) ≡ true → MayCreate (with_kept_origin kept s) Html other []
  own name other k n m new = KeptOrigin.Own m new other [] (subst (λ x. kept x [] ≡ true) (only name other n) k)

  end : (tag : Tag) → kept tag.name [] ≡ true → IsEndAllowed (with_kept_origin kept s) tag
  end tag k = record { p = λ n. own tag.name (codes "p") k n; br = λ n. own tag.name (codes "br") k n }

  by-kind : (kind : TagKind) (tag : Tag) → IsTagKept kept kind tag → IsTagAllowed (with_kept_origin kept s) kind tag
  by-kind StartTag tag k = start tag k
  by-kind EndTag tag k = end tag k

  pub token : (t : Token) → IsKeptToken kept t → IsTokenAllowed (with_kept_origin kept s) t
  token (TagToken tag) k = by-kind tag.kind tag k
  token (DoctypeToken d) k = tt
  token (CommentToken text) k = tt
  token (CharacterTokens text) k = tt
  token NullCharacterToken k = tt
  token EOFToken k = tt
  token (ErrorToken message) k = tt

  -- a kept token, and what comes after it
  pub then : (q : State) (t : Token) (line : ℕ) (go : State → Result State Refusal) (P : State → Type 0) → Usable q → IsKeptToken kept t
      → IsStateAllowed (with_kept_origin kept s) q
      → ((r : State) → Usable r → IsStateAllowed (with_kept_origin kept s) r → IfOk (go r) P)
      → IfOk (step q t line >>= λ p. go p.0) P
  then q t line go P usable told is rest = by (step q t line) (states-usable.sink.keeps q usable t line)
      (step-from (with_kept_origin kept s) roots (fitting-usable (with_kept_origin kept s) (λ name tag e. e)) q t line (token t told)
      (holds-usable (with_kept_origin kept s) (λ name tag e. e) roots t q usable) is)
    where
      by : (r : Result (State × Reply) Refusal) → IfOk r (λ p. Usable p.0) → IfOk r (λ p. IsStateAllowed (with_kept_origin kept s) p.0)
          → IfOk (r >>= λ p. go p.0) P
      by (Ok p) u h = rest p.0 u h
      by (Err e) u h = tt

  all : (ts : List (Token × ℕ)) → AreKeptTokens kept ts → (q : State) → Usable q → IsStateAllowed (with_kept_origin kept s) q
      → IfOk (after_tokens ts q) (λ after. IsStateAllowed (with_kept_origin kept s) after)
  all [] told q usable is = is
  all (t ∷ ts) told q usable is = then q t.0 t.1 (after_tokens ts) (IsStateAllowed (with_kept_origin kept s)) usable told.0 is
      (all ts told.1)

pub kept-origin-known : IsEachKeptOriginKnown
kept-origin-known kept alone ts told s usable = all kept alone s ts told s usable (state kept alone s)
