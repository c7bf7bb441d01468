-- What a state has, and what a token gives, has an origin.
use Rattle.std.proofs.Common.{◌≡◌, inl, inr, ℕ, List, [], ◌∷◌, Option, Some, None, refl}
use Rattle.std.proofs.Math.Nat.{le_refl}
use Rattle.std.specs.Prelude.{IfSome}
use Rattle.markup.specs.Forest.{NodeData, data_of, node_count}
use Rattle.markup.specs.Forest.NodeData.{Document, Contents, Doctype, Text, Comment, ProcessingInstruction, Element as ElementNode}
use Rattle.html_tokens.specs.declared.tags.Tag.{Tag}
use Rattle.html_tokens.specs.declared.tags.TagKind.{TagKind}
use Rattle.html_tokens.specs.declared.tags.TagKind.TheVariants.{StartTag, EndTag}
use Rattle.html_tokens.specs.declared.token.Token.{Token}
use Rattle.html_tokens.specs.declared.token.Token.TheVariants.{TagToken, DoctypeToken, CommentToken, CharacterTokens, NullCharacterToken}
use Rattle.html_tokens.specs.declared.token.Token.TheVariants.{EOFToken, ParseError as ErrorToken}
use Rattle.html_rules.specs.Names.{Namespace}
use Rattle.html_rules.specs.State.{Entry, Element, Marker, Open, State}
use Rattle.html_origins.specs.Origin.{Origin, IsEndOf, IsEachOriginKnown, IsListed, IsOpenIn, IsNamespaceFor, IsStartOf, with_origin}
use Rattle.html_origins.specs.Allowed.{IsStateAllowed, AreEntriesAllowed, AreOpenAllowed, AreRootsAllowed, IsAllowed, IsEndAllowed}
use Rattle.html_origins.specs.Allowed.{IsTokenAllowed, IsStartAllowed, IsTagAllowed}
use Rattle.html_origins.proofs.Turns.{fitting-any, holds-any, step-from}

module _ (s : State) (t : Token) where
  roots : AreRootsAllowed (with_origin s t)
  roots = record { namespace = IsNamespaceFor.Own; html = Origin.ImpliedHtml; head = Origin.ImpliedHead; body = Origin.ImpliedBody }

  stood : (n : ℕ) (about : NodeData) → data_of s.forest n ≡ about → IsAllowed (with_origin s t) n about
  stood n (ElementNode name attributes template integration_point) e = Origin.Old n template integration_point e
  stood n Document e = tt
  stood n Contents e = tt
  stood n (Doctype name public_id system_id) e = tt
  stood n (Text text) e = tt
  stood n (Comment text) e = tt
  stood n (ProcessingInstruction target text) e = tt

  listed : (es : List Entry) → ((tag : Tag) → IsListed tag es → IsListed tag s.active_formatting) → AreEntriesAllowed (with_origin s t) es
  listed [] h = tt
  listed (Marker ∷ es) h = listed es h
  listed (Element n tag ∷ es) h = (λ m new. Origin.Listed m new tag (h tag (inl refl)), listed es (λ other k. h other (inr k)))

  opened : (xs : List Open) → ((namespace : Namespace) → IsOpenIn namespace xs → IsOpenIn namespace s.open_elems)
      → AreOpenAllowed (with_origin s t) xs
  opened [] h = tt
  opened (x ∷ xs) h = (IsNamespaceFor.Opened (h x.namespace (inl refl)), opened xs (λ namespace k. h namespace (inr k)))

  context : (o : Option Open) → s.context_elem ≡ o → IfSome o (λ x. IsNamespaceFor s t x.namespace)
  context None e = tt
  context (Some x) e = IsNamespaceFor.Context x e

  state : IsStateAllowed (with_origin s t) s
  state = record {
    elements = record { each = λ n. stood n (data_of s.forest n) refl; count = le_refl (node_count s.forest) };
    listed = listed s.active_formatting (λ tag k. k);
    opened = opened s.open_elems (λ namespace k. k);
    context = context s.context_elem refl;
  }

  start : (tag : Tag) → IsStartOf t tag → IsStartAllowed (with_origin s t) tag
  start tag h = record {
    html = λ m new. Origin.Own m new tag h;
    foreign = λ namespace k m new. Origin.Foreign m new tag namespace h k;
    math = λ n. (IsNamespaceFor.ByMath tag h n, λ m new. Origin.MathRoot m new tag h n);
    svg = λ n. (IsNamespaceFor.BySvg tag h n, λ m new. Origin.SvgRoot m new tag h n);
    image = λ n m new. Origin.Image m new tag h n;
    added = λ n m name attributes may k. Origin.WithAdded m name attributes tag h n k;
    colgroup = λ n m new. Origin.ImpliedColgroup m new tag h n;
    tbody = λ n m new. Origin.ImpliedTbody m new tag h n;
    tr = λ n m new. Origin.ImpliedTr m new tag h n;
  }

  end : (tag : Tag) → IsEndOf t tag → IsEndAllowed (with_origin s t) tag
  end tag h = record { p = λ n m new. Origin.ImpliedP m new tag h n; br = λ n m new. Origin.ImpliedBr m new tag h n }

  by-kind : (kind : TagKind) (tag : Tag) → t ≡ TagToken tag → tag.kind ≡ kind → IsTagAllowed (with_origin s t) kind tag
  by-kind StartTag tag e k = start tag (record { token = e; kind = k })
  by-kind EndTag tag e k = end tag (record { token = e; kind = k })

  token : (u : Token) → t ≡ u → IsTokenAllowed (with_origin s t) u
  token (TagToken tag) e = by-kind tag.kind tag e refl
  token (DoctypeToken d) e = tt
  token (CommentToken text) e = tt
  token (CharacterTokens text) e = tt
  token NullCharacterToken e = tt
  token EOFToken e = tt
  token (ErrorToken message) e = tt

pub origin-known : IsEachOriginKnown
origin-known s t line =
    step-from (with_origin s t) (roots s t) (fitting-any (with_origin s t) (λ name tag. tt)) s t line (token s t t refl)
    (holds-any (with_origin s t) (λ name tag. tt) (roots s t) t s) (state s t)
