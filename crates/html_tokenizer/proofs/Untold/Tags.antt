-- A tag whose front is held ends at a ">", after a value's end where one is read.
use Rattle.std.proofs.Common.{◌≡◌, ◌∙◌, ℕ, ◌+◌, true, nat_eq, List, [], ◌∷◌, ◌++◌, refl, sym, lit<}
use Rattle.std.specs.Prelude.{codes}
use Rattle.html_tokens.specs.declared.states.AttrValueKind.{AttrValueKind}
use Rattle.html_tokens.specs.declared.states.AttrValueKind.TheVariants as value
use Rattle.html_tokens.specs.declared.states.State.TheVariants as state
use Rattle.html_tokens.specs.declared.tags.Tag.{Tag}
use Rattle.html_tokens.specs.Item.{InData, InTag, Stand, moved, silent}
use Rattle.html_tokens.specs.Reading.{line_break}
use Rattle.html_tokens.specs.Table.{Row}
use Rattle.html_tokens.specs.Tags.{tag_end, value_from, with_attribute}
use Rattle.html_tokens.proofs.Readings.{reading-item}
use Rattle.html_tokenizer.specs.declared.tokenizer.Tokenizer.{Tokenizer}
use Rattle.html_tokenizer.specs.Rest.{rows_of, standing, held_at}
use Rattle.html_tokenizer.specs.Untold.{Untold, Front}
use Rattle.html_tokenizer.proofs.Steps.Readings.{play-is, play-nothing}
use Rattle.html_tokenizer.proofs.Untold.Completing.{by-mark}
use Rattle.html_tokenizer.specs.Listeners.{Listener, emitted_text, emitted_item}

module _ {T : Type 0} (to : Listener T) (rows : List Row) where
  -- ">" in a tag
  pub tag-closed : (st : Stand) (tag : Tag) (b : ℕ) (s : T) (t : List ℕ) → emitted_text to rows
      (moved st (InTag tag)) b s (62 ∷ t) ≡ emitted_item to rows (tag_end st tag 1) b s (62 ∷ t)
  tag-closed st tag b s t = reading-item to.step to.erred to.cdata to.ends rows (moved st (InTag tag)) b s 62 t

  -- the same after a part of it that to.ends here, or with the next character
  pub part-closed : (st : Stand) (tag : Tag) (b : ℕ) (s : T) (t : List ℕ) → emitted_item to rows
      (silent 0 (moved st (InTag tag))) b s (62 ∷ t) ≡ emitted_item to rows (tag_end st tag 1) b s (62 ∷ t)
  part-closed st tag b s t = play-nothing to rows (moved st (InTag tag)) b s (62 ∷ t) ∙ tag-closed st tag b s t

  pub later-closed : (st : Stand) (tag : Tag) (b : ℕ) (s : T) (c : ℕ) (t : List ℕ) → emitted_item to rows
      (silent 1 (moved st (InTag tag))) b s (c ∷ 62 ∷ t) ≡ emitted_item to rows (tag_end st tag 2) b s (c ∷ 62 ∷ t)
  later-closed st tag b s c t =
      play-is to rows (silent 1 (moved st (InTag tag))) (silent 0 (moved st (InTag tag))) b s c (62 ∷ t) refl
      ∙ part-closed st tag (b + line_break (nat_eq c 10)) s t
      ∙ sym (play-is to rows (tag_end st tag 2) (tag_end st tag 1) b s c (62 ∷ t) refl)

module _ (T : Type 0) {K : Type 0} (k : Tokenizer K) where
  pub tag_name-front : Untold T state.TagName k
  unfolding held_at
  tag_name-front =
      let tag : Tag = record k.tag { name = k.tag.name ++ [] } in
      by-mark T k state.TagName (tag_end (standing k InData) tag 1) refl refl
      (λ to b s t. part-closed to (rows_of k) (standing k InData) tag b s t)

  pub before_name-front : Untold T state.BeforeAttributeName k
  unfolding held_at
  before_name-front = by-mark T k state.BeforeAttributeName (tag_end (standing k InData) k.tag 1) refl refl
      (λ to b s t. tag-closed to (rows_of k) (standing k InData) k.tag b s t)

  pub name-front : Untold T state.AttributeName k
  unfolding held_at
  name-front =
      let tag : Tag = with_attribute k.tag (k.attribute_name ++ []) [] in
      by-mark T k state.AttributeName (tag_end (standing k InData) tag 1) refl refl
      (λ to b s t. part-closed to (rows_of k) (standing k InData) tag b s t)

  pub after_name-front : Untold T state.AfterAttributeName k
  unfolding held_at
  after_name-front =
      let tag : Tag = with_attribute k.tag k.attribute_name [] in
      by-mark T k state.AfterAttributeName (tag_end (standing k InData) tag 1) refl refl
      (λ to b s t. part-closed to (rows_of k) (standing k InData) tag b s t)

  pub before_value-front : Untold T state.BeforeAttributeValue k
  unfolding held_at value_from
  before_value-front =
      let tag : Tag = with_attribute k.tag k.attribute_name (codes "a") in
      Front (record {
        more = codes "a>";
        item = tag_end (standing k InData) tag 2;
        some = lit< tt;
        whole = refl;
        markup = refl;
        same = λ to b s t. later-closed to (rows_of k) (standing k InData) tag b s 97 t;
      })

  pub value-front : (kind : AttrValueKind) → Untold T (state.AttributeValue kind) k
  unfolding held_at value_from
  value-front value.Unquoted =
      let tag : Tag = with_attribute k.tag k.attribute_name (k.attribute_value ++ []) in
      by-mark T k (state.AttributeValue value.Unquoted) (tag_end (standing k InData) tag 1) refl refl
      (λ to b s t. part-closed to (rows_of k) (standing k InData) tag b s t)
  value-front value.SingleQuoted =
      let tag : Tag = with_attribute k.tag k.attribute_name (k.attribute_value ++ []) in
      Front (record {
        more = codes "'>";
        item = tag_end (standing k InData) tag 2;
        some = lit< tt;
        whole = refl;
        markup = refl;
        same = λ to b s t. later-closed to (rows_of k) (standing k InData) tag b s 39 t;
      })
  value-front value.DoubleQuoted =
      let tag : Tag = with_attribute k.tag k.attribute_name (k.attribute_value ++ []) in
      Front (record {
        more = codes "\">";
        item = tag_end (standing k InData) tag 2;
        some = lit< tt;
        whole = refl;
        markup = refl;
        same = λ to b s t. later-closed to (rows_of k) (standing k InData) tag b s 34 t;
      })

  pub after_value-front : Untold T state.AfterAttributeValueQuoted k
  unfolding held_at
  after_value-front = by-mark T k state.AfterAttributeValueQuoted (tag_end (standing k InData) k.tag 1) refl refl
      (λ to b s t. tag-closed to (rows_of k) (standing k InData) k.tag b s t)

  -- "/", with which the tag closes itself
  pub self_closing-front : Untold T state.SelfClosingStartTag k
  unfolding held_at
  self_closing-front =
      let tag : Tag = record k.tag { self_closing = true } in
      by-mark T k state.SelfClosingStartTag (tag_end (standing k InData) tag 1) refl refl
      (λ to b s t. reading-item to.step to.erred to.cdata to.ends (rows_of k) (standing k (InTag k.tag)) b s 47 (62 ∷ t))
