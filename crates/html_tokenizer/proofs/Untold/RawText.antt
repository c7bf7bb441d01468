-- "<" in raw text, and the front of an end tag after it: the rest of the name and ">" make it whole, where an end tag ends the text.
use Rattle.std.proofs.Common.{◌≡◌, ◌∙◌, ℕ, zero, suc, ◌<◌, length, Bool, true, false, nat_eq, List, [], ◌∷◌, ◌++◌, take, Option}
use Rattle.std.proofs.Common.{Some, None, refl, sym, ap, arith, append_assoc, length-append}
use Rattle.std.specs.Char.{is_ascii_alphabetic, to_ascii_lowercase}
use Rattle.std.specs.List.{list_all}
use Rattle.std.proofs.lemmas.Bool.{eqb-true}
use Rattle.html_tokens.specs.declared.states.RawKind.{RawKind}
use Rattle.html_tokens.specs.declared.states.RawKind.TheVariants as raw
use Rattle.html_tokens.specs.declared.states.ScriptEscapeKind.TheVariants as script
use Rattle.html_tokens.specs.declared.states.State.{State}
use Rattle.html_tokens.specs.declared.states.State.TheVariants as state
use Rattle.html_tokens.specs.declared.tags.Tag.{Tag}
use Rattle.html_tokens.specs.declared.tags.TagKind.TheVariants.{EndTag}
use Rattle.html_tokens.specs.Characters.{ends_tag_name, has_null, all_lowered, run}
use Rattle.html_tokens.specs.Item.{InData, InRaw, InTag, Stand, Item, moved, longer, longer_by, marked, silent}
use Rattle.html_tokens.specs.RawText.{is_letters, is_fitting_end, ends_at_tag}
use Rattle.html_tokens.specs.Table.{Row}
use Rattle.html_tokens.specs.Tags.{named, name_after, tag_end}
use Rattle.html_tokenizer.specs.declared.tokenizer.Tokenizer.{Tokenizer}
use Rattle.html_tokenizer.specs.Rest.{rows_of, standing, held_at, read_at, played}
use Rattle.html_tokenizer.specs.Untold.{BeginsEndTag, Untold, Front, Unended, has_end}
use Rattle.html_tokenizer_parts.specs.Words.{BeginsEnd, BeginsName, ends_raw_text, same_any_case}
use Rattle.html_tokenizer_parts.proofs.EndFronts.{same-itself}
use Rattle.html_tokenizer_parts.proofs.Keywords.{and_both}
use Rattle.html_tokenizer_parts.proofs.RawKinds.{letter-no_break, letter-no_end, letter-no_null, fitting-word, letters-of}
use Rattle.html_tokenizer.proofs.Steps.Readings.{play-is, reading-is, sum-zero}
use Rattle.html_tokenizer.proofs.Untold.Completing.{all-pass, is_inline, play-inline}
use Rattle.html_tokenizer.proofs.Untold.Tags.{part-closed}
use Rattle.html_tokenizer.proofs.Untold.Text.{less_than-told}
use Rattle.html_tokenizer_parts.proofs.Words.{and_parts, letter-of}
use Rattle.html_tokenizer.specs.Listeners.{Listener, emitted_text, emitted_item}

-- LETTERS

letters-inline : (w : List ℕ) → list_all is_ascii_alphabetic w ≡ true → list_all is_inline w ≡ true
letters-inline w h = all-pass is_ascii_alphabetic is_inline (λ c l. rw (letter-no_break c l) refl) w h

all-behind : (p : ℕ → Bool) (a b : List ℕ) → list_all p (a ++ b) ≡ true → list_all p b ≡ true
all-behind p [] b h = h
all-behind p (c ∷ a) b h = all-behind p a b (and_parts (p c) (list_all p (a ++ b)) h).1

-- a word that is a name of letters in any case has letters alone
same-letters : (name word : List ℕ) → list_all is_ascii_alphabetic name ≡ true → same_any_case name word ≡ true
    → list_all is_ascii_alphabetic word ≡ true
same-letters [] [] l h = refl
same-letters [] (d ∷ word) l h = absurd cc
same-letters (c ∷ name) [] l h = absurd cc
same-letters (c ∷ name) (d ∷ word) l h =
    let p = and_parts (is_ascii_alphabetic c) (list_all is_ascii_alphabetic name) l in
    let q = and_parts (nat_eq (to_ascii_lowercase c) (to_ascii_lowercase d)) (same_any_case name word) h in
    and_both (is_ascii_alphabetic d) (list_all is_ascii_alphabetic word)
    (letter-of d c p.0 (sym (eqb-true (to_ascii_lowercase c) (to_ascii_lowercase d) q.0))) (same-letters name word p.1 q.1)

-- and ends raw text before ">"
word-ends : (name word : List ℕ) → is_letters name ≡ true → same_any_case name word ≡ true → ends_raw_text (Some name) word 62 ≡ true
word-ends [] word l h = absurd cc
word-ends (c ∷ name) [] l h = absurd cc
word-ends (c ∷ name) (d ∷ word) l h = rw h refl

-- Text that makes the front of an end tag whole, but for ">".
record Ending (name front : List ℕ) : Type 0 where
  more : List ℕ
  word : List ℕ
  whole : front ++ more ≡ 47 ∷ word
  inline : list_all is_inline more ≡ true
  letters : list_all is_ascii_alphabetic word ≡ true
  same : same_any_case name word ≡ true

ending : (name front : List ℕ) → is_letters name ≡ true → BeginsEndTag (Some name) front → Ending name front
ending name [] l begins = record {
  more = 47 ∷ name;
  word = name;
  whole = refl;
  inline = letters-inline name (letters-of name l);
  letters = letters-of name l;
  same = same-itself name;
}
ending name (c ∷ []) l begins = record {
  more = name;
  word = name;
  whole = ap (λ c. c ∷ name) begins.0;
  inline = letters-inline name (letters-of name l);
  letters = letters-of name l;
  same = same-itself name;
}
ending name (c ∷ d ∷ cs) l begins =
    let rest : BeginsName name (d ∷ cs) = begins.1 in
    let all : list_all is_ascii_alphabetic ((d ∷ cs) ++ rest.more) ≡ true = same-letters name
    ((d ∷ cs) ++ rest.more) (letters-of name l) rest.whole in
    record {
      more = rest.more;
      word = (d ∷ cs) ++ rest.more;
      whole = ap (λ c. c ∷ ((d ∷ cs) ++ rest.more)) begins.0;
      inline = letters-inline rest.more (all-behind is_ascii_alphabetic (d ∷ cs) rest.more all);
      letters = all;
      same = rest.whole;
    }

-- NAMES

name-run : (word t : List ℕ) → list_all is_ascii_alphabetic word ≡ true → run ends_tag_name (word ++ 62 ∷ t) ≡ length word
name-run [] t h = refl
name-run (c ∷ word) t h =
    let p = and_parts (is_ascii_alphabetic c) (list_all is_ascii_alphabetic word) h in
    rw (letter-no_end c p.0) (ap suc (name-run word t p.1))

take-front : (w t : List ℕ) → take (length w) (w ++ t) ≡ w
take-front [] t = refl
take-front (c ∷ w) t = ap (λ u. c ∷ u) (take-front w t)

no-null : (word : List ℕ) → list_all is_ascii_alphabetic word ≡ true → has_null word ≡ false
no-null [] h = refl
no-null (c ∷ word) h =
    let p = and_parts (is_ascii_alphabetic c) (list_all is_ascii_alphabetic word) h in
    rw (letter-no_null c p.0, no-null word p.1) refl

silent-behind : (n : ℕ) (st : Stand) → silent n st ≡ longer_by n (silent 0 st)
silent-behind zero st = refl
silent-behind (suc n) st = ap longer (silent-behind n st)

-- a name of letters before ">"
name-read : (st : Stand) (tag : Tag) (word t : List ℕ) → list_all is_ascii_alphabetic word ≡ true
    → name_after st tag (word ++ 62 ∷ t) ≡ longer_by (length word)
    (silent 0 (moved st (InTag (record tag { name = tag.name ++ all_lowered word }))))
name-read st tag word t h =
    let u = word ++ 62 ∷ t in
    let next : List ℕ → Stand = λ w. moved st (InTag (record tag { name = tag.name ++ all_lowered w })) in
    ap (λ n. marked (has_null (take n u)) (silent n (next (take n u)))) (name-run word t h)
    ∙ ap (λ w. marked (has_null w) (silent (length word) (next w))) (take-front word (62 ∷ t))
    ∙ ap (λ odd. marked odd (silent (length word) (next word))) (no-null word h)
    ∙ silent-behind (length word) (next word)

-- a tag that ends after some text and ">"
ends-later : (st : Stand) (tag : Tag) (w : List ℕ) → longer_by (length w) (tag_end st tag 1) ≡ tag_end st tag (length (w ++ 62 ∷ []))
ends-later st tag [] = refl
ends-later st tag (c ∷ w) = ap longer (ends-later st tag w)

spelled : (front more word t : List ℕ) → front ++ more ≡ 47 ∷ word → front ++ ((more ++ 62 ∷ []) ++ t) ≡ 47 ∷ (word ++ 62 ∷ t)
spelled front more word t e = ap (λ u. front ++ u) (append_assoc more (62 ∷ []) t)
    ∙ sym (append_assoc front more (62 ∷ t)) ∙ ap (λ u. u ++ 62 ∷ t) e

some-text : (w : List ℕ) → 0 < length (w ++ 62 ∷ [])
some-text w = omega (arith, length-append w (62 ∷ []))

module _ {T : Type 0} (to : Listener T) (rows : List Row) where
  -- the fitting end tag
  end_tag-closed : (st : Stand) (kind : RawKind) (word : List ℕ) (b : ℕ) (s : T) (t : List ℕ)
      → list_all is_ascii_alphabetic word ≡ true → st.place ≡ InRaw kind → ends_at_tag kind ≡ true
      → is_fitting_end st.last_start_tag (47 ∷ (word ++ 62 ∷ t)) ≡ true
      → emitted_text to rows st b s (60 ∷ 47 ∷ (word ++ 62 ∷ t)) ≡ emitted_item to rows
      (tag_end st (named EndTag (all_lowered word)) 1) b s (62 ∷ t)
  end_tag-closed st kind word b s t w place e fits =
      let tag : Tag = named EndTag (all_lowered word) in
      let name : Item = longer_by (length word) (silent 0 (moved st (InTag tag))) in
      reading-is to rows st b s 60 (47 ∷ (word ++ 62 ∷ t)) (longer name)
      (rw (place, e, fits) (ap (λ i. longer (longer i)) (name-read st (named EndTag []) word t w)))
      ∙ ap (λ n. emitted_item to rows (longer name) n s (47 ∷ (word ++ 62 ∷ t))) (sum-zero b)
      ∙ play-is to rows (longer name) name b s 47 (word ++ 62 ∷ t) refl
      ∙ ap (λ n. emitted_item to rows name n s (word ++ 62 ∷ t)) (sum-zero b)
      ∙ play-inline to rows word (62 ∷ t) (silent 0 (moved st (InTag tag))) b s (letters-inline word w)
      ∙ part-closed to rows st tag b s t

-- STATES

module _ (T : Type 0) {K : Type 0} (k : Tokenizer K) where
  -- "<" and this text are held
  abbrev HoldsOpen : State → RawKind → List ℕ → Type 0
  HoldsOpen st kind front = (to : Listener T) (b : ℕ) (s : T) (t : List ℕ) → held_at to st k b s t ≡ read_at to
      (InRaw kind) k b s (60 ∷ (front ++ t))

  ended-front : (st : State) (kind : RawKind) (front name : List ℕ) → HoldsOpen st kind front
      → k.raw_end.name ≡ Some name → ends_at_tag kind ≡ true → is_letters name ≡ true → BeginsEndTag (Some name) front → Untold T st k
  ended-front st kind front name same is e l begins =
      let end : Ending name front = ending name front l begins in
      let tag : Tag = named EndTag (all_lowered end.word) in
      let text : List ℕ = end.more ++ 62 ∷ [] in
      Front (record {
        more = text;
        item = tag_end (standing k InData) tag (length text);
        some = some-text end.more;
        whole = refl;
        markup = refl;
        same = λ to b s t.
            same to b s (text ++ t)
            ∙ ap (λ u. read_at to (InRaw kind) k b s (60 ∷ u)) (spelled front end.more end.word t end.whole)
            ∙ end_tag-closed to (rows_of k) (standing k (InRaw kind)) kind end.word b s t end.letters refl e
            (ap (λ last. is_fitting_end last (47 ∷ (end.word ++ 62 ∷ t))) is ∙ fitting-word (Some name) end.word 62
            t end.letters refl ∙ word-ends name end.word l end.same)
            ∙ sym (play-inline to (rows_of k) end.more (62 ∷ t) (tag_end (standing k InData) tag 1) b s end.inline)
            ∙ ap (λ i. played to i k b s (end.more ++ 62 ∷ t)) (ends-later (standing k InData) tag end.more)
            ∙ ap (λ u. played to (tag_end (standing k InData) tag (length text)) k b s u) (sym (append_assoc end.more (62 ∷ []) t));
      })

  open-by : (st : State) (kind : RawKind) (front : List ℕ) (last : Option (List ℕ)) (ends : Bool)
      → HoldsOpen st kind front → k.raw_end.name ≡ last → has_end kind last ≡ ends → BeginsEndTag last front → Untold T st k
  open-by st kind front (Some name) true same is e begins =
      let p = and_parts (ends_at_tag kind) (is_letters name) e in
      ended-front st kind front name same is p.0 p.1 begins
  open-by st kind front None true same is e begins = absurd cc
  open-by st kind front last false same is e begins =
      Unended (record { kind = kind; front = front; begins = rw is begins; endless = rw is e; same = same })

  open-untold : (st : State) (kind : RawKind) (front : List ℕ) → HoldsOpen st kind front → BeginsEndTag k.raw_end.name front → Untold T st k
  open-untold st kind front same begins = open-by st kind front k.raw_end.name (has_end kind k.raw_end.name) same refl refl begins

  pub less_than-untold : (kind : RawKind) → Untold T (state.RawLessThanSign kind) k
  unfolding held_at
  less_than-untold raw.Rcdata = open-untold (state.RawLessThanSign raw.Rcdata) raw.Rcdata [] (λ to b s t. refl) tt
  less_than-untold raw.Rawtext = open-untold (state.RawLessThanSign raw.Rawtext) raw.Rawtext [] (λ to b s t. refl) tt
  less_than-untold raw.ScriptData = open-untold (state.RawLessThanSign raw.ScriptData) raw.ScriptData [] (λ to b s t. refl) tt
  less_than-untold (raw.ScriptDataEscaped script.Escaped) =
      open-untold (state.RawLessThanSign (raw.ScriptDataEscaped script.Escaped))
      (raw.ScriptDataEscaped script.Escaped) [] (λ to b s t. refl) tt
  less_than-untold (raw.ScriptDataEscaped script.DoubleEscaped) = less_than-told T k

  pub end_open-untold : (kind : RawKind) → Untold T (state.RawEndTagOpen kind) k
  unfolding held_at
  end_open-untold kind = open-untold (state.RawEndTagOpen kind) kind (47 ∷ []) (λ to b s t. refl) (refl, tt)

  pub end_name-untold : (kind : RawKind) → BeginsEnd k.raw_end.name k.raw_end.letters → Untold T (state.RawEndTagName kind) k
  unfolding held_at
  end_name-untold kind begins = open-untold (state.RawEndTagName kind) kind (47 ∷ k.raw_end.letters) (λ to b s t. refl) (refl, begins)
