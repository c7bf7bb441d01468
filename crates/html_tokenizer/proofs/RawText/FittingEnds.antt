-- The fitting end tag of raw text.
use Rattle.std.proofs.Common.{◌≡◌, ◌∙◌, ℕ, ◌+◌, true, false, nat_eq, List, [], ◌∷◌, ◌++◌, map, Option, Result, refl, sym, ap}
use Rattle.std.proofs.Common.{arith, append_assoc, append-nil}
use Rattle.std.specs.Char.{is_ascii_alphabetic, to_ascii_lowercase}
use Rattle.std.specs.List.{list_all}
use Rattle.std.proofs.lemmas.Bool.Decides.{nat_tests}
use Rattle.markup.specs.declared.fault.ParseFault.{ParseFault}
use Rattle.markup.specs.declared.attributes.Attribute.{Attribute}
use Rattle.html_tokens.specs.declared.replies.ProcessResult.{ProcessResult}
use Rattle.html_tokens.specs.declared.states.RawKind.{RawKind}
use Rattle.html_tokens.specs.declared.states.State.TheVariants as state
use Rattle.html_tokens.specs.declared.tags.Tag.{Tag}
use Rattle.html_tokens.specs.declared.tags.TagKind.TheVariants.{EndTag}
use Rattle.html_tokens.specs.declared.sink.TokenSink.{Ghosts}
use Rattle.html_tokens.specs.Characters.{lowered}
use Rattle.html_tokens.specs.Notes.{Notes}
use Rattle.html_tokens.specs.Item.{slight_if, InRaw, Stand, longer}
use Rattle.html_tokens.specs.RawText.{is_fitting_end, ends_at_tag}
use Rattle.html_tokens.specs.Reading.{erred_by, line_break}
use Rattle.html_tokens.specs.Table.{Row}
use Rattle.html_tokens.specs.Tags.{named, name_after}
use Rattle.html_tokenizer.specs.declared.tokenizer.Tokenizer.{Tokenizer}
use Rattle.html_tokenizer.specs.Rest.{rows_of, standing, held_at}
use Rattle.html_tokenizer.specs.Steps.{IsAt, Keeps}
use Rattle.html_tokenizer_parts.specs.Words.{is_fitting, ends_raw_text}
use Rattle.html_tokenizer.proofs.Steps.Keeping.{keeps_silent, at, no-break}
use Rattle.html_tokenizer_parts.proofs.Words.{and_parts}
use Rattle.html_tokenizer_parts.proofs.RawKinds.{letter-no_break, letter-no_null, letter-no_end, end-no_letter, fitting-word}
use Rattle.html_tokenizer.proofs.Steps.Readings.{Absorbing, sum-zero, reading-is, play-is}
use Rattle.html_tokenizer.proofs.Steps.Lawful.{slight-absorbed}
use Rattle.html_tokenizer.proofs.Tags.Readings.{name-more}
use Rattle.html_tokenizer.specs.Listeners.{Listener, listening, emitted_text, emitted_item}

letter-lowered : (c : ℕ) → is_ascii_alphabetic c ≡ true → lowered c ≡ to_ascii_lowercase c
letter-lowered c h =
    let e : nat_eq (to_ascii_lowercase c) 0 ≡ false = grind (arith, nat_tests) in
    rw e refl

no_letter : (last : Option (List ℕ)) (word : List ℕ) (c : ℕ) → ends_raw_text last word c ≡ true → is_ascii_alphabetic c ≡ false
no_letter last word c fits = end-no_letter c (and_parts (is_fitting last word) _ fits).1

module _ {T : Type 0} (to : Listener T) (rows : List Row) where
  -- the letters of a tag's name
  name-letters : (absorbs : Absorbing to.erred) (st : Stand) (tag : Tag) (word : List ℕ) (b : ℕ) (s : T)
      (t : List ℕ) → list_all is_ascii_alphabetic word ≡ true
      → emitted_item to rows (name_after st tag (word ++ t)) b s (word ++ t) ≡ emitted_item to rows
      (name_after st (record tag { name = tag.name ++ map to_ascii_lowercase word }) t) b s t
  name-letters absorbs st tag [] b s t w =
      ap (λ n. emitted_item to rows (name_after st (record tag { name = n }) t) b s t) (sym (append-nil tag.name))
  name-letters absorbs st tag (c ∷ word) b s t w =
      let p = and_parts _ _ w in
      let more = record tag { name = tag.name ++ lowered c ∷ [] } in
      name-more to rows absorbs st tag b s c (word ++ t) (letter-no_end c p.0)
      ∙ ap (λ odd. emitted_item to rows (name_after st more (word ++ t)) (b + line_break (nat_eq c 10))
      (erred_by to.erred (slight_if odd) s) (word ++ t)) (letter-no_null c p.0)
      ∙ ap (λ n. emitted_item to rows (name_after st more (word ++ t)) n s (word ++ t)) (no-break b c (letter-no_break c p.0))
      ∙ name-letters absorbs st more word b s t p.1
      ∙ ap (λ n. emitted_item to rows (name_after st (record tag { name = n }) t) b s t)
      (append_assoc tag.name (lowered c ∷ []) (map to_ascii_lowercase word))
      ∙ ap (λ d. emitted_item to rows
      (name_after st (record tag { name = tag.name ++ d ∷ map to_ascii_lowercase word }) t) b s t) (letter-lowered c p.0)

  -- "</" and the name of an end tag
  end_tag-read : (absorbs : Absorbing to.erred) (st : Stand) (kind : RawKind) (word : List ℕ) (b : ℕ) (s : T)
      (t : List ℕ) → list_all is_ascii_alphabetic word ≡ true → st.place ≡ InRaw kind → ends_at_tag kind ≡ true
      → is_fitting_end st.last_start_tag (47 ∷ (word ++ t)) ≡ true
      → emitted_text to rows st b s (60 ∷ 47 ∷ (word ++ t)) ≡ emitted_item to rows
      (name_after st (named EndTag (map to_ascii_lowercase word)) t) b s t
  end_tag-read absorbs st kind word b s t w place e fits =
      let name = name_after st (named EndTag []) (word ++ t) in
      reading-is to rows st b s 60 (47 ∷ (word ++ t)) (longer name) (rw (place, e, fits) refl)
      ∙ ap (λ n. emitted_item to rows (longer name) n s (47 ∷ (word ++ t))) (sum-zero b)
      ∙ play-is to rows (longer name) name b s 47 (word ++ t) refl
      ∙ ap (λ n. emitted_item to rows name n s (word ++ t)) (sum-zero b)
      ∙ name-letters absorbs st (named EndTag []) word b s t w

module _ {K H : Type 0} (Sink : Ghosts K H) where
  end_tag-says : (old : Tokenizer K) (kind : RawKind) (name : List ℕ) (attributes : List Attribute) (c : ℕ)
      → list_all is_ascii_alphabetic old.raw_end.letters ≡ true → ends_at_tag kind ≡ true
      → ends_raw_text old.raw_end.name old.raw_end.letters c ≡ true → name ≡ map to_ascii_lowercase old.raw_end.letters → attributes ≡ []
      → (b : ℕ) (s : Sink.State × Notes ℕ) (t : List ℕ) → at Sink (state.RawEndTagName kind) old b s (c ∷ t)
      ≡ at Sink state.TagName (record old {
        tag = record {
          kind = EndTag;
          name = name;
          self_closing = false;
          attrs = attributes;
          had_duplicate_attributes = false;
        };
        state = state.TagName;
      }) b s (c ∷ t)
  unfolding held_at
  end_tag-says old kind name attributes c w e fits n a b s t = rw (n, a)
      (end_tag-read (listening Sink) (rows_of old) slight-absorbed (standing old (InRaw kind)) kind old.raw_end.letters b s (c ∷ t) w refl e
      (fitting-word old.raw_end.name old.raw_end.letters c t w (no_letter old.raw_end.name old.raw_end.letters c fits) ∙ fits))

  -- the whole fitting name was read, and the tag goes on
  pub end_tag-kept : (old new : Tokenizer K) (kind : RawKind) (name : List ℕ) (attributes : List Attribute) (c : ℕ)
      (result : Result (ProcessResult H) ParseFault) → IsAt old (state.RawEndTagName kind)
      → list_all is_ascii_alphabetic old.raw_end.letters ≡ true → ends_at_tag kind ≡ true
      → ends_raw_text old.raw_end.name old.raw_end.letters c ≡ true
      → name ≡ map to_ascii_lowercase old.raw_end.letters → attributes ≡ []
      → Keeps Sink (record old {
        tag = record {
          kind = EndTag;
          name = name;
          self_closing = false;
          attrs = attributes;
          had_duplicate_attributes = false;
        };
        state = state.TagName;
      }) new c result → Keeps Sink old new c result
  end_tag-kept old new kind name attributes c result from w e fits n a h =
      keeps_silent Sink old (record old {
        tag = record {
          kind = EndTag;
          name = name;
          self_closing = false;
          attrs = attributes;
          had_duplicate_attributes = false;
        };
        state = state.TagName;
      }) new c
      (state.RawEndTagName kind) state.TagName result from (record { state = refl; fresh = from.fresh }) refl
      refl (end_tag-says old kind name attributes c w e fits n a) h
