-- Tags that are taken from the front of a text at once: what is taken is what the states would have taken, character by character.
use Rattle.std.proofs.Common.{◌≡◌, ◌≢◌, ◌∙◌, ℕ, ◌<◌, true, false, nat_eq, List, [], ◌∷◌, ◌++◌, length, None, Ok, refl, sym, ap}
use Rattle.std.proofs.Common.{subst, arith, append_assoc, length-append}
use Rattle.std.specs.Prelude.{All, map}
use Rattle.std.specs.Char.{is_ascii_alphabetic, to_ascii_lowercase}
use Rattle.std.specs.Str.{IsUtf8, chars}
use Rattle.std.proofs.lemmas.Bool.Decides.{nat_tests}
use Rattle.std.proofs.lemmas.List.{map-append}
use Rattle.std.proofs.lemmas.List.Elements.{All-append, All-cons, All-head, All-nil, All-tail}
use Rattle.std.proofs.lemmas.Str.{chars-append, chars-nil, IsUtf8-append, IsUtf8-nil}
use Rattle.html_queue.specs.Set.{has}
use Rattle.html_tokens.specs.declared.replies.ProcessResult.TheVariants as flow
use Rattle.html_tokens.specs.declared.sink.TokenSink.{Ghosts}
use Rattle.html_tokens.specs.declared.states.State.TheVariants as state
use Rattle.html_tokens.specs.declared.tags.TagKind.{TagKind}
use Rattle.html_tokens.specs.declared.tags.TagKind.TheVariants.{StartTag, EndTag}
use Rattle.html_tokens.specs.Characters.{is_white_space, lowered}
use Rattle.html_tokens.specs.Sink.{SinkLaws}
use Rattle.html_tokens.specs.Tags.{named}
use Rattle.html_tokenizer.specs.Calls.{TookRun}
use Rattle.html_tokenizer_parts.specs.CharRefs.{fits_in}
use Rattle.html_tokenizer.specs.declared.tokenizer.Tokenizer.{Tokenizer}
use Rattle.html_tokenizer.specs.Fronts.{IsInTag, IsTagName, Lacks, TakesFront, after_name, mark, name_stops, opened_tag}
use Rattle.html_tokenizer_parts.specs.Input.{IsUnbroken}
use Rattle.html_tokenizer.specs.Rest.{rows_of}
use Rattle.html_tokenizer.specs.Steps.{IsAt, Took, more, nothing_owed, now, together}
use Rattle.html_tokenizer.proofs.Fronts.Texts.{mark-chars, mark-utf8}
use Rattle.html_tokenizer.proofs.Steps.Keeping.{fits-at, stays-same, stays-then}
use Rattle.html_tokenizer.proofs.Tags.Opens.{end-letter, open-letter, open-slash}
use Rattle.html_tokenizer.proofs.Errors.Rises.{more-more, rises-same, rises-then}
use Rattle.html_tokenizer_parts.proofs.Sets.{differs, not-member}
use Rattle.html_tokenizer.proofs.Tags.States.{tag_name-more}
use Rattle.html_tokenizer.proofs.Text.Runs.{lowered-same, run-held, set-unbroken, took-then}
use Rattle.html_tokenizer.proofs.Text.States.{data-opened}

-- CHARACTERS

-- what lacks a set with the line ends is unbroken
pub lacks-breaks : (bits : ℕ) → has bits 10 ≡ true → has bits 13 ≡ true → (cs : List ℕ) → All (λ c. has bits c ≡ false) cs → IsUnbroken cs
lacks-breaks bits n r [] lacks = All-nil (λ c. (nat_eq c 10 ≡ false) × (nat_eq c 13 ≡ false))
lacks-breaks bits n r (c ∷ cs) lacks =
    let first = All-head (λ c. has bits c ≡ false) c cs lacks in
    All-cons (λ c. (nat_eq c 10 ≡ false) × (nat_eq c 13 ≡ false)) c cs
    (not-member bits c 10 n first, not-member bits c 13 r first)
    (lacks-breaks bits n r cs (All-tail (λ c. has bits c ≡ false) c cs lacks))

-- a character more that is no line end
pub unbroken-more : (c : ℕ) (cs : List ℕ) → nat_eq c 10 ≡ false → nat_eq c 13 ≡ false → IsUnbroken cs → IsUnbroken (c ∷ cs)
unbroken-more c cs n r rest = All-cons (λ c. (nat_eq c 10 ≡ false) × (nat_eq c 13 ≡ false)) c cs (n, r) rest

pub unbroken-none : IsUnbroken []
unbroken-none = All-nil (λ c. (nat_eq c 10 ≡ false) × (nat_eq c 13 ≡ false))

pub unbroken-both : (a b : List ℕ) → IsUnbroken a → IsUnbroken b → IsUnbroken (a ++ b)
unbroken-both a b f g = All-append (λ c. (nat_eq c 10 ≡ false) × (nat_eq c 13 ≡ false)) a b f g

-- what a name is read as grows by a character
pub lowered-more : (front : List ℕ) (c : ℕ) → nat_eq c 0 ≡ false → map to_ascii_lowercase (front ++ c ∷ []) ≡ map
    to_ascii_lowercase front ++ lowered c ∷ []
lowered-more front c e = map-append to_ascii_lowercase front (c ∷ []) ∙ ap (λ d. map to_ascii_lowercase front ++ d ∷
    []) (sym (lowered-same c e))

pub lowered-one : (c : ℕ) → nat_eq c 0 ≡ false → map to_ascii_lowercase (c ∷ []) ≡ lowered c ∷ []
lowered-one c e = ap (λ d. d ∷ []) (sym (lowered-same c e))

letter-null : (c : ℕ) → is_ascii_alphabetic c ≡ true → nat_eq c 0 ≡ false
letter-null c e = grind (arith, nat_tests, e)

letter-space : (c : ℕ) → is_ascii_alphabetic c ≡ true → is_white_space c ≡ false
letter-space c e = grind (arith, nat_tests, e)

letter-slash : (c : ℕ) → is_ascii_alphabetic c ≡ true → c ≢ 47
letter-slash c e = λ is. let clash : false ≡ true = rw is at e in absurd cc

letter-close : (c : ℕ) → is_ascii_alphabetic c ≡ true → c ≢ 62
letter-close c e = λ is. let clash : false ≡ true = rw is at e in absurd cc

-- a character that is in neither set is no white space
pub plain-space : (bits c : ℕ) → has bits 9 ≡ true → has bits 10 ≡ true → has bits 12 ≡ true → has bits 32 ≡ true
    → has bits c ≡ false → is_white_space c ≡ false
plain-space bits c t n f s lacks = rw (
  not-member bits c 9 t lacks,
  not-member bits c 10 n lacks,
  not-member bits c 12 f lacks,
  not-member bits c 32 s lacks,
) refl

-- RUNS

module _ {K H : Type 0} (Sink : Ghosts K H) where
  -- nothing was taken
  pub took-none : (k : Tokenizer K) → Sink.is_sound (Sink.view k.sink) → fits_in (rows_of k) k.char_ref k.state ≡ true → TookRun Sink k k []
  took-none k ok fits = record {
    paused = tt;
    owed = nothing_owed;
    rises = rises-same Sink.errors k.sink k.sink refl;
    same = λ notes t. refl;
    stream = refl;
    sound = ok;
    fits = fits;
    stays = stays-same Sink k.sink k.sink refl;
  }

  -- a run was taken, and then another
  pub run-then : (old mid new : Tokenizer K) (a b : List ℕ) → TookRun Sink old mid a → TookRun Sink mid new b
      → TookRun Sink old new (a ++ b)
  run-then old mid new a b first rest = record {
    paused = tt;
    owed = together rest.owed first.owed;
    rises = rises-then Sink.errors old.sink mid.sink new.sink first.rises rest.rises;
    same = λ notes t.
        ap (λ u. now Sink old old.stream.breaks (Sink.view old.sink, notes) u) (append_assoc a b t)
        ∙ first.same notes (b ++ t)
        ∙ (rw (← first.stream) (rest.same (more first.owed notes) t))
        ∙ ap (λ n. now Sink new old.stream.breaks (Sink.view new.sink, n) t) (more-more rest.owed first.owed notes);
    stream = rest.stream ∙ first.stream;
    sound = rest.sound;
    fits = rest.fits;
    stays = stays-then Sink old.sink mid.sink new.sink first.stays rest.stays;
  }

  -- one character was taken
  pub took-one : (old new : Tokenizer K) (c : ℕ) → nat_eq c 10 ≡ false → Took Sink old new c flow.Continue → TookRun Sink old new (c ∷ [])
  took-one old new c unbroken first = took-then Sink old new new c [] unbroken first (took-none new first.sound first.fits)

  -- TAKING FRONTS

  pub fronts-then : (old mid new : Tokenizer K) (a b c : List ℕ) → TakesFront Sink old mid a b
      → TakesFront Sink mid new b c → TakesFront Sink old new a c
  fronts-then old mid new a b c first rest =
      let both : chars (first.front ++ rest.front) ≡ chars first.front ++ chars rest.front =
      chars-append first.front rest.front first.utf8 in
      record {
        front = first.front ++ rest.front;
        whole = first.whole ∙ ap (λ u. first.front ++ u) rest.whole ∙ sym (append_assoc first.front rest.front c);
        utf8 = IsUtf8-append first.front rest.front first.utf8 rest.utf8;
        unbroken = subst IsUnbroken (sym both) (unbroken-both (chars first.front) (chars rest.front) first.unbroken rest.unbroken);
        took = subst (TookRun Sink old new) (sym both) (run-then old mid new (chars first.front) (chars rest.front) first.took rest.took);
      }

  pub fronts-none : (k : Tokenizer K) (text : List ℕ) → Sink.is_sound (Sink.view k.sink)
      → fits_in (rows_of k) k.char_ref k.state ≡ true → TakesFront Sink k k text text
  fronts-none k text ok fits =
      let empty : chars [] ≡ [] = chars-nil in
      record {
        front = [];
        whole = refl;
        utf8 = IsUtf8-nil;
        unbroken = subst IsUnbroken (sym empty) unbroken-none;
        took = subst (TookRun Sink k k) (sym empty) (took-none k ok fits);
      }

-- OPENINGS

module _ {K H : Type 0} (Sink : Ghosts K H) (laws : SinkLaws Sink.is_sound Sink.step Sink.ended Sink.is_quiet) where
  tag-goes_on : (c : ℕ) → has name_stops.bits c ≡ false → is_white_space c ≡ false
  tag-goes_on c lacks = plain-space name_stops.bits c refl refl refl refl lacks

  -- the rest of a tag's name
  tag-run : (old : Tokenizer K) (kind : TagKind) (front run : List ℕ) → old.char_ref ≡ None
      → Sink.is_sound (Sink.view old.sink) → Lacks name_stops run → TookRun Sink (opened_tag old kind front)
      (opened_tag old kind (front ++ run)) run
  tag-run old kind front run fresh ok lacking =
      let bits = name_stops.bits in
      run-held Sink (opened_tag old kind) (has bits) (set-unbroken bits refl) (λ front. ok)
      (λ front. fits-at (opened_tag old kind front) state.TagName (record { state = refl; fresh = fresh }))
      (λ front c lacks. tag_name-more Sink (opened_tag old kind front) c (map to_ascii_lowercase (front ++ c ∷ []))
      (record { state = refl; fresh = fresh }) ok (tag-goes_on c lacks) (differs bits c 47 refl lacks)
      (differs bits c 62 refl lacks) (lowered-more front c (not-member bits c 0 refl lacks)))
      front run lacking

  -- the first letter of a tag's name, where the tag's kind is known
  tag-letter : (old : Tokenizer K) (kind : TagKind) (c : ℕ) → old.char_ref ≡ None
      → Sink.is_sound (Sink.view old.sink) → is_ascii_alphabetic c ≡ true
      → Took Sink (record old { tag = named kind []; state = state.TagName }) (opened_tag old kind (c ∷ [])) c flow.Continue
  tag-letter old kind c fresh ok letter =
      tag_name-more Sink (record old { tag = named kind []; state = state.TagName }) c
      (map to_ascii_lowercase (c ∷ [])) (record { state = refl; fresh = fresh }) ok (letter-space c letter)
      (letter-slash c letter) (letter-close c letter) (lowered-one c (letter-null c letter))

  opening-took : (old : Tokenizer K) (kind : TagKind) (c : ℕ) (cs : List ℕ) → IsAt old state.Data
      → Sink.is_sound (Sink.view old.sink) → is_ascii_alphabetic c ≡ true → Lacks name_stops (c ∷ cs)
      → TookRun Sink old (opened_tag old kind (c ∷ cs)) (mark kind ++ (c ∷ cs))
  opening-took old StartTag c cs from ok letter lacking =
      let bits = name_stops.bits in
      let opens : Tokenizer K = record old { state = state.TagOpen } in
      let at : IsAt opens state.TagOpen = record { state = refl; fresh = from.fresh } in
      let first : Took Sink opens (opened_tag old StartTag (c ∷ [])) c flow.Continue =
      open-letter Sink laws opens (opened_tag old StartTag (c ∷ [])) c (named StartTag []) (Ok flow.Continue) at
      letter refl (tag-letter old StartTag c from.fresh ok letter) in
      took-then Sink old opens (opened_tag old StartTag (c ∷ cs)) 60 (c ∷ cs) refl (data-opened Sink laws old 60 from ok refl)
      (took-then Sink opens (opened_tag old StartTag (c ∷ [])) (opened_tag old StartTag (c ∷ cs)) c cs
      (not-member bits c 10 refl (All-head (λ c. has bits c ≡ false) c cs lacking)) first
      (tag-run old StartTag (c ∷ []) cs from.fresh ok (All-tail (λ c. has bits c ≡ false) c cs lacking)))
  opening-took old EndTag c cs from ok letter lacking =
      let bits = name_stops.bits in
      let opens : Tokenizer K = record old { state = state.TagOpen } in
      let ends : Tokenizer K = record old { state = state.EndTagOpen } in
      let at_ends : IsAt ends state.EndTagOpen = record { state = refl; fresh = from.fresh } in
      let first : Took Sink ends (opened_tag old EndTag (c ∷ [])) c flow.Continue =
      end-letter Sink laws ends (opened_tag old EndTag (c ∷ [])) c (named EndTag []) (Ok flow.Continue) at_ends
      letter refl (tag-letter old EndTag c from.fresh ok letter) in
      took-then Sink old opens (opened_tag old EndTag (c ∷ cs)) 60 (47 ∷ c ∷ cs) refl (data-opened Sink laws old 60 from ok refl)
      (took-then Sink opens ends (opened_tag old EndTag (c ∷ cs)) 47 (c ∷ cs) refl
      (open-slash Sink laws opens (record { state = refl; fresh = from.fresh }) ok)
      (took-then Sink ends (opened_tag old EndTag (c ∷ [])) (opened_tag old EndTag (c ∷ cs)) c cs
      (not-member bits c 10 refl (All-head (λ c. has bits c ≡ false) c cs lacking)) first
      (tag-run old EndTag (c ∷ []) cs from.fresh ok (All-tail (λ c. has bits c ≡ false) c cs lacking))))

  mark-unbroken : (kind : TagKind) (name : List ℕ) → IsUnbroken name → IsUnbroken (mark kind ++ name)
  mark-unbroken StartTag name u = unbroken-more 60 name refl refl u
  mark-unbroken EndTag name u = unbroken-more 60 (47 ∷ name) refl refl (unbroken-more 47 name refl refl u)

  opening-front : (old : Tokenizer K) (kind : TagKind) (name rest : List ℕ) → IsAt old state.Data
      → Sink.is_sound (Sink.view old.sink) → IsUtf8 name → IsTagName (chars name)
      → TakesFront Sink old (opened_tag old kind (chars name)) (mark kind ++ (name ++ rest)) rest
  opening-front old kind name rest from ok utf8 is =
      let spelled = mark-chars kind name in
      let filled = is.begins.split in
      let took : TookRun Sink old (opened_tag old kind (chars name)) (mark kind ++ chars name) =
      rw filled (opening-took old kind is.begins.first is.begins.more from ok is.begins.letter (rw filled at is.lacking)) in
      record {
        front = mark kind ++ name;
        whole = sym (append_assoc (mark kind) name rest);
        utf8 = mark-utf8 kind name utf8;
        unbroken = subst IsUnbroken (sym spelled)
            (mark-unbroken kind (chars name) (lacks-breaks name_stops.bits refl refl (chars name) is.lacking));
        took = rw spelled took;
      }

  pub opening-in : (old mid : Tokenizer K) (kind : TagKind) (name : List ℕ) → IsAt old state.Data
      → mid ≡ opened_tag old kind name → IsInTag mid
  opening-in old mid kind name from e = rw e (after_name (record { state = refl; fresh = from.fresh }))

  pub opening-taken : (old mid new : Tokenizer K) (kind : TagKind) (name from rest : List ℕ) → IsAt old state.Data
      → Sink.is_sound (Sink.view old.sink) → IsUtf8 name → IsTagName (chars name)
      → mid ≡ opened_tag old kind (chars name) → TakesFront Sink mid new from rest → TakesFront Sink old new
      (mark kind ++ (name ++ from)) rest
  opening-taken old mid new kind name from rest at ok utf8 is e front =
      fronts-then Sink old mid new (mark kind ++ (name ++ from)) from rest (rw e (opening-front old kind name from at ok utf8 is)) front

  -- less is left than there was
  pub opening-shorter : (mid new : Tokenizer K) (kind : TagKind) (name from rest : List ℕ)
      → TakesFront Sink mid new from rest → length rest < length (mark kind ++ (name ++ from))
  opening-shorter mid new StartTag name from rest front =
      omega (arith, ap length front.whole, length-append front.front rest, length-append name from)
  opening-shorter mid new EndTag name from rest front =
      omega (arith, ap length front.whole, length-append front.front rest, length-append name from)
