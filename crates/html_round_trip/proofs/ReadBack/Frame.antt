-- A document's frame is read as it is: the doctype, `html`, `head` with white space and a title, white space, and `body`.
use Rattle.std.proofs.Common.{◌≡◌, ◌∙◌, ℕ, Bool, true, false, List, [], ◌∷◌, ◌++◌, Option, Some, refl, sym, ap, append_assoc}
use Rattle.std.proofs.Common.{append-nil, subst}
use Rattle.std.specs.List.{list_all}
use Rattle.markup.specs.Escape.{end_tag, escape, start_tag}
use Rattle.markup.specs.Forest.{Forest, node_count, put_new, put_text}
use Rattle.markup.specs.Forest.Place.{Last}
use Rattle.markup.specs.Trees.{Trees, Nothing, Text, Comment, ProcessingInstruction, Doctype, Element, written}
use Rattle.markup.specs.declared.attributes.Attribute.{Attribute}
use Rattle.html_plain.specs.Elements.{holds, html_name, inside, spelled}
use Rattle.html_plain.specs.Grammar.{IsPlain, are_plain_attributes, is_white}
use Rattle.html_plain.specs.Laws.{text_of}
use Rattle.html_plain.specs.declared.elements.PlainElement.{PlainElement}
use Rattle.html_plain.specs.declared.elements.PlainElement.TheVariants.{Html, Head, Title, Body}
use Rattle.html_plain.specs.declared.place.PlainPlace.TheVariants.{AfterTitle, InFlow, InHead, InTitle}
use Rattle.html_plain.proofs.WrittenForms.{element-written}
use Rattle.html_round_trip.specs.Planting.Planted.{planted}
use Rattle.html_round_trip.proofs.Planting.PlainTrees.{plain-plantable}
use Rattle.html_rules.specs.Rules.{Finished, turn_of}
use Rattle.html_rules.specs.Sets.{names_of}
use Rattle.html_rules.specs.Shape.{is_fit}
use Rattle.html_rules.specs.State.{State}
use Rattle.html_rules.specs.declared.insertion_mode.InsertionMode.TheVariants as mode
use Rattle.html_round_trip.specs.Slices.Forms.{Data as InData, Escapable, end_token, in_rcdata, start_token}
use Rattle.html_round_trip.proofs.Slices.PlainForms.{attributes-read, names-of_tags, texts-read}
use Rattle.html_round_trip.proofs.Slices.SpelledForms.{end-spelled, fitting_end-spelled, start-spelled}
use Rattle.html_tokens.specs.Laws.{ReadsEscapes, has_no_null, in_data}
use Rattle.html_tokens.specs.Table.{Row}
use Rattle.html_tokens.specs.Tags.{named}
use Rattle.html_tokens.specs.declared.replies.TokenSinkResult.TheVariants.{Continue, RawData}
use Rattle.html_tokens.specs.declared.states.RawKind.TheVariants.{Rcdata}
use Rattle.html_tokens.specs.declared.tags.TagKind.TheVariants.{EndTag}
use Rattle.html_tokens.specs.declared.token.Token.TheVariants.{CharacterTokens}
use Rattle.html_round_trip.specs.ReadBack.Places.{Fits, IsGood}
use Rattle.html_round_trip.specs.ReadBack.Runs as runs
use Rattle.html_round_trip.specs.ReadBack.Runs.{Reads, TakesQuietly}
use Rattle.html_round_trip.specs.ReadBack.States.{Around, OfBody, at, element_node, opened, tag_of}
use Rattle.html_round_trip.proofs.ReadBack.Goods.{good-around, good-element, good-planted, good-text}
use Rattle.html_round_trip.proofs.ReadBack.Runs.{reads-both, reads-one}
use Rattle.html_round_trip.proofs.ReadBack.Tables.{space-of}
use Rattle.html_round_trip.proofs.ReadBack.Taking.{IsReady, character-once, tag-once, tag-replied}
use Rattle.html_round_trip.proofs.ReadBack.Texts.{every, text-reads, white-not_null}
use Rattle.html_round_trip.proofs.ReadBack.Trees.{law}
use Rattle.html_round_trip.proofs.ReadBack.Turns.Frame.{character-in_title, end-body, end-head, end-title, in_title}
use Rattle.html_round_trip.proofs.ReadBack.Turns.Frame.{space-after_head, space-in_head, start-body, start-title}
use Rattle.html_round_trip.proofs.ReadBack.Words.{appended}

-- the text in a title
pub record TitleText (sc : Bool) (kids : Trees) : Type 0 where
  text : List ℕ
  shown : has_no_null text ≡ true
  is : text_of sc kids ≡ escape text
  grows : (n : ℕ) (f : Forest) → planted kids n f ≡ put_text f (Last n) text

no-more : (trees : Trees) → IsPlain InTitle true trees → trees ≡ Nothing
no-more Nothing h = refl
no-more (Text text rest) h = absurd (let no = h.0 in cc)
no-more (Comment text rest) h = absurd (let no = h.0 in cc)
no-more (ProcessingInstruction target text rest) h = absurd h
no-more (Doctype name public_id system_id rest) h = absurd (let no = h.0 in cc)
no-more (Element name attributes template kids rest) h = absurd (let no = h.1.2 in cc)

pub title-text : (sc : Bool) (kids : Trees) → IsPlain InTitle false kids → TitleText sc kids
unfolding written
title-text sc Nothing h = record { text = []; shown = refl; is = refl; grows = λ n f. refl }
title-text sc (Text text rest) h = rw (no-more rest h.3) record {
  text = text;
  shown = (texts-read text h.1).0;
  is = append-nil (escape text);
  grows = λ n f. refl;
}
title-text sc (Comment text rest) h = absurd (let no = h.0 in cc)
title-text sc (ProcessingInstruction target text rest) h = absurd h
title-text sc (Doctype name public_id system_id rest) h = absurd (let no = h.0 in cc)
title-text sc (Element name attributes template kids rest) h = absurd (let no = h.1.2 in cc)

module _ (rows : List Row) (reads : ReadsEscapes rows) (sc : Bool) (o : Around) where
  -- a tag, as it is written
  pub start-reads : (k : PlainElement) (attrs : List Attribute) → are_plain_attributes attrs ≡ true
      → (last : Option (List ℕ)) (s new : State) → TakesQuietly rows s (start_token (spelled k) attrs) new Continue
      → Reads rows (in_data last) s (start_tag (spelled k) attrs) (in_data (Some (spelled k))) new
  start-reads k attrs plain last s new takes =
      reads-one rows (in_data last) (in_data (Some (spelled k))) s new (start_tag (spelled k) attrs)
      (start_token (spelled k) attrs) Continue
      (start-spelled rows reads last (spelled k) attrs (names-of_tags k) (attributes-read attrs plain)) takes

  pub end-reads : (k : PlainElement) (last : Option (List ℕ)) (s new : State) → TakesQuietly rows s
      (end_token (spelled k)) new Continue → Reads rows (in_data last) s (end_tag (spelled k)) (in_data last) new
  end-reads k last s new takes = reads-one rows (in_data last) (in_data last) s new (end_tag (spelled k))
      (end_token (spelled k)) Continue (end-spelled rows last (spelled k) (names-of_tags k)) takes

  -- THE HEAD

  module _ (hd n m : ℕ) where
    abbrev pub in_head : Forest → State
    in_head f = at o (Some hd) mode.InHead f (opened m Head ∷ opened n Html ∷ []) [] true

    ready-in_head : (f : Forest) (t : _) → f.errors ≡ 0 → IsReady (in_head f) t
    unfolding is_fit names_of
    ready-in_head f t silent = record { goes_on = refl; fit = refl; free = refl; keeps_lf = refl; silent = silent }

    head-space : (f : Forest) (ok : Bool) (c : ℕ) → IsGood f m → is_white c ≡ true → TakesQuietly rows (in_head f)
        (CharacterTokens (c ∷ [])) (in_head (put_text f (Last m) (c ∷ []))) Continue
    head-space f ok c good white =
        character-once rows _ _ c false (ready-in_head f _ good.silent)
        (space-in_head o (Some hd) f n m c (space-of c white) ∙ ap (λ s. turn_of s (Finished false))
        (appended o (Some hd) mode.InHead (c ∷ []) m Head f (opened n Html ∷ []) [] true)) (good-text f m (c ∷ []) good).silent

    pub head-text : (last : Option (List ℕ)) (cs : List ℕ) → list_all is_white cs ≡ true → (f : Forest) → IsGood f m
        → Reads rows (in_data last) (in_head f) (escape cs) (in_data last) (in_head (put_text f (Last m) cs))
    head-text last cs white f good = text-reads rows reads InData last m (λ f ok. in_head f) (λ c ok. ok) is_white
        head-space cs (white-not_null cs white) white f true good

    behind-title : (trees : Trees) (after_text : Bool) → IsPlain AfterTitle after_text trees
        → (last : Option (List ℕ)) (f : Forest) → IsGood f m → Reads rows (in_data last) (in_head f)
        (text_of sc trees) (in_data last) (in_head (planted trees m f))
    unfolding written
    behind-title Nothing after_text h last f good = runs.NoText
    behind-title (Text text rest) after_text h last f good =
        let g = put_text f (Last m) text in
        reads-both rows (in_data last) (in_data last) (in_data last) (in_head f) (in_head g)
        (in_head (planted rest m g)) (escape text) (text_of sc rest) (head-text last text h.2 f good)
        (behind-title rest true h.3 last g (good-text f m text good))
    behind-title (Comment text rest) after_text h last f good = absurd (let no = h.0 in cc)
    behind-title (ProcessingInstruction target text rest) after_text h last f good = absurd h
    behind-title (Doctype name public_id system_id rest) after_text h last f good = absurd (let no = h.0 in cc)
    behind-title (Element name attributes template kids rest) after_text h last f good = absurd (let no = h.1.2 in cc)

    -- A TITLE

    module _ (t : ℕ) where
      abbrev titled : Forest → State
      titled f = in_title o (Some hd) f (opened t Title ∷ opened m Head ∷ opened n Html ∷ [])

      title-character : (f : Forest) (ok : Bool) (c : ℕ) → IsGood f t → true ≡ true → TakesQuietly rows (titled f)
          (CharacterTokens (c ∷ [])) (titled (put_text f (Last t) (c ∷ []))) Continue
      unfolding is_fit names_of
      title-character f ok c good any =
          character-once rows _ _ c false (record {
            goes_on = refl;
            fit = refl;
            free = refl;
            keeps_lf = refl;
            silent = good.silent;
          }) (character-in_title o (Some hd) f n m t c) (good-text f t (c ∷ []) good).silent

      title-ends : (f : Forest) → f.errors ≡ 0 → TakesQuietly rows (titled f) (end_token (spelled Title)) (in_head f) Continue
      unfolding is_fit names_of
      title-ends f silent = tag-once rows _ _ (named EndTag (spelled Title)) false
          (record { goes_on = refl; fit = refl; free = refl; keeps_lf = refl; silent = silent }) refl (end-title o (Some hd) f n m t) silent

    pub title-reads : (attrs : List Attribute) → are_plain_attributes attrs ≡ true → (kids : Trees)
        → TitleText sc kids → (last : Option (List ℕ)) (f : Forest) → IsGood f m
        → let g = put_new f (Last m) (element_node Title attrs) in
        Reads rows (in_data last) (in_head f)
        (start_tag (spelled Title) attrs ++ (text_of sc kids ++ end_tag (spelled Title)))
        (in_data (Some (spelled Title))) (in_head (planted kids (node_count f) g))
    title-reads attrs plain kids content last f good =
        let t = node_count f in
        let g = put_new f (Last m) (element_node Title attrs) in
        let inner = good-element f m Title attrs good in
        let name = spelled Title in
        let text = content.text in
        let h = put_text g (Last t) text in
        let good_h = good-text g t text inner in
        let opens = tag-replied rows (in_head f) (titled t g) (tag_of Title attrs) (RawData Rcdata)
        (ready-in_head f _ good.silent) (start-title o (Some hd) f n m attrs) good.silent (λ pauses. refl) in
        rw (content.is, content.grows)
        (reads-both rows (in_data last) (in_rcdata (Some name)) (in_data (Some name)) (in_head f) (titled t g)
        (in_head h) (start_tag name attrs) (escape text ++ end_tag name)
        (reads-one rows (in_data last) (in_data (Some name)) (in_head f) (titled t g) (start_tag name attrs)
        (start_token name attrs) (RawData Rcdata)
        (start-spelled rows reads last name attrs (names-of_tags Title) (attributes-read attrs plain)) opens)
        (reads-both rows (in_rcdata (Some name)) (in_rcdata (Some name)) (in_data (Some name)) (titled t g)
        (titled t h) (in_head h) (escape text) (end_tag name)
        (text-reads rows reads Escapable (Some name) t (λ f ok. titled t f) (λ c ok. ok) (λ c. true)
        (title-character t) text content.shown (every text) g true inner)
        (reads-one rows (in_rcdata (Some name)) (in_data (Some name)) (titled t h) (in_head h) (end_tag name)
        (end_token name) Continue (fitting_end-spelled rows name refl) (title-ends t h good_h.silent))))

    -- what a head is read to
    pub record HeadRead (last : Option (List ℕ)) (f : Forest) (text : List ℕ) (g : Forest) : Type 0 where
      pub left : Option (List ℕ)
      pub runs : Reads rows (in_data last) (in_head f) text (in_data left) (in_head g)

    title-only : (k : PlainElement) → holds InHead k ≡ true → k ≡ Title
    title-only Title h = refl
    title-only k h = absurd (cc)

    -- a title, and white space after it
    title-first : (attrs : List Attribute) → are_plain_attributes attrs ≡ true → (kids rest : Trees)
        → IsPlain InTitle false kids → IsPlain AfterTitle false rest → (last : Option (List ℕ)) (f : Forest) → IsGood f m
        → HeadRead last f (text_of sc (Element (html_name (spelled Title)) attrs false kids rest))
        (planted (Element (html_name (spelled Title)) attrs false kids rest) m f)
    title-first attrs plain kids rest within behind last f good =
        let t = node_count f in
        let g = put_new f (Last m) (element_node Title attrs) in
        let h = planted kids t g in
        let can = plain-plantable InTitle false kids within in
        let good_h = good-planted kids t m g false can (good-element f m Title attrs good) (good-around f m Title attrs good).parent in
        let a = start_tag (spelled Title) attrs in
        let b = text_of sc kids in
        let c = end_tag (spelled Title) in
        let d = text_of sc rest in
        let shape : a ++ (b ++ (c ++ d)) ≡ (a ++ (b ++ c)) ++ d = simp append_assoc in
        record {
          left = Some (spelled Title);
          runs =
              rw (element-written Title refl sc attrs kids rest, shape)
              (reads-both rows (in_data last) (in_data (Some (spelled Title))) (in_data (Some (spelled Title)))
              (in_head f) (in_head h) (in_head (planted rest m h)) (a ++ (b ++ c)) d
              (title-reads attrs plain kids (title-text sc kids within) last f good)
              (behind-title rest false behind (Some (spelled Title)) h good_h));
        }

    pub head-reads : (trees : Trees) (after_text : Bool) → IsPlain InHead after_text trees
        → (last : Option (List ℕ)) (f : Forest) → IsGood f m → HeadRead last f (text_of sc trees) (planted trees m f)
    unfolding written
    head-reads Nothing after_text h last f good = record { left = last; runs = runs.NoText }
    head-reads (Text text rest) after_text h last f good =
        let g = put_text f (Last m) text in
        let more = head-reads rest true h.3 last g (good-text f m text good) in
        record {
          left = more.left;
          runs = reads-both rows (in_data last) (in_data last) (in_data more.left)
              (in_head f) (in_head g) (in_head (planted rest m g)) (escape text) (text_of sc rest)
              (head-text last text h.2 f good) more.runs;
        }
    head-reads (Comment text rest) after_text h last f good = absurd (let no = h.0 in cc)
    head-reads (ProcessingInstruction target text rest) after_text h last f good = absurd h
    head-reads (Doctype name public_id system_id rest) after_text h last f good = absurd (let no = h.0 in cc)
    head-reads (Element name attributes template kids rest) after_text h last f good =
        let w = h.1 in
        let only = title-only h.0 w.2 in
        subst (λ x. HeadRead last f (text_of sc (Element x attributes template kids rest))
        (planted (Element x attributes template kids rest) m f)) (sym (w.0 ∙ ap (λ k. html_name (spelled k)) only))
        (subst (λ x. HeadRead last f (text_of sc (Element (html_name (spelled Title)) attributes x kids rest))
        (planted (Element (html_name (spelled Title)) attributes x kids rest) m f)) (sym w.1)
        (title-first attributes w.3 kids rest (subst (λ k. IsPlain (inside InHead k) false kids) only w.4) w.5 last f good))

    -- BEHIND THE HEAD

    abbrev pub after_head : Forest → State
    after_head f = at o (Some hd) mode.AfterHead f (opened n Html ∷ []) [] true

    ready-after_head : (f : Forest) (t : _) → f.errors ≡ 0 → IsReady (after_head f) t
    unfolding is_fit names_of
    ready-after_head f t silent = record { goes_on = refl; fit = refl; free = refl; keeps_lf = refl; silent = silent }

    pub head-ends : (f : Forest) → f.errors ≡ 0 → TakesQuietly rows (in_head f) (end_token (spelled Head)) (after_head f) Continue
    head-ends f silent = tag-once rows _ _ (named EndTag (spelled Head)) false (ready-in_head f _ silent) refl
        (end-head o (Some hd) f n m) silent

    space-takes : (f : Forest) (ok : Bool) (c : ℕ) → IsGood f n → is_white c ≡ true
        → TakesQuietly rows (after_head f) (CharacterTokens (c ∷ [])) (after_head (put_text f (Last n) (c ∷ []))) Continue
    space-takes f ok c good white =
        character-once rows _ _ c false (ready-after_head f _ good.silent)
        (space-after_head o (Some hd) f n m c (space-of c white) ∙ ap (λ s. turn_of s (Finished false))
        (appended o (Some hd) mode.AfterHead (c ∷ []) n Html f [] [] true)) (good-text f n (c ∷ []) good).silent

    pub space-reads : (last : Option (List ℕ)) (cs : List ℕ) → list_all is_white cs ≡ true → (f : Forest)
        → IsGood f n → Reads rows (in_data last) (after_head f) (escape cs) (in_data last) (after_head (put_text f (Last n) cs))
    space-reads last cs white f good = text-reads rows reads InData last n (λ f ok. after_head f)
        (λ c ok. ok) is_white space-takes cs (white-not_null cs white) white f true good

    -- THE BODY

    abbrev pub after_body : ℕ → Forest → Bool → State
    after_body b f ok = at o (Some hd) mode.AfterBody f (opened b Body ∷ opened n Html ∷ []) [] ok

    body-fits : (b : ℕ) (f : Forest) → Fits InFlow OfBody f (opened b Body ∷ opened n Html ∷ []) []
    unfolding names_of
    body-fits b f = record {
      home = record { root = refl; templates = refl; cell = refl };
      takes = (record { back = λ s. refl; no_paragraph = refl }, refl);
      below = tt;
      all_open = tt;
      lists = tt;
    }

    pub body-begins : (attrs : List Attribute) (f : Forest) → f.errors ≡ 0 → TakesQuietly rows (after_head f)
        (start_token (spelled Body) attrs)
        (at o (Some hd) mode.InBody (put_new f (Last n) (element_node Body attrs))
        (opened (node_count f) Body ∷ opened n Html ∷ []) [] false) Continue
    body-begins attrs f silent = tag-once rows _ _ (tag_of Body attrs) false (ready-after_head f _ silent) refl
        (start-body o (Some hd) f n m attrs) silent

    pub body-ends : (b : ℕ) (f : Forest) (ok : Bool) → f.errors ≡ 0
        → TakesQuietly rows (at o (Some hd) mode.InBody f (opened b Body ∷ opened n Html ∷ []) [] ok)
        (end_token (spelled Body)) (after_body b f ok) Continue
    unfolding is_fit names_of
    body-ends b f ok silent = tag-once rows _ _ (named EndTag (spelled Body)) false
        (record { goes_on = refl; fit = refl; free = refl; keeps_lf = refl; silent = silent }) refl
        (end-body o (Some hd) f n b [] ok) silent

    pub record BodyRead (last : Option (List ℕ)) (f : Forest) (text : List ℕ) (g : Forest) (b : ℕ) : Type 0 where
      pub left : Option (List ℕ)
      pub frameset_ok : Bool
      pub runs : Reads rows (in_data last) (after_head f) text (in_data left) (after_body b g frameset_ok)

    -- white space after the head, and the body
    pub body-reads : (space : List ℕ) → list_all is_white space ≡ true → (attrs : List Attribute)
        → are_plain_attributes attrs ≡ true → (flow : Trees) → IsPlain InFlow false flow → (last : Option (List ℕ))
        (f : Forest) → IsGood f n
        → let g = put_text f (Last n) space in
        BodyRead last f (escape space
        ++ (start_tag (spelled Body) attrs ++ (text_of sc flow ++ (end_tag (spelled Body) ++ []))))
        (planted flow (node_count g) (put_new g (Last n) (element_node Body attrs))) (node_count g)
    body-reads space white attrs plain flow is last f good =
        let g = put_text f (Last n) space in
        let good_g = good-text f n space good in
        let b = node_count g in
        let h = put_new g (Last n) (element_node Body attrs) in
        let inner = good-element g n Body attrs good_g in
        let stack = opened b Body ∷ opened n Html ∷ [] in
        let within = law rows reads sc o (Some hd) flow InFlow false is OfBody b Body (opened n Html ∷ [])
        (Some (spelled Body)) h [] false inner (body-fits b h) in
        let k = planted flow b h in
        let left = good-planted flow b b h false (plain-plantable InFlow false flow is) inner inner.parent in
        let flows = rw within.drops at within.reads in
        record {
          left = within.last_tag;
          frameset_ok = within.frameset_ok;
          runs =
              reads-both rows (in_data last) (in_data last) (in_data within.last_tag) (after_head f) (after_head g)
              (after_body b k within.frameset_ok) (escape space) _ (space-reads last space white f good)
              (reads-both rows (in_data last) (in_data (Some (spelled Body))) (in_data within.last_tag)
              (after_head g) (at o (Some hd) mode.InBody h stack [] false) (after_body b k within.frameset_ok)
              (start_tag (spelled Body) attrs) _ (start-reads Body attrs plain last _ _ (body-begins attrs g good_g.silent))
              (reads-both rows (in_data (Some (spelled Body))) (in_data within.last_tag) (in_data within.last_tag)
              (at o (Some hd) mode.InBody h stack [] false)
              (at o (Some hd) mode.InBody k stack [] within.frameset_ok) (after_body b k within.frameset_ok) (text_of sc flow) _ flows
              (reads-both rows (in_data within.last_tag) (in_data within.last_tag) (in_data within.last_tag) _ _ _
              (end_tag (spelled Body)) []
              (end-reads Body within.last_tag _ _ (body-ends b k within.frameset_ok left.silent)) runs.NoText)));
        }
