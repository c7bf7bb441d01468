-- Actions under which loose elements alone come and go.
use Rattle.std.proofs.Common.{◌≡◌, ◌∙◌, ℕ, Bool, true, false, List, [], ◌∷◌, Option, Some, None, refl, sym, true≢false, codes, subst}
use Rattle.std.specs.Prelude.{◌&&◌, not, IfSome}
use Rattle.std.proofs.lemmas.Bool.{and_parts}
use Rattle.markup.specs.Forest.{data_of, element_name, node_count}
use Rattle.html_tokens.specs.declared.tags.Tag.{Tag}
use Rattle.html_tokens.specs.declared.token.Token.{Token}
use Rattle.html_tokens.specs.declared.token.Token.TheVariants.{TagToken}
use Rattle.html_rules.specs.Actions.{act, for_tag, frameset_not_ok, frameset_not_ok_unless_white, keep_text, remove_form_elem}
use Rattle.html_rules.specs.Actions.{remove_from_stack_if, set_foster_parenting, set_ignore_lf, set_quirks_mode}
use Rattle.html_rules.specs.Actions.{insert_pending_text}
use Rattle.html_rules.specs.Adoption.{handle_misnested_a_tags}
use Rattle.std.specs.List.{list_all}
use Rattle.std.proofs.lemmas.Slice.Eq.{bytes_eq-Decides}
use Rattle.markup.specs.declared.attributes.Attribute.{Attribute}
use Rattle.html_rules.specs.Choice.{choose}
use Rattle.html_rules.specs.ForeignContent.{ends_foreign, ends_foreign_in, enter_foreign, is_end_tag, pop_foreign}
use Rattle.html_rules.specs.Formatting.{clear_active_formatting_to_marker, create_formatting_element_for, last_named, push_marker}
use Rattle.html_rules.specs.Names.{Namespace, Html, MathMl, Svg, Other, element_name_of, is_html}
use Rattle.html_rules.specs.Places.{append_comment, append_comment_to_doc, append_comment_to_html, append_text}
use Rattle.html_rules.specs.Places.{insert_and_pop_element_for, insert_element, insert_element_for, put_element}
use Rattle.html_rules.specs.Sets.{is_among, mathml_names_of, names_in, names_of, svg_names_of}
use Rattle.html_rules.specs.Stack.{add_attributes_to, add_attributes_to_body, close_item, without_current_but_root}
use Rattle.html_rules.specs.Stack.{add_attributes_to_root, body_elem, check_body_end, generate_implied_end_tags, parse_error}
use Rattle.html_rules.specs.Stack.{pop_but_root, pop_until}
use Rattle.html_rules.specs.State.{Open, State, current_is, is_in, is_named, named_in}
use Rattle.html_rules.specs.Table.{Action, Nothing, ParseError, InsertElement, InsertVoid, InsertVoidAs, InsertNew}
use Rattle.html_rules.specs.Table.{InsertNewVoid, AppendText, AppendReplacement, AppendComment, AppendCommentToDocument}
use Rattle.html_rules.specs.Table.{AppendCommentToRoot, AddAttributesToRoot, AddAttributesToBody, Pop, PopUntil, CloseToken}
use Rattle.html_rules.specs.Table.{CloseP, CloseItem, ImpliedEndTags, ImpliedEndTagsExcept, ImpliedEndTagsExceptToken}
use Rattle.html_rules.specs.Table.{AnyOtherEndTag, CheckBodyEnd, RemoveFormElem, Reconstruct, InsertFormatting, InsertMarker}
use Rattle.html_rules.specs.Table.{ClearToMarker, AdoptionAgency, AdoptNobr, CloseMisnestedA, SetQuirks, FramesetNotOk}
use Rattle.html_rules.specs.Table.{FramesetNotOkUnlessWhite, IgnoreLineFeed, EnableFosterParenting, DisableFosterParenting}
use Rattle.html_rules.specs.Table.{KeepText, InsertPendingText, EnterForeign, PopForeign}
use Rattle.html_rules.specs.Tokens.{attributes_of, name_of}
use Rattle.html_rules.specs.declared.tag_set.TagSet.{TagSet}
use Rattle.html_rules.specs.declared.tag_set.TagSet.TheVariants as set
use Rattle.html_rules_laws.specs.Nesting.{Part, Ground, base, is_loose, part_of, parts, set_of}
use Rattle.html_rules_laws.specs.Ready.{are_formatting}
use Rattle.html_rules_laws.specs.Soundness.{Standing}
use Rattle.html_rules_laws.proofs.Names.{disjoint, shares_name}
use Rattle.html_rules_laws.proofs.SetFacts.{all_among, among-all, in-within, within}
use Rattle.html_rules_laws.proofs.Termination.Kinds.{Kind, Ends, EndsBut, is_of}
use Rattle.html_rules_laws.proofs.Soundness.Acts.{formatting-of, formatting_kind}
use Rattle.html_rules_laws.proofs.Frames.Framed as framed
use Rattle.html_rules_laws.proofs.Frames.Framed.{IsFramed}
use Rattle.html_rules_laws.proofs.ModesPreserved.Parts.{are_loose, foreign-loose, is_loose_name, name-loose, part-set, set-loose, set_of-by}
use Rattle.html_rules_laws.proofs.ModesPreserved.Smooth.{Guard, Reaches, ReachesToken, Current, Holds, is_tag_kind, kind-loose}
use Rattle.html_rules_laws.proofs.ModesPreserved.Smooth.{loose_kind, token-loose}
use Rattle.html_rules_laws.proofs.ModesPreserved.Stacks.{drop, frees-same, reach, reach-frees, reach-more}
use Rattle.html_rules_laws.proofs.ModesPreserved.Steps.{IsFlow, agency-flow, close-flow, close_item-flow, close_p-flow}
use Rattle.html_rules_laws.proofs.ModesPreserved.Steps.{except-flow, flow-either, flow-frees, flow-push, flow-same}
use Rattle.html_rules_laws.proofs.ModesPreserved.Steps.{formatting-loose, generic-flow, implied-flow, insert-flow}
use Rattle.html_rules_laws.proofs.ModesPreserved.Steps.{misnested_a-flow, names-loose, pop_foreign-flow, reconstruct-flow}
use Rattle.html_rules_laws.proofs.ModesPreserved.Steps.{removed-flow, tell-flow}
use Rattle.html_rules_laws.proofs.Bools.{no, not_true}
use Rattle.html_rules_laws.proofs.Frames.KeptBySteps.{agency-keeps, check-keeps, close_item-keeps, close_p-keeps, enter-keeps}
use Rattle.html_rules_laws.proofs.Frames.KeptBySteps.{except-keeps, expect_to_close-keeps, generic-keeps, insert-keeps}
use Rattle.html_rules_laws.proofs.Frames.KeptBySteps.{list-keeps, misnested-keeps, pop_until-keeps, pop_until_current-keeps}
use Rattle.html_rules_laws.proofs.Frames.KeptBySteps.{reconstruct-keeps, tell-keeps, unopened-keeps}

-- a token that does not name a part
abbrev pub other_kind : Kind → Part → Bool
other_kind (Ends names) b = not (shares_name names (names_of (set_of b)))
other_kind (EndsBut names) b = all_among (names_of (set_of b)) names
other_kind kind b = false

abbrev pub is_item : TagSet → Bool
is_item set.Li = true
is_item set.DdDt = true
is_item names = false

abbrev pub flows : Kind → Guard → Part → Action → Bool
flows kind gd b Nothing = true
flows kind gd b ParseError = true
flows kind gd b InsertVoid = true
flows kind gd b (InsertVoidAs name) = true
flows kind gd b (InsertNewVoid name) = true
flows kind gd b AppendText = true
flows kind gd b AppendReplacement = true
flows kind gd b AppendComment = true
flows kind gd b AppendCommentToDocument = true
flows kind gd b AppendCommentToRoot = true
flows kind gd b AddAttributesToRoot = true
flows kind gd b AddAttributesToBody = true
flows kind gd b CheckBodyEnd = true
flows kind gd b InsertMarker = true
flows kind gd b ClearToMarker = true
flows kind gd b SetQuirks = true
flows kind gd b FramesetNotOk = true
flows kind gd b FramesetNotOkUnlessWhite = true
flows kind gd b IgnoreLineFeed = true
flows kind gd b EnableFosterParenting = true
flows kind gd b DisableFosterParenting = true
flows kind gd b KeepText = true
flows kind gd b InsertElement = is_tag_kind kind && loose_kind kind
flows kind gd b (InsertNew name) = is_loose_name name parts
flows kind (Current names) b Pop = are_loose names
flows kind (Reaches names) b (PopUntil others) = within names others
flows kind ReachesToken b CloseToken = true
flows kind gd b CloseP = true
flows kind gd b (CloseItem items) = is_item items
flows kind gd b ImpliedEndTags = true
flows kind gd b (ImpliedEndTagsExcept names) = true
flows kind gd b ImpliedEndTagsExceptToken = true
flows kind gd b AnyOtherEndTag = other_kind kind b
flows kind gd b Reconstruct = true
flows kind gd b InsertFormatting = formatting_kind kind
flows kind gd b AdoptionAgency = is_tag_kind kind && loose_kind kind
flows kind gd b AdoptNobr = true
flows kind gd b CloseMisnestedA = true
flows kind gd b InsertPendingText = true
flows kind gd b (EnterForeign namespace) = not (is_html namespace)
flows kind gd b PopForeign = true
flows kind gd b RemoveFormElem = true
flows kind gd b a = false

tag-flow : (g : Ground) (step : Tag → State → State) (kind : Kind) (t : Token) → is_of kind t ≡ true → (s : State)
    → ((tag : Tag) → is_of kind (TagToken tag) ≡ true → IsFlow g s.open_elems (step tag s).open_elems)
    → IsFlow g s.open_elems (for_tag step t s).open_elems
tag-flow g step kind (TagToken tag) f s h = h tag f
tag-flow g step kind t f s h = flow-same g s.open_elems

void-flow : (g : Ground) (tag : Tag) (s : State) → IsFlow g s.open_elems (insert_and_pop_element_for tag s).open_elems
unfolding put_element
void-flow g tag s = flow-same g s.open_elems

popped-flow : (g : Ground) (names : TagSet) → are_loose names ≡ true → (xs : List Open)
    → current_is (is_in names) xs ≡ true → IsFlow g xs (without_current_but_root xs)
popped-flow g names l [] h = flow-same g []
popped-flow g names l (x ∷ xs) h = by (is_in set.Html x) where
  by : (b : Bool) → IsFlow g (x ∷ xs) (choose b (λ _. x ∷ xs) (λ _. xs))
  by true = flow-same g (x ∷ xs)
  by false = flow-frees g (x ∷ xs) xs (drop x xs xs (set-loose names l x h) (frees-same xs))

formatting-flow : (g : Ground) (tag : Tag) → is_among tag.name (names_of set.FormattingEnd) ≡ true → (s : State)
    → IsFlow g s.open_elems (create_formatting_element_for tag s).open_elems
unfolding create_formatting_element_for insert_element
formatting-flow g tag h s = flow-push g (record { number = node_count s.forest; namespace = Html; name = tag.name; rules = s.opts.rules })
    s.open_elems (name-loose tag.name (formatting-loose tag h) (node_count s.forest) s.opts.rules)

pub foreign-flow : (g : Ground) (namespace : Namespace) (tag : Tag) → is_html namespace ≡ false → (s : State)
    → IsFlow g s.open_elems (enter_foreign namespace tag s).open_elems
unfolding enter_foreign put_element insert_element
foreign-flow g namespace tag h s = flow-either g s.open_elems tag.self_closing _ _ (flow-same g s.open_elems)
    (flow-push g (record { number = node_count s.forest; namespace = namespace; name = tag.name; rules = s.opts.rules }) s.open_elems (foreign-loose _ h))

-- the token does not name the part that was opened last
pub named-out : (names : List (List ℕ)) → (name : List ℕ) (b : Part) → is_among name (names_of (set_of b)) ≡ false
    → is_loose b ≡ false → (x : Open) → is_named name x ≡ true → part_of x ≡ b → ⊥
named-out names name b out l x i e = by x.namespace x.name i
    (subst (λ these. is_among x.name (names_in x.namespace these) ≡ true) (set_of-by x.rules b) (part-set x b e l)) where
      by : (namespace : Namespace) (own : List ℕ) → named_in namespace own name ≡ true → is_among own (names_in namespace (set_of b)) ≡ true → ⊥
      by Html own i k = true≢false (sym (rw ((bytes_eq-Decides own name).0 i) at k) ∙ out)
      by MathMl own i k = no i
      by Svg own i k = no i
      by (Other uri) own i k = no i

other-name : (kind : Kind) (b : Part) → other_kind kind b ≡ true → (t : Token) → is_of kind t ≡ true
    → is_among (name_of t) (names_of (set_of b)) ≡ false
other-name (Ends names) b h (TagToken tag) k = disjoint tag.name names (names_of (set_of b)) (not_true _ h)
    (and_parts (is_end_tag tag.kind) _ k).1
other-name (EndsBut names) b h (TagToken tag) k = by (is_among tag.name (names_of (set_of b))) refl where
  by : (c : Bool) → is_among tag.name (names_of (set_of b)) ≡ c → is_among tag.name (names_of (set_of b)) ≡ false
  by true e = absurd (true≢false (sym (among-all tag.name (names_of (set_of b)) names h e)
      ∙ not_true _ (and_parts (is_end_tag tag.kind) _ k).1))
  by false e = e
other-name (Ends names) b h t k = no k
other-name (EndsBut names) b h t k = no k
other-name kind b h t k = no h

item-flow : (g : Ground) (items : TagSet) → is_item items ≡ true → (s : State) → IsFlow g s.open_elems (close_item items s).open_elems
unfolding names_of mathml_names_of svg_names_of
item-flow g set.Li h s = close_item-flow g set.Li (λ rules. refl) refl refl refl s
item-flow g set.DdDt h s = close_item-flow g set.DdDt (λ rules. refl) refl refl refl s
item-flow g items h s = no h

nobr-loose : is_loose_name (codes "nobr") parts ≡ true
unfolding names_of
nobr-loose = refl

form-loose : is_loose_name (codes "form") parts ≡ true
unfolding names_of
form-loose = refl

form-flow : (g : Ground) (o : Option ℕ) (s : State)
    → IfSome o (λ n. element_name (data_of s.forest n) ≡ Some (element_name_of Html (codes "form"))) → Standing s
    → IsFlow g s.open_elems (remove_from_stack_if o s).open_elems
form-flow g None s h is = flow-same g s.open_elems
form-flow g (Some n) s h is = removed-flow g n (codes "form") s h form-loose is

pending-flow : (g : Ground) (s : State) → are_formatting s.active_formatting ≡ true → IsFlow g s.open_elems
    (insert_pending_text s).open_elems
unfolding insert_pending_text
pending-flow g s l = tell-flow g s.pending_table_text s l

body-flow : (g : Ground) (o : Option ℕ) (attributes : List Attribute) (s : State) → IsFlow g s.open_elems
    (add_attributes_to o attributes s).open_elems
body-flow g None attributes s = flow-same g s.open_elems
body-flow g (Some n) attributes s = flow-same g s.open_elems

check-flow : (g : Ground) (s : State) → IsFlow g s.open_elems (check_body_end s).open_elems
unfolding check_body_end parse_error
check-flow g s = flow-either g s.open_elems (list_all (is_in set.BodyEnd) s.open_elems) s (parse_error s)
    (flow-same g s.open_elems) (flow-same g s.open_elems)

until-flow : (g : Ground) (p : Open → Bool) (s : State) → reach p s.open_elems ≡ true → IsFlow g s.open_elems (pop_until p s).open_elems
unfolding pop_until
until-flow g p s r = flow-frees g s.open_elems _ (reach-frees p s.open_elems r)

pub act-flow : (g : Ground) (kind : Kind) (gd : Guard) (b : Part) (a : Action) → flows kind gd b a ≡ true
    → is_loose b ≡ false → (t : Token) → is_of kind t ≡ true → (s : State) → base s.open_elems ≡ b → Holds gd t s
    → IfSome s.form_elem (λ n. element_name (data_of s.forest n) ≡ Some (element_name_of Html (codes "form")))
    → are_formatting s.active_formatting ≡ true → Standing s → IsFlow g s.open_elems (act a t s).open_elems
unfolding parse_error put_element append_text append_comment append_comment_to_doc append_comment_to_html
    add_attributes_to_root add_attributes_to_body push_marker clear_active_formatting_to_marker set_quirks_mode
    frameset_not_ok frameset_not_ok_unless_white set_ignore_lf set_foster_parenting keep_text remove_form_elem
    insert_element pop_but_root names_of
act-flow g kind gd b Nothing f l t k s e h form fs is = flow-same g s.open_elems
act-flow g kind gd b ParseError f l t k s e h form fs is = flow-same g s.open_elems
act-flow g kind gd b InsertVoid f l t k s e h form fs is = tag-flow g insert_and_pop_element_for kind t k s (λ tag j. void-flow g tag s)
act-flow g kind gd b (InsertVoidAs name) f l t k s e h form fs is =
    tag-flow g (λ tag. insert_and_pop_element_for (record tag { name = name })) kind t k s
    (λ tag j. void-flow g (record tag { name = name }) s)
act-flow g kind gd b (InsertNewVoid name) f l t k s e h form fs is = flow-same g s.open_elems
act-flow g kind gd b AppendText f l t k s e h form fs is = flow-same g s.open_elems
act-flow g kind gd b AppendReplacement f l t k s e h form fs is = flow-same g s.open_elems
act-flow g kind gd b AppendComment f l t k s e h form fs is = flow-same g s.open_elems
act-flow g kind gd b AppendCommentToDocument f l t k s e h form fs is = flow-same g s.open_elems
act-flow g kind gd b AppendCommentToRoot f l t k s e h form fs is = flow-same g s.open_elems
act-flow g kind gd b AddAttributesToRoot f l t k s e h form fs is = flow-same g s.open_elems
act-flow g kind gd b AddAttributesToBody f l t k s e h form fs is = body-flow g (body_elem s.open_elems) (attributes_of t) s
act-flow g kind gd b CheckBodyEnd f l t k s e h form fs is = check-flow g s
act-flow g kind gd b InsertMarker f l t k s e h form fs is = flow-same g s.open_elems
act-flow g kind gd b ClearToMarker f l t k s e h form fs is = flow-same g s.open_elems
act-flow g kind gd b SetQuirks f l t k s e h form fs is = flow-same g s.open_elems
act-flow g kind gd b FramesetNotOk f l t k s e h form fs is = flow-same g s.open_elems
act-flow g kind gd b FramesetNotOkUnlessWhite f l t k s e h form fs is = flow-same g s.open_elems
act-flow g kind gd b IgnoreLineFeed f l t k s e h form fs is = flow-same g s.open_elems
act-flow g kind gd b EnableFosterParenting f l t k s e h form fs is = flow-same g s.open_elems
act-flow g kind gd b DisableFosterParenting f l t k s e h form fs is = flow-same g s.open_elems
act-flow g kind gd b KeepText f l t k s e h form fs is = flow-same g s.open_elems
act-flow g kind gd b InsertElement f l t k s e h form fs is = let tests = and_parts (is_tag_kind kind) _ f in
    tag-flow g insert_element_for kind t k s (λ tag j. insert-flow g tag (kind-loose kind tag tests.1 j) s)
act-flow g kind gd b (InsertNew name) f l t k s e h form fs is =
    flow-push g (record { number = node_count s.forest; namespace = Html; name = name; rules = s.opts.rules }) s.open_elems
    (name-loose name f (node_count s.forest) s.opts.rules)
act-flow g kind (Current names) b Pop f l t k s e h form fs is = popped-flow g names f s.open_elems h
act-flow g kind (Reaches names) b (PopUntil others) f l t k s e h form fs is = until-flow g (is_in others) s
    (reach-more (is_in names) (is_in others) (in-within names others f) s.open_elems h)
act-flow g kind ReachesToken b CloseToken f l t k s e h form fs is = close-flow g (is_named (name_of t)) s h
act-flow g kind gd b CloseP f l t k s e h form fs is = close_p-flow g s
act-flow g kind gd b (CloseItem items) f l t k s e h form fs is = item-flow g items f s
act-flow g kind gd b ImpliedEndTags f l t k s e h form fs is = implied-flow g s
act-flow g kind gd b (ImpliedEndTagsExcept names) f l t k s e h form fs is = except-flow g (is_in names) s
act-flow g kind gd b ImpliedEndTagsExceptToken f l t k s e h form fs is = except-flow g (is_named (name_of t)) s
act-flow g kind gd b AnyOtherEndTag f l t k s e h form fs is = generic-flow g (name_of t) s
    (λ x n o p. named-out [] (name_of t) b (other-name kind b f t k) l x n (p ∙ e))
act-flow g kind gd b Reconstruct f l t k s e h form fs is = reconstruct-flow g s fs
act-flow g kind gd b InsertFormatting f l t k s e h form fs is = tag-flow g create_formatting_element_for kind t k s
    (λ tag j. formatting-flow g tag (formatting-of kind tag f j) s)
act-flow g kind gd b AdoptionAgency f l t k s e h form fs is = let tests = and_parts (is_tag_kind kind) _ f in
    agency-flow g (name_of t) s (token-loose kind t tests.0 tests.1 k) fs is
act-flow g kind gd b AdoptNobr f l t k s e h form fs is = agency-flow g (codes "nobr") s (names-loose (codes "nobr") nobr-loose) fs is
act-flow g kind gd b CloseMisnestedA f l t k s e h form fs is = misnested_a-flow g s fs is
act-flow g kind gd b InsertPendingText f l t k s e h form fs is = pending-flow g s fs
act-flow g kind gd b (EnterForeign namespace) f l t k s e h form fs is = tag-flow g (enter_foreign namespace) kind t
    k s (λ tag j. foreign-flow g namespace tag (not_true _ f) s)
act-flow g kind gd b PopForeign f l t k s e h form fs is = pop_foreign-flow g s
act-flow g kind gd b RemoveFormElem f l t k s e h form fs is = form-flow g s.form_elem s form is
act-flow g kind gd b a f l t k s e h form fs is = no f

-- what these leave of the flag and of the pointer

tag-framed : (step : Tag → State → State) (t : Token) → ((tag : Tag) (s : State) → IsFramed s (step tag s))
    → (s : State) → IsFramed s (for_tag step t s)
tag-framed step (TagToken tag) h s = h tag s
tag-framed step t h s = framed.same s

pending-framed : (s : State) → IsFramed s (insert_pending_text s)
unfolding insert_pending_text
pending-framed s = let told = tell-keeps framed.framed_kept s.pending_table_text s in record { framed = told.framed; form = told.form }

formatting-framed : (tag : Tag) (s : State) → IsFramed s (create_formatting_element_for tag s)
unfolding create_formatting_element_for
formatting-framed tag s = framed.after s _ _ (framed.other s _ _ _ _) ((list-keeps framed.framed_kept) tag _)

pub act-framed : (kind : Kind) (gd : Guard) (b : Part) (a : Action) → flows kind gd b a ≡ true
    → (t : Token) (s : State) → IsFramed s (act a t s)
unfolding append_text append_comment append_comment_to_doc append_comment_to_html add_attributes_to_root
    add_attributes_to_body push_marker clear_active_formatting_to_marker set_quirks_mode frameset_not_ok
    frameset_not_ok_unless_white set_ignore_lf set_foster_parenting keep_text remove_form_elem
    generate_implied_end_tags pop_but_root pop_foreign handle_misnested_a_tags
act-framed kind gd b Nothing f t s = framed.same s
act-framed kind gd b ParseError f t s = framed.framed_kept.errs s
act-framed kind gd b InsertVoid f t s = tag-framed insert_and_pop_element_for t
    (λ tag s. framed.framed_kept.puts Html tag.name tag.attrs tag.had_duplicate_attributes s) s
act-framed kind gd b (InsertVoidAs name) f t s =
    tag-framed (λ tag. insert_and_pop_element_for (record tag { name = name })) t
    (λ tag s. framed.framed_kept.puts Html name tag.attrs tag.had_duplicate_attributes s) s
act-framed kind gd b (InsertNewVoid name) f t s = framed.framed_kept.puts Html name [] false s
act-framed kind gd b AppendText f t s = framed.other s _ _ _ _
act-framed kind gd b AppendReplacement f t s = framed.other s _ _ _ _
act-framed kind gd b AppendComment f t s = framed.other s _ _ _ _
act-framed kind gd b AppendCommentToDocument f t s = framed.other s _ _ _ _
act-framed kind gd b AppendCommentToRoot f t s = framed.other s _ _ _ _
act-framed kind gd b AddAttributesToRoot f t s = framed.other s _ _ _ _
act-framed kind gd b AddAttributesToBody f t s = framed.framed_kept.adds (body_elem s.open_elems) (attributes_of t) s
act-framed kind gd b CheckBodyEnd f t s = check-keeps framed.framed_kept s
act-framed kind gd b InsertMarker f t s = framed.other s _ _ _ _
act-framed kind gd b ClearToMarker f t s = framed.other s _ _ _ _
act-framed kind gd b SetQuirks f t s = record { framed = λ e. e; form = refl }
act-framed kind gd b FramesetNotOk f t s = record { framed = λ e. no e; form = refl }
act-framed kind gd b FramesetNotOkUnlessWhite f t s = record { framed = λ e. (and_parts s.frameset_ok _ e).0; form = refl }
act-framed kind gd b IgnoreLineFeed f t s = record { framed = λ e. e; form = refl }
act-framed kind gd b EnableFosterParenting f t s = record { framed = λ e. e; form = refl }
act-framed kind gd b DisableFosterParenting f t s = record { framed = λ e. e; form = refl }
act-framed kind gd b KeepText f t s = record { framed = λ e. e; form = refl }
act-framed kind gd b InsertElement f t s = tag-framed insert_element_for t (insert-keeps framed.framed_kept) s
act-framed kind gd b (InsertNew name) f t s = framed.framed_kept.inserts Html name [] false s
act-framed kind gd b Pop f t s = framed.other s _ _ _ _
act-framed kind gd b (PopUntil others) f t s = pop_until-keeps framed.framed_kept (is_in others) s
act-framed kind gd b CloseToken f t s = expect_to_close-keeps framed.framed_kept (is_named (name_of t)) s
act-framed kind gd b CloseP f t s = close_p-keeps framed.framed_kept s
act-framed kind gd b (CloseItem items) f t s = close_item-keeps framed.framed_kept items s
act-framed kind gd b ImpliedEndTags f t s = framed.other s _ _ _ _
act-framed kind gd b (ImpliedEndTagsExcept names) f t s = except-keeps framed.framed_kept (is_in names) s
act-framed kind gd b ImpliedEndTagsExceptToken f t s = except-keeps framed.framed_kept (is_named (name_of t)) s
act-framed kind gd b AnyOtherEndTag f t s = generic-keeps framed.framed_kept (name_of t) s
act-framed kind gd b Reconstruct f t s = reconstruct-keeps framed.framed_kept s
act-framed kind gd b InsertFormatting f t s = tag-framed create_formatting_element_for t formatting-framed s
act-framed kind gd b AdoptionAgency f t s = agency-keeps framed.framed_kept (name_of t) s
act-framed kind gd b AdoptNobr f t s = agency-keeps framed.framed_kept (codes "nobr") s
act-framed kind gd b CloseMisnestedA f t s = misnested-keeps framed.framed_kept (last_named (codes "a") s.active_formatting) s
act-framed kind gd b InsertPendingText f t s = pending-framed s
act-framed kind gd b (EnterForeign namespace) f t s = tag-framed (enter_foreign namespace) t ((enter-keeps framed.framed_kept) namespace) s
act-framed kind gd b PopForeign f t s = pop_until_current-keeps framed.framed_kept (ends_foreign_in s) s
act-framed kind gd b RemoveFormElem f t s = unopened-keeps framed.framed_kept s.form_elem s
act-framed kind gd b a f t s = no f
